-- The laws of desk.
pub mod Turns
