-- The text laid out is read as the same chart (Shown); examples.
pub mod Examples
pub mod Shown
