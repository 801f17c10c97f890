-- The laws of faithful.
pub mod Laws
