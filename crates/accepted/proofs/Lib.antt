-- The laws of accepted.
pub mod Laws
