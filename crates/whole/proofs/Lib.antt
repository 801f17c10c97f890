-- The laws of whole.
pub mod Laws
