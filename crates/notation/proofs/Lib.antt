-- The laws of notation.
pub mod Laws
