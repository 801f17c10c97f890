-- The laws of indent.
pub mod Laws
