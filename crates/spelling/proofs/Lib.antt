-- The laws of spelling.
pub mod Laws
