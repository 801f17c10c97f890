-- The laws of roundtrip.
pub mod Laws
