-- The laws of meaning.
pub mod Active
pub mod Laws
pub mod Rewriting
