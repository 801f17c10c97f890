-- What the contracts of allocation cite beyond the crate meaning.
pub mod Known
