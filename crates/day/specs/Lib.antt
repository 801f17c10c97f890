-- What the contracts of the day program cite beyond the crate line.
pub mod Day
