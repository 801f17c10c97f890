-- What the contracts of growth cite beyond the crates below: how many idle transitions there are (Growth).
pub mod Growth
