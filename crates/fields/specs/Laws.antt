-- Laws of the fields of a chart: sets of signals (Sets), guards (Guards), transitions (Transitions).
pub mod Sets
pub mod Guards
pub mod Transitions
