-- Tables of the nodes' values.
pub mod Parts
