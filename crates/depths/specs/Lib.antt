-- What the contracts of depths cite: how deep a node is, and a table of that (Depths). Laws are in Laws.
pub mod Depths
pub mod Laws
