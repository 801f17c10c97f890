-- The outline of a chart: what 52 asks of it and how many nodes and slaves it has, counted on the tree (Tree), what is
-- read of it in a text (Outline), and laws (Laws).
pub mod Tree
pub mod Outline
pub mod Laws
