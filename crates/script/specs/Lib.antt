-- The text of a file's tree: what is typed of a node, of a master and of slaves (Tree), and laws for the proofs (Laws).
-- Laws that are named here and not declared below lie in proofs/.
pub mod Tree
