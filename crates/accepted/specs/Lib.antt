-- What is said of the file of a chart (Parts), and of a file's tree and slaves (Tree), and that the file which is read
-- from the text of an accepted file passes 1 to 10 (Laws).
-- Laws that are named here and not declared below lie in proofs/.
pub mod Parts
pub mod Tree
pub mod Laws
