-- What an accepted file's tree is made of: sums over a tree (Weigh), and that in the whole each node, each chart and
-- each slave record stands once, so that a sum over the tree is a sum over the records (Laws).
-- Laws that are named here and not declared below lie in proofs/.
pub mod Weigh
