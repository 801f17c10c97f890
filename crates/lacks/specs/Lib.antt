-- What a transition lacks. What a reader must believe is in Lacking, and its laws say what the answers mean
-- (proofs/Laws); exchanging the parts of a composed node changes none of them (Exchanged).
-- Laws that are named here and not declared below lie in proofs/.
pub mod Lacking
