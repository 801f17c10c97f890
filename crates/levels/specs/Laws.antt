-- Laws for the proofs of levels: the ring (Ring), the marks (Marks), the walk back that fills the ring (Fill).
pub mod Ring
pub mod Marks
pub mod Fill
