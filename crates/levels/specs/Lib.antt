-- What the contracts of levels name: the ring of levels (Ring), and laws for the proofs (Laws).
pub mod Ring
pub mod Laws
