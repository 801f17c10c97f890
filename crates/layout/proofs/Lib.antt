-- What several proofs of layout share: a record is written part by part (Laws).
pub mod Laws
