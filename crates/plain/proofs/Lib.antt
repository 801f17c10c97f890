-- What proofs of plain share: a list of transitions as a loop passes it.
pub mod Laws
pub mod Choices
pub mod Sure
