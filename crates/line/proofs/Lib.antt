-- What several proofs of line share: a part of a line that a loop writes piece by piece (Laws).
pub mod Laws
