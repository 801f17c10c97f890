-- What proofs of checks share: loops over records.
pub mod Laws
