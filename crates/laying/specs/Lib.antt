-- What the contracts of laying cite beyond the crate layout: the trailer of a body (Trailer), and bytes that are
-- written where there is room for them (Room); and laws of records that a loop writes in turn (Sequence).
pub mod Trailer
pub mod Room
pub mod Sequence
