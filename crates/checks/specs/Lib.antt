-- What the contracts of the file check cite beyond the crate meaning: what is known of a body after each check (Known),
-- the walk of 7 and the table that a walk keeps (Walk), the tests of a trailer (Trailer).
pub mod Known
pub mod Walk
pub mod Trailer
pub mod Refusals
