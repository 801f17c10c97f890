-- Laws for the proofs of modes and of the recogniser: where a search of the table may start (Start), a step as one
-- number (Step).
pub mod Start
pub mod Step
