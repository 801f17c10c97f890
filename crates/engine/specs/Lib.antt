-- What a step and a run promise. Promises has the contracts, and in its Laws that each determines its result. What
-- their functions over a body promise is in the crates stepping and running.
pub mod Promises
