-- That a search over tables finds what a step means. In order: what the tables hold (Contents); lists of outcomes that
-- say the same (Padded); a trail that follows a choice (Follow); what of an action is read (Narrowing); the search
-- (Simulation); how candidates get into the tables (Insertion); the step (Step); and how triggers do (Triggers).
pub mod Contents
pub mod Padded
pub mod Follow
pub mod Narrowing
pub mod Simulation
pub mod Insertion
pub mod Step
pub mod Triggers
