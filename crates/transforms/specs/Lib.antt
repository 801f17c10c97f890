-- What the calls that make a file of a file promise. Promises has the contracts, and in its Laws that each determines
-- its result. The rest is of internal functions: what those of the rewriting (Rewriting) and of clearing (Clearing) ask
-- and leave.
pub mod Promises
pub mod Rewriting
pub mod Clearing
