-- What agrees (RULES 9.8): the rewritten file steps as the file does, and is a file again. The promises are in Calls;
-- what leads to them, in this order: over a tree, the rewriting (Tree), what is offered, put out and permitted (Same),
-- activity (Active), lists of outcomes (Upto), lists of transitions (Every), a rewritten chart (Charts), how charts
-- stand (Fit), places (Places), the same outcomes in the same order (Outcomes); over records, the call signals (Free),
-- nodes renumbered (Renamed), laid down (Laid) and checked again (Recheck), the step (Step) and its places (Taken), the
-- interfaces (Faces); over bytes, a file written and read back (Encoded, Recovered), what passing 1 to 11 gives
-- (Passed), the new records (New), the new file passes (Again) and is made of bytes (Bytes); a file without slaves
-- (Slaveless) and bytes read and written again (Reproduced); two files computed (Examples).
pub mod Tree
pub mod Same
pub mod Active
pub mod Upto
pub mod Every
pub mod Charts
pub mod Fit
pub mod Places
pub mod Outcomes
pub mod Free
pub mod Renamed
pub mod Laid
pub mod Recheck
pub mod Step
pub mod Taken
pub mod Faces
pub mod Encoded
pub mod Recovered
pub mod Passed
pub mod New
pub mod Again
pub mod Bytes
pub mod Slaveless
pub mod Reproduced
pub mod Calls
pub mod Examples
