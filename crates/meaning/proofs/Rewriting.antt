-- The rewriting (RULES 9): a file with slaves becomes a file without, rule by rule. In this order: the call signals;
-- the charts; the nodes; the rewritten file; refusals 40 to 44; the file in bytes; what the call answers. That the
-- rewritten file steps as the file does is proved in the crate agreement. Laws of the refusals are in
-- Rewriting/Laws.antt.
pub mod Laws
