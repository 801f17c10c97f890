-- The search over tables of masks (crate cells), as far as what it finds is told by settling one chart after another,
-- so that the crate tables needs no search: what a beginning of a choice is (Trail), what the search finds (Hunt), what
-- settled charts ask of the next one's action (Asks), and the search with charts that may stay (Calm).
pub mod Trail
pub mod Hunt
pub mod Asks
pub mod Calm
