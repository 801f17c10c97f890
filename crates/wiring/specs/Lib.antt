-- How the tree of a file folds into masks, and which choices a search may leave out. In order: interfaces cut nothing
-- off (Uncut); the tree as masks (Reach) and a choice permitted by them (Permitted); how charts stand in a file's tree
-- (Stand); what a chart surely puts out (Sure); bounds on what a chart is offered and what they rule out (Dropped,
-- Between); the search that uses them (Pruning, Filter); the masks by node kind (ByKind), and from node 0 up (Latest).
-- Then how many choices are open: products (Product), the count from the highest chart down (Completions) and how large
-- it gets (Largest), that it is the number of open choices (Total), as code makes it (Entries), of files (Few); and
-- that the search may leave out places that begin no open choice (Spared).
pub mod Uncut
pub mod Reach
pub mod Permitted
pub mod Stand
pub mod Sure
pub mod Dropped
pub mod Between
pub mod Pruning
pub mod Filter
pub mod ByKind
pub mod Latest
pub mod Product
pub mod Completions
pub mod Largest
pub mod Total
pub mod Entries
pub mod Few
pub mod Spared
