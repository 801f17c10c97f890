-- Laws of outlines: what is told of a tree is what the reading of a text says of it (Trees), counts (Counts), each form
-- read part by part (Forms), the loop over the slaves of a master (Slaves); lists that are sorted (Sorted), the nodes
-- and slaves that a chart is laid down in (Laid), those of its file (Filed).
pub mod Trees
pub mod Counts
pub mod Forms
pub mod Slaves
pub mod Sorted
pub mod Laid
pub mod Filed
