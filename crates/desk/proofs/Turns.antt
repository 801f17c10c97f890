-- What the functions of the posting compute, one entry and one case at a time, in the order of the code. No public
-- contract uses these definitions; Turns/Posted.antt proves that together they are the posting.
pub mod Posted
