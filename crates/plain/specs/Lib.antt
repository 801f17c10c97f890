-- Plain files (RULES 8.3): the steps of a plain file have the mark yes, or no choice is permitted. In order: what one
-- chart may take (Moves); two permitted choices of a tree (Choices); a file, and the bytes that a call is given (Sure).
-- What plain means is in meaning's Plain.
-- Laws that are named here and not declared below lie in proofs/.
pub mod Moves
pub mod Choices
