-- Laws for the proofs: of tokens typed one after another (Prints), of lists that grow by a member (Separated), and of
-- the forms of the notation (Forms).
pub mod Prints
pub mod Separated
pub mod Forms
