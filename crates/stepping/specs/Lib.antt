-- What a step answers, in the types of the code (Answer); and what the functions of a step ask and leave, for the body
-- of a file that passed 1 to 11 (Step).
pub mod Answer
pub mod Step
