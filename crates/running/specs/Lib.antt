-- What the functions of a run ask and leave, for the body of a file that passed 1 to 11.
pub mod Run
