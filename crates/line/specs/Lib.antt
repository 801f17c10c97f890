-- The lines of the day program: a text in bytes (Ascii), and what is printed (Line).
pub mod Ascii
pub mod Line
