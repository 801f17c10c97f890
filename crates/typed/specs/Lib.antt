-- What is typed and shown (Typed), and what finding the end of a word's part promises (Parts).
pub mod Typed
pub mod Parts
