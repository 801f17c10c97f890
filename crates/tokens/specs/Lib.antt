-- The tokens of a text, read again for their numbers: what the next token is, as bytes (Tokens), and that it is the
-- token which the grammar has there (Laws).
pub mod Tokens
pub mod Laws
