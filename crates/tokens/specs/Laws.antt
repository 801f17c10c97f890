-- Laws of tokens: one byte further, for the loops (Steps); what is read is the token that the text has there (Text); a
-- list of names, one after another (Lists).
pub mod Steps
pub mod Text
pub mod Lists
