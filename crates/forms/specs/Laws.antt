-- Laws of the forms: the first byte of tokens, and what it tells (Bytes); the slaves of a master from the front, as a
-- loop reads them (Slaves).
pub mod Bytes
pub mod Slaves
