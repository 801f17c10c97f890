-- The contracts of the calls for C and Rust, and in Promises/Laws that each determines every result.
pub mod Promises
