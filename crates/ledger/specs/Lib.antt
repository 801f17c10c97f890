-- Where the posting stands while the cases are posted, one after another.
pub mod Underway
