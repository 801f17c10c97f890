-- What the check tells the calls that read a file.
pub mod Opening
