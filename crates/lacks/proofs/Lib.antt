-- Laws that are proved here, apart from the definitions.
pub mod Exchanged
pub mod Laws
