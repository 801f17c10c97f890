-- What the calls that ask about a file promise. Promises has the contracts, and in its Laws that each determines its
-- result; States, what one of them answers. Faces is of internal functions: the charts' own interfaces.
pub mod Promises
pub mod States
pub mod Faces
