-- Laws that are proved here, apart from the definitions.
pub mod Examples
pub mod Exchange
pub mod FedBack
