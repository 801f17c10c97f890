-- What is read of the charts' actions, as code finds it.
pub mod Relevance
