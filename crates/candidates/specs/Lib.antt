-- What the contracts of candidates cite: what choosing them asks and leaves in a search's tables (Candidates).
pub mod Candidates
