mod StandardFacts
pub mod DocumentLemmas
pub mod KeepingLemmas
pub mod LineLemmas
pub mod ReadLemmas
