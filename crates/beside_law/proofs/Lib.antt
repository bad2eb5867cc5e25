pub mod LegalLemmas
pub mod SameLemmas
pub mod BesideLemmas
pub mod HeldLemmas
pub mod AckedLemmas
pub mod LeftLemmas
pub mod LoadLemmas
mod StandardFacts
