pub mod PostLemmas
pub mod DeadlockLemmas
pub mod OrderLemmas
pub mod MemberLemmas
pub mod WalkLemmas
pub mod ReaderLemmas
pub mod CountLemmas
pub mod PlacedLemmas
pub mod WordLemmas
pub mod FormLemmas
pub mod AdmittedLemmas
mod FormFacts
mod DraftFacts
mod StandardFacts
mod AdmittedFacts
mod RefusalFacts
