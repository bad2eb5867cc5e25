pub mod ResultLemmas
pub mod LookLemmas
pub mod HostLemmas
pub mod CutLemmas
pub mod LoadLemmas
pub mod FlushLemmas
mod StandardFacts
