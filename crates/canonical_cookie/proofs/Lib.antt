pub mod RowLemmas
pub mod TextLemmas
pub mod LineLemmas
pub mod MadeLemmas
pub mod SoundLemmas
mod StandardFacts
