pub mod LabelLemmas
pub mod SuffixLemmas
pub mod ListLemmas
pub mod StepLemmas
pub mod NarrowLemmas
pub mod WalkLemmas
pub mod AddressLemmas
mod StandardFacts
