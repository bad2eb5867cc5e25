pub mod Described
pub mod LeafLemmas
pub mod ListLemmas
pub mod ObjectLemmas
pub mod AlternativeLemmas
mod PathLemmas
mod WalkLemmas
mod Facts
mod StandardFacts
mod AlternativeFacts
mod Readers
