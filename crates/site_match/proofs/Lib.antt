pub mod EndLemmas
pub mod PlaceLemmas
mod StandardFacts
