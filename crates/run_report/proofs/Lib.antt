pub mod TokenLemmas
mod StandardFacts
