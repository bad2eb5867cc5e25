mod StandardFacts
pub mod StreamLemmas
