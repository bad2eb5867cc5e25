mod PutLemmas
pub mod NewestLemmas
mod MergeLemmas
mod StandardFacts
