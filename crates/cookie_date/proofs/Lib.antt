mod NumberLemmas
mod PartsLemmas
mod StandardFacts
