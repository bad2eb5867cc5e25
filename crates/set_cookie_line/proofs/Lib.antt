mod BoundaryLemmas
mod MaxAgeLemmas
mod KeptLemmas
mod StandardFacts
