mod MemberLemmas
mod FilterLemmas
mod PlacedLemmas
mod AscendingLemmas
mod PartLemmas
mod EvictLemmas
mod SetLemmas
mod GetLemmas
mod DeleteLemmas
mod OpLemmas
mod RowLemmas
mod LoadLemmas
mod LoadedLemmas
mod OwnLemmas
mod EventLemmas
mod OpeningLemmas
pub mod RunLemmas
mod StandardFacts
