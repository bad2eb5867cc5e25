pub mod SortLemmas
pub mod AnswerLemmas
pub mod PlanLemmas
pub mod EvictLemmas
mod OwnLemmas
mod EntryLemmas
mod UntilLemmas
mod TextLemmas
mod TallyLemmas
pub mod PlaceLemmas
pub mod IdLemmas
pub mod AscendLemmas
pub mod WalkLemmas
pub mod TouchLemmas
