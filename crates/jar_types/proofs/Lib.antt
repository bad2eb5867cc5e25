pub mod JournalLemmas
pub mod RisingLemmas
pub mod FindLemmas
pub mod TallyLemmas
mod FactValues
mod StandardFacts
mod CellFacts
mod CallFacts
mod JournalFacts
mod LoadFacts
mod LoadBarFacts
mod WaitFacts
mod CommitFacts
mod StoredFacts
pub mod HistoryLemmas
pub mod ListenerLemmas
pub mod CountLemmas
