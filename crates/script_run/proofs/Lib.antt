pub mod AnswerLemmas
pub mod AskLemmas
pub mod AskOwnLemmas
pub mod BesideLemmas
pub mod CallLemmas
pub mod ClosedLemmas
pub mod FaultLemmas
pub mod FitLemmas
pub mod HeldRunLemmas
pub mod JarLemmas
pub mod KeepLemmas
pub mod KeyLemmas
pub mod LeftLemmas
pub mod LegalLemmas
pub mod ListenLemmas
pub mod LoadLemmas
pub mod NameLemmas
pub mod OverLemmas
pub mod OverPlayLemmas
pub mod PlayLemmas
pub mod PlayerLemmas
pub mod RoundLemmas
pub mod RunLemmas
pub mod SameLemmas
pub mod ServiceLemmas
pub mod StorableLemmas
pub mod StoredRunLemmas
pub mod TextLemmas
pub mod ToolLemmas
pub mod TryLemmas
pub mod TurnLemmas
pub mod WayLemmas
mod RenderFacts
mod StandardFacts
mod StoredRunFacts
