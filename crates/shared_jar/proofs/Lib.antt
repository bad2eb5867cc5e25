mod TogetherLemmas
mod OpeningLemmas
mod ServingLemmas
mod VersionLemmas
mod FinishLemmas
mod BesideLemmas
mod HoldingLemmas
mod HeldLoadLemmas
mod HeldFlushLemmas
mod FaultLemmas
mod FaultFacts
mod EndingLemmas
mod SharingLemmas
mod KnowingLemmas
mod ServedLemmas
pub mod CallerLemmas
mod KnowingFacts
mod StandardFacts
