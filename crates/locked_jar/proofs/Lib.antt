pub mod SameLemmas
pub mod MovingLemmas
pub mod RestLemmas
pub mod HistoryLemmas
pub mod PassLemmas
pub mod RoomLemmas
