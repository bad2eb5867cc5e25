pub mod RowLemmas
pub mod HostLemmas
pub mod MemoryLemmas
