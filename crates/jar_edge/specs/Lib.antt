pub mod Adapted
pub mod Faults
pub mod MemorySink
pub mod MemorySource
pub mod Streams
pub mod Told
