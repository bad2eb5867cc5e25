pub mod HostRows
pub mod Keepers
pub mod MemoryRows
pub use Rattle.jar_types.specs.Ids
pub use Rattle.jar_types.specs.RowChanges
pub use Rattle.jar_types.specs.Stored
pub use Rattle.jar_edge.specs.Faults
