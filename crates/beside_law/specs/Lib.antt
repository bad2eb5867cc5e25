pub mod Beside
pub mod Held
pub use Rattle.jar_types.specs.Batches
pub use Rattle.jar_types.specs.RowChanges
pub use Rattle.jar_types.specs.Rows
pub use Rattle.jar_types.specs.Journals
pub use Rattle.jar_types.specs.Stored
