pub mod Waiting
pub mod Laws
pub use Rattle.jar_types.specs.Batches
pub use Rattle.jar_types.specs.Orders
pub use Rattle.jar_types.specs.RowChanges
