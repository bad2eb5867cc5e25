pub mod Orders
pub mod Faces
pub mod Candidates
pub mod Spared
pub mod Laws
pub use Rattle.jar_types.specs.Plans
pub use Rattle.jar_types.specs.Evictions
