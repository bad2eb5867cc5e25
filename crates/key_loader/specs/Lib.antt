pub mod Groups
pub mod Planned
pub mod Places
pub use Rattle.jar_types.specs.Ids
pub use Rattle.jar_types.specs.Loads
pub use Rattle.public_suffix.specs.Suffix
