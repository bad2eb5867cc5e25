pub mod Schemes
pub mod Places
pub mod DefaultPaths
pub mod Contexts
pub use Rattle.jar_values.specs.Hosts
pub use Rattle.jar_values.specs.Paths
pub use Rattle.jar_types.specs.Matches
pub use Rattle.public_suffix.specs.Suffix
