pub mod Paths
pub mod Forms
pub mod Leaves
pub mod Lists
pub mod Objects
pub mod Alternatives
pub mod Meaning
