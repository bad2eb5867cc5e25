pub mod Bytes
pub mod Names
pub mod Hosts
pub mod Paths
