pub mod Managers
pub mod Documents
pub mod Requests
pub mod Reads
pub mod Keeping
pub mod Writes
