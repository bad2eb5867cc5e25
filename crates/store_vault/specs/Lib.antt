pub mod Cutting
pub mod Looking
pub mod Loading
pub mod Flushing
