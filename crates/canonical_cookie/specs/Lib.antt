pub mod Refusals
pub mod Expiry
pub mod Making
pub mod Laws
