pub mod Eager
pub mod Laws
