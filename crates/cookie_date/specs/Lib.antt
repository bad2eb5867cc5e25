pub mod Number
pub mod Token
pub mod Parts
pub mod Date
pub use Rattle.jiff_core.specs.Calendar
