pub mod AnswerLaws
pub mod Contents
pub mod Needs
pub mod RowWalks
pub use Rattle.jar_types.specs.Ids
pub use Rattle.jar_types.specs.Answers
pub use Rattle.jar_types.specs.States
pub use Rattle.jar_types.specs.Steps
