pub mod Sums
pub mod Prefixes
mod Keeping
mod Steps
mod Bumping
mod Committing
mod Looking
mod Fronting
mod Cuts
mod Joining
mod Meeting
mod Opening
mod Points
mod Reaching
mod StandardFacts
mod RefusedWorlds
pub mod ListFacts
