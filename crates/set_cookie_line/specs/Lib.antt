pub mod Blanks
pub mod Cut
pub mod MaxAge
pub mod Attribute
pub mod Kept
pub mod Line
