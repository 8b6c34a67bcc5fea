pub mod Hanging
pub mod Layer
pub mod Spur
pub mod OneMore
