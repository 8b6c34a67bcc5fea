pub mod Exactly
pub mod Promises
pub mod Solving
