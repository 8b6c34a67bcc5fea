pub mod Adding
pub mod Joining
