pub mod Sources
pub mod Room
pub mod Waiting
