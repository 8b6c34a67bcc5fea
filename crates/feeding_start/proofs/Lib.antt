pub mod Operable
pub mod Starts
