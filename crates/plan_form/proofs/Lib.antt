pub mod Steps
pub mod Sweeping
