pub mod Runs
pub mod NetworkFiles
pub mod Inputs
pub mod Deciding
