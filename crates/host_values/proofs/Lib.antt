pub mod Counts
mod Filling
