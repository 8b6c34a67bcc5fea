pub mod Read
pub mod Marking
pub mod Ways
