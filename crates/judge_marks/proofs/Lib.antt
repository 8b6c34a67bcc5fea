pub mod Examining
pub mod Marking
