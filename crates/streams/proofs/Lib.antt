pub mod Answers
pub mod Brought
