pub mod States
pub mod Columns
