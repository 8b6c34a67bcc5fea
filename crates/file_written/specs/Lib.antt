pub mod NetworkBytes
pub mod Rewriting
