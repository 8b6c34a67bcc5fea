pub mod Setting
pub mod Packed
