pub mod Inputs
pub mod Sizes
pub mod Alike
pub mod Known
