pub mod Taken
pub mod Parts
pub mod Chains
pub mod Sizes
pub mod Contents
pub mod Accepted
pub mod Alike
pub mod Known
