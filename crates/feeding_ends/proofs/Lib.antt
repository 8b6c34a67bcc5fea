pub mod Chains
pub mod Chaining
