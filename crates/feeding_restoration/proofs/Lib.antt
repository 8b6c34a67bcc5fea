pub mod Reach
pub mod Sets
pub mod Spreads
