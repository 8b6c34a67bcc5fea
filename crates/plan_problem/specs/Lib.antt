pub mod Choosing
pub mod Sets
