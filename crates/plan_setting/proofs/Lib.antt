pub mod Charges
pub mod Filling
