pub mod Filling
pub mod Signing
pub mod Joinings
