pub mod Works
pub mod Option
