pub mod Front
pub mod Configurations
pub mod Finding
pub mod Following
pub mod Paying
