pub mod Networks
pub mod Places
pub mod Steps
