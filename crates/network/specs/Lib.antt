pub mod Refusals
pub mod Networks
pub mod Accepted
