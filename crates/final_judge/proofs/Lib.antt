pub mod Forming
pub mod Deciding
pub mod Ways
pub mod Returning
