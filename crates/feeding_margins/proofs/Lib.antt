pub mod Scans
pub mod Stored
pub mod Spots
pub mod Rounds
pub mod Sources
pub mod Alike
pub mod Whole
pub mod Tried
