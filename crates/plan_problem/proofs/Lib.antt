pub mod Rising
pub mod Preferring
pub mod Choices
pub mod Scans
pub mod Masks
pub mod Prices
pub mod Cheapest
pub mod Found
