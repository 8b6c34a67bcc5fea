pub mod Placing
pub mod Cases
