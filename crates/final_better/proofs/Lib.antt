pub mod Marks
pub mod Records
pub mod Places
pub mod Accepted
