pub mod Closing
pub mod Tests
