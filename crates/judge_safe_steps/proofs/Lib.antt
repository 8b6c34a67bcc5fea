pub mod Closing
pub mod Signs
pub mod Within
pub mod Tests
