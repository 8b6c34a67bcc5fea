pub mod Within
pub mod Answers
pub mod Sizes
pub mod Alike
pub mod Known
pub mod Apart
pub mod Refusals
pub mod Stated
