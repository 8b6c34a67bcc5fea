pub mod Due
pub mod Reader
pub mod SameBytes
pub mod Alike
pub mod Known
