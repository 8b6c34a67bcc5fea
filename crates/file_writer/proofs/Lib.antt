pub mod Files
pub mod Stands
pub mod RoundTrip
