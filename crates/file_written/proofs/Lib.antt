pub mod Each
pub mod RoundTrip
pub mod OfNetwork
pub mod Stating
pub mod Rewritten
pub mod Widened
