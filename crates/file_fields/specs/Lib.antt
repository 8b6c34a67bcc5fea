pub mod Fields
pub mod Views
