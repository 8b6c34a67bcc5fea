pub mod Option
