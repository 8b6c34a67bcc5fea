pub mod Spurs
