pub mod Lending
pub mod Rounds
pub mod Same
pub mod Sources
