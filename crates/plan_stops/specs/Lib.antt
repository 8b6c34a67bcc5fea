pub mod Candidates
pub mod Holding
pub mod Supply
pub mod Searching
