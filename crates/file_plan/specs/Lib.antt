pub mod PlanFiles
pub mod Inputs
pub mod Accepted
