pub mod Grids
pub mod Lasts
pub mod Loops
pub mod Roots
pub mod Relabelling
