pub mod Solver
pub mod Ways
pub mod Steps
