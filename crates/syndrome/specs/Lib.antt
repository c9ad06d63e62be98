pub mod Syndrome
pub mod Steps
