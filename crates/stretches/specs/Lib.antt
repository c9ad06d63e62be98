pub mod Stretches
pub mod Steps
