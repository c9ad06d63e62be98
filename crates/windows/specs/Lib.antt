pub mod Steps
pub mod Windows
