pub mod Adding
pub mod Rows
pub mod Padding
pub mod Delay
pub mod Short
