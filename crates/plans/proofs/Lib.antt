pub mod Inserting
pub mod Finding
pub mod Forming
