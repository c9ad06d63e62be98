pub mod Sets
pub mod Marks
pub mod Plans
pub mod Settling
pub mod Stepping
pub mod Advancing
