pub mod Cells
pub mod Differing
pub mod Lost
pub mod Parts
pub mod Rows
pub mod Words
