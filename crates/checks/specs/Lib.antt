pub mod First
pub mod Lost
