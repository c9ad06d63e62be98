pub mod Run
pub mod Edge
