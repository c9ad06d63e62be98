pub mod WordRows
pub mod Additions
pub mod OneTail
pub mod Tails
