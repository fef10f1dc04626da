pub mod Moves
pub mod Grouping
pub mod Wording
pub mod Rows
