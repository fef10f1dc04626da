pub mod Kinds
pub mod Calls
pub mod Reading
pub mod Pairs
pub mod Answers
pub mod Mistakes
