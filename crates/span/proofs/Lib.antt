pub mod Integers
pub mod Floors
pub mod Contains
pub mod Verdicts
