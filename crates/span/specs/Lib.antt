pub mod Encloses
pub mod Faults
pub mod Intervals
pub mod Measures
pub mod Names
pub mod Questions
pub mod Rounding
pub mod Spans
