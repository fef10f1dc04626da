pub mod Dots
pub mod Faults
pub mod Numbers
pub mod Partial
pub mod Proposals
pub mod Rows
pub mod Sentences
