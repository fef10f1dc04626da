pub mod Faults
pub mod Stepped
pub mod Boxed
pub mod Ends
pub mod Enclosures
pub mod Sentences
