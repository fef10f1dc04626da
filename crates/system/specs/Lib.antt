pub mod Faults
pub mod Figures
pub mod Posts
pub mod Sentences
