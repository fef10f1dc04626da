pub mod Faults
pub mod Grids
pub mod Lists
pub mod Meaning
pub mod Tallies
pub mod Sentences
