pub mod Sums
pub mod Fractions
pub mod Limits
pub mod Method
pub mod Sound
pub mod Trials
