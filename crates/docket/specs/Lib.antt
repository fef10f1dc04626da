pub mod Dockets
pub mod Filling
pub mod Reflects
