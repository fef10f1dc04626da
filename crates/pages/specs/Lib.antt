pub mod Tallies
pub mod Stores
pub mod Steps
pub mod Opened
pub mod Puts
pub mod Replied
