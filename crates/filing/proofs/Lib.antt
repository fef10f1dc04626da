pub mod Checking
pub mod Turning
