pub mod Worked
pub mod Enclosed
