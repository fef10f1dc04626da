pub mod Alike
pub mod Nones
pub mod Places
