pub mod Kinds
pub mod Asks
pub mod Figures
pub mod Lines
pub mod Forms
pub mod Mistakes
pub mod Usages
