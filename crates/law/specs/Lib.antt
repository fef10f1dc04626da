pub mod Faults
pub mod Calls
pub mod History
pub mod Decides
pub mod Law
pub mod Sentences
