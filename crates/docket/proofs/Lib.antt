pub mod Calls
pub mod Drafts
pub mod Proposals
pub mod Trials
pub mod Trusts
