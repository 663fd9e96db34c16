pub mod Candidates
pub mod Listing
pub mod Choice
pub mod Steps
