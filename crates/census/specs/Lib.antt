pub mod Counts
pub mod Found
pub mod Steps
pub mod Messages
