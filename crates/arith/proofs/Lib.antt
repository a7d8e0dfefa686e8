pub mod Spaced
pub mod Steps
pub mod Worths
pub mod Complete
pub mod Sound
