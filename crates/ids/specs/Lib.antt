pub mod Numbers
pub mod Ids
pub mod Messages
