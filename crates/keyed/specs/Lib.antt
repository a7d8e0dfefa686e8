pub mod Meaning
pub mod Refusals
pub mod Slots
pub mod Tables
