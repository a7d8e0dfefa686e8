pub mod Meanings
pub mod Same
