pub mod Keys
pub mod Mixing
pub mod Numbers
