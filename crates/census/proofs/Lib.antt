pub mod Places
pub mod Running
