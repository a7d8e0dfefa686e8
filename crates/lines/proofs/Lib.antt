pub mod Blank
pub mod Cut
pub mod Joining
pub mod Standing
