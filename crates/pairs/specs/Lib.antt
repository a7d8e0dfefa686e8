pub mod Forms
pub mod Texts
pub mod Pairs
pub mod Names
pub mod Law
