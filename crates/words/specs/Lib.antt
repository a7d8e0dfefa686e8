pub mod Words
pub mod Joined
pub mod Kinds
pub mod Laid
pub mod Cursor
