pub mod Ends
pub mod Pieces
pub mod Entries
pub mod Written
