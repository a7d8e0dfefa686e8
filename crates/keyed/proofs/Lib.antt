pub mod Counts
pub mod Entries
pub mod Makes
pub mod Parts
pub mod Probe
pub mod Ring
pub mod Rows
