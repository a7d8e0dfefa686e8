pub mod Improper
