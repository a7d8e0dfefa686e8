pub mod Layers
pub mod Quants
pub mod Pieces
