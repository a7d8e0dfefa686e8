pub mod Cut
pub mod Items
pub mod Bytes
pub mod Spans
pub mod Standing
