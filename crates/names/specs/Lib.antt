pub mod AppNames
pub mod Writing
pub mod QuantNames
pub mod Messages
pub mod QuantKinds
