pub mod Divisors
pub mod Bounds
pub mod Ratios
pub mod Fractions
pub mod Laws
