pub mod Gcd
pub mod Whole
pub mod Rational
pub mod Lowest
