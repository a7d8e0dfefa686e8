pub mod FrontLaws
pub mod Fronts
pub mod Lows
