pub mod Faults
pub mod Values
pub mod Answers
pub mod Expressions
pub mod Laws
pub mod Examples
