pub mod Grammar
pub mod Precedence
pub mod Reader
pub mod Law
pub mod View
pub mod Ranks
pub mod Examples
