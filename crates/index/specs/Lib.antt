pub mod Found
pub mod TableLaws
pub mod TermTables
