pub mod ListLaws
pub mod SaidLaws
