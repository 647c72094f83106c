pub mod GroupLaws
pub mod SaidLaws
