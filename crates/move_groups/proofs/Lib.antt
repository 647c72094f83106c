pub mod RowLaws
pub mod WayLaws
