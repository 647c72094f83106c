pub mod FoundLaws
pub mod ListsLaws
