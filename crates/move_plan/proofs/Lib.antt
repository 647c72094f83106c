pub mod FitLaws
pub mod KindLaws
