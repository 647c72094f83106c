pub mod LineLaws
pub mod PlainLines
