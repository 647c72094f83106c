pub mod MoveLines
pub mod Told
