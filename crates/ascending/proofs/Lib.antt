pub mod Insertion
pub mod Lacking
pub mod Walks
