pub mod Most
pub mod Sets
