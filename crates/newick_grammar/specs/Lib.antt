pub mod Newick
pub mod Numbers
