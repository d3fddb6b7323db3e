pub mod Parts
pub mod Preorder
pub mod Sets
pub mod Symbols
