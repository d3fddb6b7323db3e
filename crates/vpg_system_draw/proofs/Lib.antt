pub mod AllRows
pub mod Joins
pub mod Marked
pub mod Noting
pub mod Numbered
pub mod Rows
pub mod Said
pub mod Searching
