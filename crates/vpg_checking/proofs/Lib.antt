pub mod Lists
pub mod Entries
pub mod Checked
pub mod Whole
pub mod Refused
pub mod Found
pub mod Named
pub mod Still
