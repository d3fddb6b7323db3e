pub mod Formed
pub mod Below
pub mod Spanned
pub mod InOrder
