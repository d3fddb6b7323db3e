pub mod PartTexts
pub mod SetTexts
