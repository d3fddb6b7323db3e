pub mod Labels
pub mod GameDrawing
pub mod FeatureDrawing
pub mod PartDrawing
