pub mod Sizes
pub mod Trees
pub mod Grouped
pub mod LawProofs
pub mod ReadBack
pub mod OpenSigns
