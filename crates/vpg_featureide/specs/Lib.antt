pub mod Roles
pub mod Model
pub mod Formulas
pub mod Trees
pub mod Spans
pub mod View
pub mod Laws
