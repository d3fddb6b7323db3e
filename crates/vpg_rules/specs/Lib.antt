pub mod Constraint
pub mod View
pub mod Grammar
pub mod Clauses
pub mod Laws
pub mod Reading
pub mod Distributing
pub mod Coding
