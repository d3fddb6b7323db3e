pub mod Tree
pub mod Lines
pub mod RuleText
pub mod DiagramText
pub mod Short
pub mod Laws
pub mod InOrder
