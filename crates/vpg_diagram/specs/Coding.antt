-- The code of the formulas in a diagram, for models that hold one.
pub use Rattle.vpg_rules.specs.Coding.{rule_code}
