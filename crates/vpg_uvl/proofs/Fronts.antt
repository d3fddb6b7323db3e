-- The front of a text.
use Rattle.std.proofs.Common.{ℕ, ◌≤◌, Bool, List, length}
use Rattle.std.specs.List.{prefix_len}
use Rattle.vpg_rules.proofs.Marks as marks

-- the front lies within the text
pub front_within : (p : ℕ → Bool) (text : List ℕ) → prefix_len p text ≤ length text
front_within p text = marks.front_within p text
