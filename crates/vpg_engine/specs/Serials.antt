-- Tokens by their serials.
use Rattle.std.specs.Prelude.{ℕ, List, map}
use Rattle.vpg_office.specs.Token.{TokenView as Token}

abbrev pub serials : List Token → List ℕ
serials tokens = map (λ t. t.serial) tokens
