-- Two answers to `uses F` are one text.
use Rattle.std.proofs.Common.{◌≡◌, ℕ, List, sym, ◌∙◌}
use Rattle.vpg_texts.specs.Scene.{Scene}
use Rattle.vpg_looks.specs.Uses.{TellsUses}

pub uses_one : (scene : Scene) (feature : ℕ) (one other : List ℕ) → TellsUses scene feature one →
    TellsUses scene feature other → one ≡ other
uses_one scene feature one other a b = a ∙ sym b
