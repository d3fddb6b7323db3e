-- Where a token isn't refused there is a page to go to.
use Rattle.std.proofs.Common.{◌≡◌, ℕ, ◌<◌, List, [], ◌∷◌, length, None, arith}
use Rattle.vpg_desk.specs.Book.{refuses_redo, refuses_undo}
use Rattle.vpg_desk.specs.Cuts.{serials_from_top}
use Rattle.vpg_desk.specs.declared.cuts.Cut.{Cut}

pub some_past : (s : ℕ) (cuts : List Cut) → refuses_undo s (serials_from_top cuts) ≡ None → 0 < length cuts
some_past s [] e = cc
some_past s (cut ∷ cuts) e = omega arith

pub some_future : (s : ℕ) (cuts : List Cut) → refuses_redo s (serials_from_top cuts) ≡ None → 0 < length cuts
some_future s [] e = cc
some_future s (cut ∷ cuts) e = omega arith
