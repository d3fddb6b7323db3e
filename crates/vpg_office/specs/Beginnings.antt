-- Beginnings of histories: the laws that sheets require of them. This project's own.
use Rattle.std.specs.Prelude.{◌≡◌, ℕ, ◌≤◌, Bool, List, [], ◌++◌, length, refl}
use Rattle.std.proofs.Common.{sym, ap, ◌∙◌, append-nil, append_assoc, length-append, arith}
use mathlib.Core.List.{IsPrefix}
use Rattle.vpg_diagram.specs.DiagramText.{NamedDiagram}
use Rattle.vpg_game.specs.Game.{NamedGame}
use Rattle.vpg_sides.specs.declared.verdict.Verdict.{Verdict}
use Rattle.vpg_desk.specs.History.{Event}
use Rattle.vpg_office.specs.Sheets.{IsSheetOf}

pub from_empty : (f : List Event) → IsPrefix [] f
from_empty f = (f, refl)

pub itself : (f : List Event) → IsPrefix f f
itself f = ([], append-nil f)

pub through : (f g h : List Event) → IsPrefix g f → IsPrefix h g → IsPrefix h f
through f g h p q = (q.0 ++ p.0, sym (append_assoc h q.0 p.0) ∙ (ap (λ (l : List Event). l ++ p.0) q.1 ∙ p.1))

pub grows : (f g : List Event) → IsPrefix g f → length g ≤ length f
grows f g p = let e = ap length p.1 in omega (arith, e, length-append g p.0)

pub counted : (game : NamedGame) (diagram : NamedDiagram) (f : List Event) (at : ℕ) (settled : Bool)
    (verdicts : List Verdict) → IsSheetOf game diagram f at settled verdicts → at ≡ length f
counted game diagram f at settled verdicts is = is.calls
