-- A front that has grown by no call is the same.
use Rattle.std.proofs.Common.{◌≡◌, ◌<◌, List, [], ◌∷◌, ◌++◌, length, refl, sym, ap, ◌∙◌, arith, length-append, append-nil}
use mathlib.Core.List.{IsPrefix}
use Rattle.vpg_desk.specs.History.{Event}

pub none_of : (events : List Event) → length events ≡ 0 → events ≡ []
none_of [] e = refl
none_of (x ∷ events) e = absurd (omega (arith, e))

pub same_front : (front new : List Event) → IsPrefix front new → length new ≡ length front → new ≡ front
same_front front new p same =
    let nothing : p.0 ≡ [] = none_of p.0 (omega (arith, same, ap length p.1, length-append front p.0)) in
    sym p.1 ∙ ap (λ (l : List Event). front ++ l) nothing ∙ append-nil front

pub more_front : (front log : List Event) → IsPrefix front log → ¬ (length log ≡ length front) → length front < length log
more_front front log p other = omega (arith, other, ap length p.1, length-append front p.0)
