-- The value of a guard rests on the features that it names.
use Rattle.std.proofs.Common.{ℕ, zero, suc, ◌≡◌, ◌<◌, ◌++◌, List, [], ◌∷◌, All, refl, ap, ap₂, arith}
use Rattle.std.specs.Prelude.{Contains, slice_index_or}
use Rattle.std.proofs.lemmas.List.Elements.{Contains-append_left, Contains-append_right, Contains-push, All-append}
use Rattle.vpg_guards.specs.declared.tri.Tri.{Tri}
use Rattle.vpg_guards.specs.declared.tri.Tri.TheVariants.{No, Unknown, Yes}
use Rattle.vpg_guards.specs.Formula.{Formula, Parts, always, never, feature, negation, all, any, no_parts, part, named, named_by, IsBelow, AreBelow}
use Rattle.vpg_guards.specs.Known.{tri_not, tri_and, tri_or, kleene, kleene_all, kleene_any}
use Rattle.vpg_guards.specs.Laws.{ValuesRestOnNamedFeatures}

-- the two agree on each of these features
abbrev AgreeOn : List Tri → List Tri → List ℕ → Type 0
AgreeOn known other fs = (f : ℕ) → Contains fs f → slice_index_or known f Unknown ≡ slice_index_or other f Unknown

left : (known other : List Tri) (fs gs : List ℕ) → AgreeOn known other (fs ++ gs) → AgreeOn known other fs
left known other fs gs h f here = h f (Contains-append_left fs gs f here)

right : (known other : List Tri) (fs gs : List ℕ) → AgreeOn known other (fs ++ gs) → AgreeOn known other gs
right known other fs gs h f there = h f (Contains-append_right fs gs f there)

mutual
  rests : (known other : List Tri) (g : Formula) → AgreeOn known other (named g) → kleene known g ≡ kleene other g
  rests known other always h = refl
  rests known other never h = refl
  rests known other (feature f) h = h f (Contains-push [] f)
  rests known other (negation g) h = ap tri_not (rests known other g h)
  rests known other (all gs) h = all_rest known other gs h
  rests known other (any gs) h = any_rest known other gs h

  all_rest : (known other : List Tri) (gs : Parts) → AgreeOn known other (named_by gs) → kleene_all known gs ≡ kleene_all other gs
  all_rest known other no_parts h = refl
  all_rest known other (part g gs) h =
      ap₂ tri_and (rests known other g (left known other (named g) (named_by gs) h)) (all_rest known other gs (right known other (named g) (named_by gs) h))

  any_rest : (known other : List Tri) (gs : Parts) → AgreeOn known other (named_by gs) → kleene_any known gs ≡ kleene_any other gs
  any_rest known other no_parts h = refl
  any_rest known other (part g gs) h =
      ap₂ tri_or (rests known other g (left known other (named g) (named_by gs) h)) (any_rest known other gs (right known other (named g) (named_by gs) h))

pub values_rest_on_named_features : ValuesRestOnNamedFeatures
values_rest_on_named_features known other g h = rests known other g h

-- ---- the features named are below where the guard is

one_below : (n f : ℕ) → f < n → All (λ g. g < n) (f ∷ [])
one_below n f less zero d l = less
one_below n f less (suc k) d l = absurd (omega arith)

none_below : (n : ℕ) → All (λ g. g < n) []
none_below n k d l = absurd (omega arith)

mutual
  pub named_below : (n : ℕ) (g : Formula) → IsBelow n g → All (λ f. f < n) (named g)
  named_below n always h = none_below n
  named_below n never h = none_below n
  named_below n (feature f) h = one_below n f h
  named_below n (negation g) h = named_below n g h
  named_below n (all gs) h = parts_below n gs h
  named_below n (any gs) h = parts_below n gs h

  parts_below : (n : ℕ) (gs : Parts) → AreBelow n gs → All (λ f. f < n) (named_by gs)
  parts_below n no_parts h = none_below n
  parts_below n (part g gs) h = All-append (λ f. f < n) (named g) (named_by gs) (named_below n g h.0) (parts_below n gs h.1)
