-- What is given up where the oldest are kept is one list.
use Rattle.std.proofs.Common.{◌≡◌, ◌<◌, true, List, [], ◌∷◌, ◌++◌, Contains, refl, sym, ap, subst, append_assoc}
use Rattle.std.specs.List.{AllByRecursion}
use Rattle.std.proofs.lemmas.List.{map-append}
use Rattle.std.proofs.lemmas.List.Elements.{Contains-append_left}
use Rattle.vpg_diagram.specs.FeatureDiagram.{feature_count}
use Rattle.vpg_diagram.specs.declared.clause.Literal.{Literal}
use Rattle.vpg_diagram.proofs.Lists.{All-append}
use Rattle.vpg_partial.specs.Known.{literal_of}
use Rattle.vpg_partial.specs.TableLaws.{AreAmong}
use Rattle.vpg_partial.specs.declared.decision.Decision.{Decision}
use Rattle.vpg_why.specs.Explained.{choices}
use Rattle.vpg_why.specs.Laws.{RepairsAreOne}
use Rattle.vpg_why.specs.Repaired.{KeepsOldest, ends, keeps, gives_up}
use Rattle.vpg_why.specs.Suffices.{SufficeIn}
use Rattle.vpg_why.proofs.Monotone.{more_choices_suffice}

module _ (Suffices : List Literal → Type 0) (P : Literal → Type 0)
    (more : (few many : List Literal) → AllByRecursion P few → AreAmong few many → Suffices few → Suffices many) where
  further : (before : List Decision) (d : Decision) → AllByRecursion P (choices before) → P (literal_of d) → AllByRecursion P (choices (before ++ d ∷ []))
  further before d nb n = rw (map-append literal_of before (d ∷ [])) (All-append P (choices before) (literal_of d ∷ []) nb (n, tt))

  -- what suffices still does with those that are kept later
  stays : (before kept : List Decision) (d : Decision) → AllByRecursion P (choices before) → P (literal_of d) → Suffices (choices (before ++ d ∷ [])) → Suffices (choices (before ++ d ∷ kept))
  stays before kept d nb n h =
      subst (λ (ds : List Decision). Suffices (choices ds)) (append_assoc before (d ∷ []) kept)
      (more (choices (before ++ d ∷ [])) (choices ((before ++ d ∷ []) ++ kept)) (further before d nb n) among h)
    where
      among : AreAmong (choices (before ++ d ∷ [])) (choices ((before ++ d ∷ []) ++ kept))
      among c k = subst (λ (cs : List Literal). Contains cs c) (sym (map-append literal_of (before ++ d ∷ []) kept)) (Contains-append_left (choices (before ++ d ∷ [])) (choices kept) c k)

  moved : (before kept : List Decision) (d : Decision) → (Suffices (choices (before ++ d ∷ kept)) → ⊥) → Suffices (choices ((before ++ d ∷ []) ++ kept)) → ⊥
  moved before kept d lacks h = lacks (subst (λ (ds : List Decision). Suffices (choices ds)) (append_assoc before (d ∷ []) kept) h)

  -- the same is given up, whatever else is kept
  abbrev IsOne : (before rest given : List Decision) → Type 0
  IsOne before rest given = (others gone : List Decision) → KeepsOldest Suffices true before rest others gone → (Suffices (choices (before ++ others)) → ⊥) → given ≡ gone

  after_keeping : (before rest kept given : List Decision) (d : Decision) → AllByRecursion P (choices before) → P (literal_of d) → (Suffices (choices (before ++ d ∷ kept)) → ⊥) →
      IsOne (before ++ d ∷ []) rest given → {others gone : List Decision} → KeepsOldest Suffices true before (d ∷ rest) others gone → (Suffices (choices (before ++ others)) → ⊥) → given ≡ gone
  after_keeping before rest kept given d nb n lacks same (keeps {kept = others} {given = gone} b) h = same others gone b (moved before others d h)
  after_keeping before rest kept given d nb n lacks same (gives_up so b) h = absurd (lacks (stays before kept d nb n (so refl)))

  after_giving : (before rest given : List Decision) (d : Decision) → AllByRecursion P (choices before) → P (literal_of d) → Suffices (choices (before ++ d ∷ [])) →
      IsOne before rest given → {others gone : List Decision} → KeepsOldest Suffices true before (d ∷ rest) others gone → (Suffices (choices (before ++ others)) → ⊥) → d ∷ given ≡ gone
  after_giving before rest given d nb n enough same (keeps {kept = others} b) h = absurd (h (stays before others d nb n enough))
  after_giving before rest given d nb n enough same (gives_up {kept = others} {given = gone} so b) h = ap (λ (ds : List Decision). d ∷ ds) (same others gone b h)

  one_split : {before rest kept given : List Decision} → KeepsOldest Suffices true before rest kept given → AllByRecursion P (choices before) → AllByRecursion P (choices rest) →
      (Suffices (choices (before ++ kept)) → ⊥) → IsOne before rest given
  one_split (ends {before}) nb nr h others gone b k = none b
    where
      none : {others gone : List Decision} → KeepsOldest Suffices true before [] others gone → [] ≡ gone
      none ends = refl
  one_split (keeps {d} {before} {rest} {kept} {given} a) nb nr h others gone b k =
      after_keeping before rest kept given d nb nr.0 h (one_split a (further before d nb nr.0) nr.1 (moved before kept d h)) b k
  one_split (gives_up {d} {before} {rest} {kept} {given} so a) nb nr h others gone b k =
      after_giving before rest given d nb nr.0 (so refl) (one_split a nb nr.1 h) b k

pub repairs_are_one : RepairsAreOne
repairs_are_one game lines question decisions kept given others gone is named a b =
    one_split (SufficeIn game lines question) (λ c. c.feature < feature_count lines) (λ few many within among h. more_choices_suffice game lines question few many is within among h)
    a.split tt named a.possible others gone b.split b.possible
