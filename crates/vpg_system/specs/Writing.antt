-- The one writing of a system. The Aldebaran format, as mCRL2 writes it; brackets are this project's own.
use Rattle.std.specs.Prelude.{ℕ, cond, List, [], ◌∷◌, ◌++◌, length, codes, decimal, slice_index_or}
use Rattle.vpg_guards.specs.Formula.{Formula, always}
use Rattle.vpg_guards.specs.Writing.{guard_text}
use Rattle.vpg_system.specs.SystemText.{Transition, NamedSystem, is_closed}

-- a guard in brackets, after a blank
abbrev pub bracketed : List ℕ → List ℕ
bracketed text = codes " [" ++ (text ++ codes "]")

-- A guard other than `true`. After a name that ends in a `]`, `true` too, since the name's own brackets would be read
-- as a guard.
abbrev pub guard_part : List (List ℕ) → List ℕ → Formula → List ℕ
guard_part features name always = cond (is_closed name) (bracketed (guard_text features always)) []
guard_part features name g = bracketed (guard_text features g)

-- the name and the guard of a transition
abbrev pub label_text : List (List ℕ) → List (List ℕ) → Transition → List ℕ
label_text features names t =
    slice_index_or names t.action [] ++ guard_part features (slice_index_or names t.action []) t.guard

-- a label in double quotes
abbrev pub quoted : List ℕ → List ℕ
quoted label = 34 ∷ (label ++ 34 ∷ [])

-- `(A,"LABEL",B)`
abbrev pub transition_text : List (List ℕ) → List (List ℕ) → Transition → List ℕ
transition_text features names t =
    40 ∷ (decimal t.source ++ 44 ∷ (quoted (label_text features names t) ++ 44 ∷ (decimal t.target ++ 41 ∷ [])))

-- a line for each transition
abbrev pub transitions_text : List (List ℕ) → List (List ℕ) → List Transition → List ℕ
transitions_text features names [] = []
transitions_text features names (t ∷ ts) =
    transition_text features names t ++ 10 ∷ transitions_text features names ts

-- `des (F,T,S)`
abbrev pub header_text : ℕ → ℕ → ℕ → List ℕ
header_text first count states =
    codes "des (" ++ (decimal first ++ 44 ∷ (decimal count ++ 44 ∷ (decimal states ++ 41 ∷ [])))

-- the header, and a line for each transition
abbrev pub system_text : List (List ℕ) → NamedSystem → List ℕ
system_text features s =
    header_text s.first (length s.transitions) s.states ++ 10 ∷ transitions_text features s.actions s.transitions
