-- The arrows between states: each stands for all transitions between the same two states that look alike. This
-- project's own.
use Rattle.std.specs.Prelude.{ℕ, zero, suc, Bool, true, false, not, ◌&&◌, ◌==◌, cond, List, [], ◌∷◌, ◌++◌, codes, flat_map, slice_index_or}
use Rattle.vpg_guards.specs.declared.tri.Tri.{Tri}
use Rattle.vpg_guards.specs.declared.tri.Tri.TheVariants.{No, Unknown, Yes}
use Rattle.vpg_guards.specs.Formula.{Formula, always}
use Rattle.vpg_guards.specs.Known.{kleene}
use Rattle.vpg_guards.specs.Writing.{guard_text}
use Rattle.vpg_system.specs.SystemText.{Transition, NamedSystem}
use Rattle.vpg_draw.specs.Labels.{label_byte}
use Rattle.vpg_system_draw.specs.declared.arrows.Look.{Look}

-- ---- labels

-- a guard, unless it is `true`, in brackets
abbrev pub guard_mark : List (List ℕ) → Formula → List ℕ
guard_mark names always = []
guard_mark names g = codes " [" ++ guard_text names g ++ codes "]"

-- the action of a transition, and its guard
abbrev pub label_text : (names actions : List (List ℕ)) → Transition → List ℕ
label_text names actions t = flat_map label_byte (slice_index_or actions t.action []) ++ guard_mark names t.guard

-- ---- arrows

-- its source, its target, and the label beside it
pub record Arrow : Type 0 where
  pub source : ℕ
  pub target : ℕ
  pub label : List ℕ

-- the first two ends are the same as the others
abbrev pub same_ends : ℕ × ℕ → ℕ × ℕ → Bool
same_ends d e = (d.0 == e.0) && (d.1 == e.1)

-- These arrows with one more. If one has the same ends, the label stands in a line of its own after those that it has.
abbrev pub joined : List Arrow → Arrow → List Arrow
joined [] b = b ∷ []
joined (a ∷ arrows) b =
    cond (same_ends (b.source, b.target) (a.source, a.target))
    (record { source = a.source; target = a.target; label = a.label ++ (codes "\\n" ++ b.label) } ∷ arrows)
    (a ∷ joined arrows b)

-- the arrow of a transition alone
abbrev pub arrow_of : (names actions : List (List ℕ)) → Transition → Arrow
arrow_of names actions t = record { source = t.source; target = t.target; label = label_text names actions t }

-- ---- looks

abbrev pub same_value : Tri → Tri → Bool
same_value No No = true
same_value Unknown Unknown = true
same_value Yes Yes = true
same_value a b = false

abbrev pub same_mark : Bool → Bool → Bool
same_mark true b = b
same_mark false b = not b

-- whether a transition has this look: its guard has the value under what is known, and it is marked, or not
abbrev pub looks : List Tri → Look → Transition → (is_marked : Bool) → Bool
looks known look t is_marked =
    same_value look.value (kleene known t.guard) && same_mark look.is_marked is_marked

-- the transition for a look-up past the end
abbrev pub no_transition : Transition
no_transition = record { source = 0; action = 0; guard = always; target = 0 }

-- with the arrow of a transition of this look
abbrev pub with_transition : (names : List (List ℕ)) → (known : List Tri) → NamedSystem → Look → List Arrow →
    Transition → (is_marked : Bool) → List Arrow
with_transition names known system look arrows t is_marked =
    cond (looks known look t is_marked) (joined arrows (arrow_of names system.actions t)) arrows

-- The arrows of the transitions below n with this look, in the order of the first ones on them. A transition past the
-- end of the marks is not marked.
abbrev pub arrows_below : (names : List (List ℕ)) → (known : List Tri) → NamedSystem → (marks : List Bool) → Look →
    (n : ℕ) → List Arrow
arrows_below names known system marks look zero = []
arrows_below names known system marks look (suc n) =
    with_transition names known system look (arrows_below names known system marks look n)
    (slice_index_or system.transitions n no_transition) (slice_index_or marks n false)
