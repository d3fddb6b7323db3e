-- The text of a walk: a line for each step of the system, and one for each end. This project's own.
use Rattle.std.specs.Prelude.{ℕ, zero, suc, ◌+◌, ◌&&◌, ◌||◌, Bool, true, false, if◌then◌else◌, Option, Some, None, List, [], ◌∷◌, ◌++◌, length, codes, decimal, is_some, slice_index_or}
use Rattle.vpg_guards.specs.declared.tri.Tri.{Tri}
use Rattle.vpg_guards.specs.Formula.{Formula, always}
use Rattle.vpg_guards.specs.Writing.{guard_text}
use Rattle.vpg_parts.specs.declared.part.Part.{Part}
use Rattle.vpg_parts.specs.declared.part.Part.TheVariants.{True, False, And, Or, SomeStep, EveryStep, Fixpoint, Variable}
use Rattle.vpg_parts.specs.Parts.{resolved_part}
use Rattle.vpg_parts.specs.Sets.{is_permitted}
use Rattle.vpg_model.specs.Departures.{Departure}
use Rattle.vpg_model.specs.Pairs.{pair_at}
use Rattle.vpg_trace.specs.declared.taking.Taken.{Taken}
use Rattle.vpg_trace.specs.declared.walking.End.{End}
use Rattle.vpg_trace.specs.declared.walking.End.TheVariants.{GoesOn, Loop, Seen, Stands, Cut}
use Rattle.vpg_trace.specs.declared.walking.Visit.{Visit}
use Rattle.vpg_trace.specs.Taking.{taken_from, departure_at}
use Rattle.vpg_trace.specs.Walks.{visit_at}

-- two blanks for each side branch around it
abbrev pub indent : ℕ → List ℕ
indent zero = []
indent (suc n) = indent n ++ codes "  "

-- ---- steps

abbrev pub is_always : Formula → Bool
is_always always = true
is_always _ = false

-- a guard in brackets; nothing for one that is always true
abbrev pub guard_part : List (List ℕ) → Formula → List ℕ
guard_part features guard = if is_always guard then [] else codes "[" ++ guard_text features guard ++ codes "]"

-- the action with its guard, and the state that the transition leads to
abbrev pub arrow_text : (features actions : List (List ℕ)) → Departure → List ℕ
arrow_text features actions t = codes " -" ++ slice_index_or actions t.action [] ++ guard_part features t.guard
    ++ codes "-> " ++ decimal t.target

-- the mark of a step that is not one of each product that is left, and the end of the line
abbrev pub mark_text : Bool → List ℕ
mark_text false = codes "\n"
mark_text true = codes " depends\n"

-- the line of a step
abbrev pub step_line : (features actions : List (List ℕ)) → List (List Departure) → ℕ → Taken → List ℕ
step_line features actions states depth taken = indent depth ++ decimal taken.state
    ++ arrow_text features actions (departure_at states taken) ++ mark_text taken.depends

-- the line of a step, if there is one
abbrev pub step_text : (features actions : List (List ℕ)) → List (List Departure) → ℕ → Option Taken → List ℕ
step_text features actions states depth None = []
step_text features actions states depth (Some taken) = step_line features actions states depth taken

-- the transition by which a vertex is reached from this visit, if there is one
abbrev pub step_from : List Tri → List (List Departure) → List (List Bool) → List Part → List (ℕ × ℕ) → List Visit →
    Option ℕ → ℕ → Option Taken
step_from known states sets parts pairs visits None w = None
step_from known states sets parts pairs visits (Some p) w =
    taken_from known states sets parts (pair_at pairs (visit_at visits p).vertex) (pair_at pairs w)

-- ---- ends

-- whether the set has all of this many actions
abbrev pub all_permitted : List (List Bool) → ℕ → ℕ → Bool
all_permitted sets x zero = true
all_permitted sets x (suc n) = all_permitted sets x n && is_permitted sets x n

abbrev pub action_if : List (List ℕ) → ℕ → Bool → List ℕ
action_if actions n is_permitted = if is_permitted then 32 ∷ slice_index_or actions n [] else []

-- the names of those of this many actions that the set has
abbrev pub permitted_text : List (List ℕ) → List (List Bool) → ℕ → ℕ → List ℕ
permitted_text actions sets x zero = []
permitted_text actions sets x (suc n) =
    permitted_text actions sets x n ++ action_if actions n (is_permitted sets x n)

-- whether the set has some of this many actions
abbrev pub some_permitted : List (List Bool) → ℕ → ℕ → Bool
some_permitted sets x zero = false
some_permitted sets x (suc n) = some_permitted sets x n || is_permitted sets x n

-- the names of the wanted actions, if the system has some of them
abbrev pub wanted_text : List (List ℕ) → List (List Bool) → ℕ → List ℕ
wanted_text actions sets x =
    if some_permitted sets x (length actions) then permitted_text actions sets x (length actions)
    else codes " such action"

-- the wanted steps: any step, or one of these actions
abbrev pub asked_text : List (List ℕ) → List (List Bool) → ℕ → List ℕ
asked_text actions sets x = if all_permitted sets x (length actions) then codes " step"
    else wanted_text actions sets x

-- the text that none of the wanted steps is there
abbrev pub missing_text : List (List ℕ) → List (List Bool) → ℕ → ℕ → List ℕ
missing_text actions sets s x = codes "no" ++ asked_text actions sets x ++ codes " from " ++ decimal s

-- no move within a requirement
abbrev pub unmoved_text : ℕ → List ℕ
unmoved_text s = codes "no move from " ++ decimal s

-- the text for a part where nobody moves
abbrev pub standing_text : List (List ℕ) → List (List Bool) → ℕ → Part → List ℕ
standing_text actions sets s True = codes "true"
standing_text actions sets s False = codes "false"
standing_text actions sets s (And a b) = unmoved_text s
standing_text actions sets s (Or a b) = unmoved_text s
standing_text actions sets s (SomeStep x a) = missing_text actions sets s x
standing_text actions sets s (EveryStep x a) = missing_text actions sets s x
standing_text actions sets s (Fixpoint kind p b) = unmoved_text s
standing_text actions sets s (Variable m) = unmoved_text s

-- the line of a pair where nobody moves
abbrev pub standing_line : List (List ℕ) → List (List Bool) → List Part → ℕ → ℕ × ℕ → List ℕ
standing_line actions sets parts depth pair =
    indent depth ++ standing_text actions sets pair.0 (resolved_part parts pair.1) ++ codes "\n"

-- the state of a visit
abbrev pub state_of : List (ℕ × ℕ) → List Visit → ℕ → ℕ
state_of pairs visits k = (pair_at pairs (visit_at visits k).vertex).0

-- the line of a return to a state
abbrev pub return_line : ℕ → List ℕ → ℕ → List ℕ
return_line depth word s = indent depth ++ word ++ decimal s ++ codes "\n"

-- the end of a visit, unless it goes on
abbrev pub end_text : List (List ℕ) → List (List Bool) → List Part → List (ℕ × ℕ) → List Visit → ℕ → ℕ → End → List ℕ
end_text actions sets parts pairs visits depth v GoesOn = []
end_text actions sets parts pairs visits depth v (Loop k) =
    return_line depth (codes "loop to ") (state_of pairs visits k)
end_text actions sets parts pairs visits depth v (Seen k) =
    return_line depth (codes "seen ") (state_of pairs visits k)
end_text actions sets parts pairs visits depth v Stands = standing_line actions sets parts depth (pair_at pairs v)
end_text actions sets parts pairs visits depth v Cut = indent depth ++ codes "cut\n"

-- ---- the walk

-- The words of a walk: the names of features and of actions, what is known of the features, and the transitions from
-- each state. Then come the sets of actions and the parts of requirements, and the state and the part of each vertex.
pub record Family : Type 0 where
  pub features : List (List ℕ)
  pub actions : List (List ℕ)
  pub known : List Tri
  pub states : List (List Departure)
  pub sets : List (List Bool)
  pub parts : List Part
  pub pairs : List (ℕ × ℕ)

-- these as one value
abbrev pub family_of : (features actions : List (List ℕ)) → List Tri → List (List Departure) → List (List Bool) →
    List Part → List (ℕ × ℕ) → Family
family_of features actions known states sets parts pairs = record {
  features = features;
  actions = actions;
  known = known;
  states = states;
  sets = sets;
  parts = parts;
  pairs = pairs;
}

-- the transition by which a visit is reached, if there is one
abbrev pub step_to : Family → List Visit → Visit → Option Taken
step_to family visits visit = step_from family.known family.states family.sets family.parts family.pairs visits
    visit.before visit.vertex

-- a line for the step to the visit, and one for its end
abbrev pub visit_text : Family → List Visit → Visit → List ℕ
visit_text family visits visit =
    step_text family.features family.actions family.states visit.depth (step_to family visits visit)
    ++ end_text family.actions family.sets family.parts family.pairs visits visit.depth visit.vertex visit.end

-- the lines of the first n visits
abbrev pub visits_text : Family → List Visit → ℕ → List ℕ
visits_text family visits zero = []
visits_text family visits (suc n) = visits_text family visits n ++ visit_text family visits (visit_at visits n)

abbrev pub one_if : Bool → ℕ
one_if true = 1
one_if false = 0

-- the number of the first n visits that are reached by a step of the system
abbrev pub steps_in : Family → List Visit → ℕ → ℕ
steps_in family visits zero = 0
steps_in family visits (suc n) = steps_in family visits n + one_if (is_some (step_to family visits (visit_at visits n)))

abbrev pub cut_text : Bool → List ℕ
cut_text false = codes "\n"
cut_text true = codes " cut\n"

-- The lines of all visits, and then the number of steps of the system, and whether the walk was cut.
abbrev pub trace_text : Family → List Visit → Bool → List ℕ
trace_text family visits is_cut = visits_text family visits (length visits)
    ++ codes "steps " ++ decimal (steps_in family visits (length visits)) ++ cut_text is_cut
