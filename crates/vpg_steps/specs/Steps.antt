-- The path of a walk through the system, and that of the trace of a verdict. This project's own.
use Rattle.std.specs.Prelude.{◌≡◌, ◌⊎◌, ℕ, zero, suc, Bool, Option, Some, None, List, [], ◌∷◌, ◌++◌, length}
use Rattle.vpg_guards.specs.declared.tri.Tri.{Tri}
use Rattle.vpg_parts.specs.declared.part.Part.{Part}
use Rattle.vpg_parts.specs.declared.part.Part.TheVariants.{True, False, And, Or, SomeStep, EveryStep, Fixpoint, Variable}
use Rattle.vpg_parts.specs.Parts.{resolved_part}
use Rattle.vpg_model.specs.Departures.{Departure}
use Rattle.vpg_model.specs.Pairs.{pair_at}
use Rattle.vpg_checking.specs.Behaviours.{Behaviour}
use Rattle.vpg_sides.specs.declared.which.Which.{Which}
use Rattle.vpg_sides.specs.declared.which.Which.TheVariants.{Hopeful, Dual}
use Rattle.vpg_why.specs.declared.question.Limits.{Limits}
use Rattle.vpg_trace.specs.Answering.{HasVerdict, IsTooShort, Page, TellsWalk, walk_along}
use Rattle.vpg_trace.specs.Texts.{state_of, step_from}
use Rattle.vpg_trace.specs.Walks.{visit_at, visit_before}
use Rattle.vpg_trace.specs.declared.taking.Taken.{Taken}
use Rattle.vpg_trace.specs.declared.walking.End.{End}
use Rattle.vpg_trace.specs.declared.walking.End.TheVariants.{GoesOn, Loop, Seen, Stands, Cut}
use Rattle.vpg_trace.specs.declared.walking.Visit.{Visit}
use Rattle.vpg_system_draw.specs.Traced.{Trail}
use Rattle.vpg_system_draw.specs.declared.marks.Step.{Step}

-- ---- steps

-- the transition that is taken, if one is
abbrev pub one_step : Option Taken → List Step
one_step None = []
one_step (Some taken) = record { state = taken.state; place = taken.index } ∷ []

-- the steps by which the first n visits are reached, as a trace reports them
abbrev pub steps_of : List Tri → List (List Departure) → List (List Bool) → List Part → List (ℕ × ℕ) → List Visit →
    (n : ℕ) → List Step
steps_of known states sets parts pairs visits zero = []
steps_of known states sets parts pairs visits (suc n) =
    steps_of known states sets parts pairs visits n
    ++ one_step (step_from known states sets parts pairs visits (visit_before visits n) (visit_at visits n).vertex)

-- ---- ends

-- the state that a visit comes back to, if it closes a loop
abbrev pub one_loop : List (ℕ × ℕ) → List Visit → End → List ℕ
one_loop pairs visits GoesOn = []
one_loop pairs visits (Loop k) = state_of pairs visits k ∷ []
one_loop pairs visits (Seen k) = []
one_loop pairs visits Stands = []
one_loop pairs visits Cut = []

-- the states that the first n visits come back to
abbrev pub loops_of : List (ℕ × ℕ) → List Visit → (n : ℕ) → List ℕ
loops_of pairs visits zero = []
loops_of pairs visits (suc n) = loops_of pairs visits n ++ one_loop pairs visits (visit_at visits n).end

-- the state, unless the part is `true` or `false` alone, which holds or fails in any state
abbrev pub state_unless : Part → ℕ → List ℕ
state_unless True s = []
state_unless False s = []
state_unless (And a b) s = s ∷ []
state_unless (Or a b) s = s ∷ []
state_unless (SomeStep x a) s = s ∷ []
state_unless (EveryStep x a) s = s ∷ []
state_unless (Fixpoint kind p b) s = s ∷ []
state_unless (Variable m) s = s ∷ []

-- the state of a visit where nobody moves
abbrev pub one_stand : List Part → ℕ × ℕ → End → List ℕ
one_stand parts pair GoesOn = []
one_stand parts pair (Loop k) = []
one_stand parts pair (Seen k) = []
one_stand parts pair Stands = state_unless (resolved_part parts pair.1) pair.0
one_stand parts pair Cut = []

-- the states of those among the first n visits
abbrev pub stands_of : List Part → List (ℕ × ℕ) → List Visit → (n : ℕ) → List ℕ
stands_of parts pairs visits zero = []
stands_of parts pairs visits (suc n) = stands_of parts pairs visits n
    ++ one_stand parts (pair_at pairs (visit_at visits n).vertex) (visit_at visits n).end

-- ---- the path

-- the path of these visits
abbrev pub trail_over : List Tri → List (List Departure) → List (List Bool) → List Part → List (ℕ × ℕ) →
    List Visit → Trail
trail_over known states sets parts pairs visits = record {
  steps = steps_of known states sets parts pairs visits (length visits);
  loops = loops_of pairs visits (length visits);
  stands = stands_of parts pairs visits (length visits);
}

-- the path of these visits, under what is known, in the game that was made of this
abbrev pub trail_of : List Tri → Behaviour → List Visit → Trail
trail_of known behaviour visits =
    trail_over known behaviour.states behaviour.sets behaviour.parts behaviour.pairs visits

-- The moves of a player win in each product left. The path is that of the walk along them, which an answer to `trace V`
-- writes.
pub record IsPathOf (page : Page) (behaviour : Behaviour) (mover : Which) (vertex : ℕ) (trail : Trail) : Type 0 where
  pub text : List ℕ
  pub walk : TellsWalk page behaviour mover vertex [] text
  pub trail_is : trail ≡ trail_of walk.known behaviour (walk_along page walk.known mover vertex walk.moves).visits

-- The path of a walk along moves of the player that win; or the limits leave no room to find them.
abbrev pub FindsWon : Page → Behaviour → Limits → (mover : Which) → (vertex : ℕ) → Option Trail → Type 0
FindsWon page behaviour limits mover vertex (Some trail) = IsPathOf page behaviour mover vertex trail
FindsWon page behaviour limits mover vertex None = IsTooShort page limits mover

-- If the vertex is hopeless on the page, the path is along Odd's moves; if it is sure, along Even's. Otherwise there is
-- none.
abbrev pub FindsPath : Page → Behaviour → Limits → (vertex : ℕ) → Option Trail → Type 0
FindsPath page behaviour limits vertex found =
    (HasVerdict page Hopeful vertex × FindsWon page behaviour limits Dual vertex found)
    ⊎ (¬ (HasVerdict page Hopeful vertex) × HasVerdict page Dual vertex
    × FindsWon page behaviour limits Hopeful vertex found)
    ⊎ (¬ (HasVerdict page Hopeful vertex) × ¬ (HasVerdict page Dual vertex) × (found ≡ None))
