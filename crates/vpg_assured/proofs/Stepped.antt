-- The steps that a walk reports are those of the system, with the right marks.
use Rattle.std.proofs.Common.{◌≡◌, ℕ, ◌<◌, ◌⊎◌, inl, inr, Bool, true, List, [], ◌∷◌, length, Contains, refl, sym, ap, ◌∙◌, subst, Option, Some, None}
use Rattle.std.specs.Prelude.{filter, IsSome}
use Rattle.std.proofs.lemmas.Bool.{false≢true}
use Rattle.vpg_guards.specs.declared.tri.Tri.{Tri}
use Rattle.vpg_guards.specs.declared.tri.Tri.TheVariants.{No}
use Rattle.vpg_guards.specs.Formula.{Formula as Guard, truth}
use Rattle.vpg_guards.specs.Known.{Agrees, kleene}
use Rattle.vpg_guards.proofs.Kleene.{known_values_hold}
use Rattle.vpg_diagram.specs.FeatureDiagram.{IsDiagram}
use Rattle.vpg_hope.specs.Games.{Game, HasEdge}
use Rattle.vpg_hope.specs.Hope.{product_game}
use Rattle.vpg_hope.proofs.Edges.{Contains-cases, not_in_nil}
use Rattle.vpg_partial.specs.KnownLaws.{IsRemaining}
use Rattle.vpg_partial.specs.TableLaws.{IsKnownTable}
use Rattle.vpg_partial.proofs.Tables.{remaining_products_complete}
use Rattle.vpg_trail.specs.Page.{Entry, choices_of}
use Rattle.vpg_system.specs.SystemText.{NamedSystem}
use Rattle.vpg_system.specs.SystemText as texts
use Rattle.vpg_requirement.specs.Systems.{Transition}
use Rattle.vpg_requirement.proofs.Steps.{mapped_contains}
use Rattle.vpg_parts.specs.declared.part.Part.{Part}
use Rattle.vpg_parts.specs.declared.part.Part.TheVariants.{True, False, And, Or, SomeStep, EveryStep, Fixpoint}
use Rattle.vpg_parts.specs.Parts.{part_at, resolved_part}
use Rattle.vpg_parts.specs.Sets.{is_permitted}
use Rattle.vpg_model.specs.Departures.{Departure, PairMove}
use Rattle.vpg_model.specs.Forms.{AreDepartures}
use Rattle.vpg_model.specs.Pairs.{departures_at, free_to, leaving_moves, moves_by, pair_at, pair_by, pair_for}
use Rattle.vpg_model.specs.Sources.{system_of, transition_in}
use Rattle.vpg_trace.specs.declared.taking.Taken.{Taken}
use Rattle.vpg_trace.specs.declared.walking.Visit.{Visit}
use Rattle.vpg_trace.specs.Taking.{departure_at, taken_along, taken_at, taken_from, value_told}
use Rattle.vpg_trace.specs.Telling.{IsTakenBy}
use Rattle.vpg_trace.specs.Texts.{Family, family_of, step_from}
use Rattle.vpg_trace.specs.Traces.{IsTrace}
use Rattle.vpg_trace.specs.Walks.{visit_at}
use Rattle.vpg_trace.proofs.Fitting.{some_along, told_from}
use Rattle.vpg_trace.proofs.Moving.{filtered}
use Rattle.vpg_trace.proofs.There.{is_there, unmarked_steps_are_there}
use Rattle.vpg_texts.specs.Scene.{Scene}
use Rattle.vpg_assured.specs.Traced.{AsksForNoStep, IsAt, IsMarkedRight, IsMoveReported, IsStepBetween, IsVisitReported, NoneHasMove, transition_of}
use Rattle.vpg_assured.proofs.Moved.{Any, MoveBetween, TrueIn}

-- the pair of a part at a state is there
is_at : (s k : ℕ) (part : Part) → IsAt s (pair_by s k part)
is_at s k True = inr (inl refl)
is_at s k False = inr (inr refl)
is_at s k _ = inl refl

pair_is_at : (parts : List Part) (s k : ℕ) → IsAt s (pair_for parts s k)
pair_is_at parts s k = is_at s k (part_at parts k)

-- a transition by its source, as the text has it
abbrev as_text : Transition Guard → texts.Transition
as_text t = record { source = t.step.source; action = t.step.label; guard = t.guard; target = t.step.target }

-- a reported transition is one of the system's text
of_system : (system : NamedSystem) (states : List (List Departure)) (taken : Taken) →
    AreDepartures (system_of system) states → taken.index < length (departures_at states taken.state) →
    Contains system.transitions (transition_of states taken)
of_system system states taken are l =
    let (t, there, same) =
    mapped_contains transition_in system.transitions _ (is_there (system_of system) states taken.state taken.index are l)
    in subst (λ (u : texts.Transition). Contains system.transitions u) (ap as_text same) there

module _ (scene : Scene) (page : List Entry) (system : NamedSystem) (known : List Tri) (states : List (List Departure))
    (sets : List (List Bool)) (parts : List Part) (pairs : List (ℕ × ℕ)) (is_diagram : IsDiagram scene.lines)
    (is_known : IsKnownTable scene.lines (choices_of page) known) (are : AreDepartures (system_of system) states) where
  abbrev family : Family
  family = family_of scene.names system.actions known states sets parts pairs

  -- ---- a step that is reported

  marked : (from to : ℕ × ℕ) (taken : Taken) → IsTakenBy known states sets parts from to taken →
      IsMarkedRight scene page system known (transition_of states taken) taken.depends
  marked from to taken told = record {
    of_system = of_system system states taken are told.within;
    unmarked = λ unmarked set remains.
        unmarked_steps_are_there scene.lines (choices_of page) known (system_of system) states sets parts from to taken
        is_diagram is_known are told unmarked set remains;
    marked = λ depends. told.guard ∙ ap value_told depends;
  }

  of_step : (from to : ℕ × ℕ) (taken : Taken) → IsTakenBy known states sets parts from to taken →
      IsStepBetween scene page system known states from to taken
  of_step from to taken told = record {
    leaves = told.state;
    leads = subst (λ (pair : ℕ × ℕ). IsAt (departure_at states taken).target pair) told.target
        (pair_is_at parts (departure_at states taken).target told.place);
    right = marked from to taken told;
  }

  -- ---- a move without a step

  -- a guard that is true in a product that is left is not known to be false
  not_false : (set : List Bool) (g : Guard) → IsRemaining scene.lines (choices_of page) set → truth set g ≡ true →
      kleene known g ≡ No → ⊥
  not_false set g remains holds absent =
      false≢true (sym (subst (λ (v : Tri). Agrees v (truth set g)) absent
      (known_values_hold known set g
      (remaining_products_complete scene.lines (choices_of page) known set is_diagram is_known remains))) ∙ holds)

  module _ (s : ℕ) (to : ℕ × ℕ) where
    -- a move of a product at this part
    abbrev MovesIn : List Bool → Part → Type 0
    MovesIn set part =
        (move : PairMove) × Contains (moves_by states sets parts s part) move × TrueIn set move.guard × (move.to ≡ to)

    some_step : (x a : ℕ) (set : List Bool) → IsRemaining scene.lines (choices_of page) set →
        (move : PairMove) → Contains (leaving_moves states sets parts s x a) move → truth set move.guard ≡ true →
        move.to ≡ to → IsSome (taken_along known states sets parts s x a to)
    some_step x a set remains move c holds e =
        let (t, there, same) =
        mapped_contains (λ (t : Departure). record { guard = t.guard; to = pair_for parts t.target a })
        (filter (λ (t : Departure). is_permitted sets x t.action) (departures_at states s)) move c in
        let h = filtered (λ (t : Departure). is_permitted sets x t.action) (departures_at states s) t there in
        some_along known states sets parts s x a to t h.0 h.1 (ap (λ (m : PairMove). m.to) same ∙ e)
        (not_false set t.guard remains (ap (λ (m : PairMove). truth set m.guard) same ∙ holds))

    none_left : (x a : ℕ) → taken_along known states sets parts s x a to ≡ None → (set : List Bool) →
        IsRemaining scene.lines (choices_of page) set → (move : PairMove) →
        Contains (leaving_moves states sets parts s x a) move → truth set move.guard ≡ true → move.to ≡ to → ⊥
    none_left x a none set remains move c holds e =
        false≢true (subst (λ (o : Option Taken). IsSome o) none (some_step x a set remains move c holds e))

    -- a move within a requirement stays in the state
    stays : (p : ℕ × ℕ) (move : PairMove) → IsAt s p → free_to p ≡ move → move.to ≡ to → IsAt s to
    stays p move at same e = subst (λ (pair : ℕ × ℕ). IsAt s pair) (ap (λ (m : PairMove). m.to) same ∙ e) at

    stays_at_one : (p : ℕ × ℕ) (move : PairMove) → IsAt s p → Contains (free_to p ∷ []) move → move.to ≡ to → IsAt s to
    stays_at_one p move at c e = of (Contains-cases (free_to p) [] move c)
      where
        of : (free_to p ≡ move) ⊎ Contains [] move → IsAt s to
        of (inl same) = stays p move at same e
        of (inr d) = absurd (not_in_nil move d)

    stays_at_two : (p q : ℕ × ℕ) (move : PairMove) → IsAt s p → IsAt s q → Contains (free_to p ∷ free_to q ∷ []) move →
        move.to ≡ to → IsAt s to
    stays_at_two p q move at too c e = of (Contains-cases (free_to p) (free_to q ∷ []) move c)
      where
        of : (free_to p ≡ move) ⊎ Contains (free_to q ∷ []) move → IsAt s to
        of (inl same) = stays p move at same e
        of (inr d) = stays_at_one q move too d e

    -- no step is reported at this part
    abbrev Unreported : ℕ → ℕ → Part → Type 0
    Unreported v w part = (AsksForNoStep part × IsAt s to) ⊎ NoneHasMove scene page v w

    module _ (v w : ℕ) where
      abbrev InProducts : Part → Type 0
      InProducts part = (set : List Bool) → IsRemaining scene.lines (choices_of page) set →
          HasEdge (product_game (truth set) scene.game) v w → MovesIn set part

      no_step : (part : Part) (move : PairMove) → Contains (moves_by states sets parts s part) move → move.to ≡ to →
          InProducts part → taken_at known states sets parts s part to ≡ None → Unreported v w part
      no_step (And a b) move c e has none =
          inl (λ x y h. h, stays_at_two (pair_for parts s a) (pair_for parts s b) move (pair_is_at parts s a) (pair_is_at parts s b) c e)
      no_step (Or a b) move c e has none =
          inl (λ x y h. h, stays_at_two (pair_for parts s a) (pair_for parts s b) move (pair_is_at parts s a) (pair_is_at parts s b) c e)
      no_step (SomeStep x a) move c e has none = inr (λ set remains edge.
          let (m, there, holds, to_is) = has set remains edge in none_left x a none set remains m there holds to_is)
      no_step (EveryStep x a) move c e has none = inr (λ set remains edge.
          let (m, there, holds, to_is) = has set remains edge in none_left x a none set remains m there holds to_is)
      no_step (Fixpoint kind p b) move c e has none =
          inl (λ x y h. h, stays_at_one (pair_for parts s b) move (pair_is_at parts s b) c e)
      no_step _ move c e has none = absurd (not_in_nil move c)

  -- ---- a visit

  module _ (v w : ℕ) (move : MoveBetween Any states sets parts (pair_at pairs v) (pair_at pairs w))
      (in_product : (set : List Bool) → HasEdge (product_game (truth set) scene.game) v w →
      MoveBetween (TrueIn set) states sets parts (pair_at pairs v) (pair_at pairs w)) where
    reported : (o : Option Taken) →
        taken_from known states sets parts (pair_at pairs v) (pair_at pairs w) ≡ o →
        IsMoveReported scene page system family v w o
    reported (Some taken) e =
        of_step (pair_at pairs v) (pair_at pairs w) taken
        (told_from known states sets parts (pair_at pairs v) (pair_at pairs w) taken e)
    reported None e =
        no_step (pair_at pairs v).0 (pair_at pairs w) v w (resolved_part parts (pair_at pairs v).1) move.move move.there
        move.to_is (λ set remains edge. let m = in_product set edge in (m.move, m.there, m.has, m.to_is)) e

  module _ (game : Game) (moves : List (Option ℕ)) (first : ℕ) (visits : List Visit)
      (is : IsTrace game moves first visits)
      (move : (v w : ℕ) → HasEdge game v w →
      MoveBetween Any states sets parts (pair_at pairs v) (pair_at pairs w))
      (in_product : (v w : ℕ) (set : List Bool) → HasEdge (product_game (truth set) scene.game) v w →
      MoveBetween (TrueIn set) states sets parts (pair_at pairs v) (pair_at pairs w)) where
    pub visit_reported : (i : ℕ) → 0 < i → i < length visits → IsVisitReported scene page system family visits i
    visit_reported i some l =
        let (p, h) = is.others i some l in
        let v : ℕ = (visit_at visits p).vertex in
        let w : ℕ = (visit_at visits i).vertex in
        record {
          from = p;
          earlier = h.earlier;
          before = h.before;
          move = subst (λ (o : Option Taken). IsMoveReported scene page system family v w o)
              (sym (ap (λ (b : Option ℕ). step_from known states sets parts pairs visits b w) h.before))
              (reported v w (move v w h.move.0) (in_product v w)
              (taken_from known states sets parts (pair_at pairs v) (pair_at pairs w)) refl);
        }
