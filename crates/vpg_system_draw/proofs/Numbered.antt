-- The transitions of the code are those of the system.
use Rattle.std.proofs.Common.{◌≡◌, ℕ, ◌<◌, List, length, get_or, sym, ap, ◌∙◌, subst}
use Rattle.std.proofs.lemmas.List.{length-map, get_or-map}
use Rattle.vpg_system.specs.SystemText.{Transition, NamedSystem}
use Rattle.vpg_system.specs.SystemView.{transition_of, transitions_of}
use Rattle.vpg_system.specs.System.{IsSystem, IsTransition}
use Rattle.vpg_system.specs.declared.transition.Transition as kept
use Rattle.vpg_system_draw.specs.Arrows.{no_transition}

pub count_is : (ts : List kept.Transition) (system : NamedSystem) → transitions_of ts ≡ system.transitions → length ts ≡ length system.transitions
count_is ts system are = sym (length-map ts transition_of) ∙ ap length are

module _ (ts : List kept.Transition) (system : NamedSystem) (at : ℕ) (t : kept.Transition) (are : transitions_of ts ≡ system.transitions) (less : at < length system.transitions) (is : t ≡ get_or ts at t) where
  pub transition_is : transition_of t ≡ get_or system.transitions at no_transition
  transition_is = ap transition_of is
      ∙ (sym (get_or-map transition_of ts at t no_transition (subst (λ (n : ℕ). at < n) (sym (count_is ts system are)) less))
      ∙ ap (λ (us : List Transition). get_or us at no_transition) are)

  pub is_transition : IsSystem system → IsTransition system.features system.states (length system.actions) (transition_of t)
  is_transition sound = subst (IsTransition system.features system.states (length system.actions)) (sym transition_is) (sound.transitions_are at no_transition less)
