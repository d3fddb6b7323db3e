-- Properties of every system that is read. Featured transition systems are those of Classen 2010; the numbering of
-- actions is this project's own.
use Rattle.std.specs.Prelude.{ℕ, ◌+◌, ◌<◌, ◌≤◌, ◌≡◌, max, true, List, [], ◌∷◌, length, All, IsTrue}
use Rattle.vpg_features.specs.Names.{AreDistinct}
use Rattle.vpg_guards.specs.Writing.{IsReadable}
use Rattle.vpg_system.specs.SystemText.{Transition, NamedSystem, is_nonempty, trimmed, lacks}

-- a name that a label can have: not empty, without a blank at its ends, and without a line feed
pub record IsActionName (name : List ℕ) : Type 0 where
  pub some : is_nonempty name ≡ true
  pub trim : trimmed name ≡ name
  pub one_line : IsTrue (lacks 10 name)

-- a transition between this many states, with one of this many actions, and with a guard that can be written and read
-- again
pub record IsTransition (features states actions : ℕ) (t : Transition) : Type 0 where
  pub source_below : t.source < states
  pub target_below : t.target < states
  pub action_below : t.action < actions
  pub guard_is : IsReadable features t.guard

-- Actions are numbered in the order of their first use. There are this many before the transitions, and this many after
-- them. Each transition has an action seen before it, or the next one.
abbrev pub AreInOrder : ℕ → List Transition → ℕ → Type 0
AreInOrder seen [] all = seen ≡ all
AreInOrder seen (t ∷ ts) all = (t.action ≤ seen) × AreInOrder (max seen (t.action + 1)) ts all

-- A system within the limits. Its actions have different names, which labels can have. Its transitions lead between its
-- states, each with one of its actions and a guard over its features. Actions are in the order of their first use.
pub record IsSystem (s : NamedSystem) : Type 0 where
  pub few_states : s.states ≤ 65536
  pub few_transitions : length s.transitions ≤ 1048576
  pub first_below : s.first < s.states
  pub names_are : All IsActionName s.actions
  pub distinct : AreDistinct s.actions
  pub transitions_are : All (IsTransition s.features s.states (length s.actions)) s.transitions
  pub in_order : AreInOrder 0 s.transitions (length s.actions)
