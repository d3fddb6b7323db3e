-- Parts that stand behind those that they are parts of, `true` and `false` shared, are requirements.
use Rattle.std.proofs.Common.{◌≡◌, ℕ, zero, suc, ◌+◌, ◌<◌, ◌≤◌, ◌⊎◌, inl, inr, Bool, List, [], ◌∷◌, length, map, drop, refl, sym, ◌∙◌, subst, ap, ap₂, arith}
use Rattle.std.proofs.lemmas.Bool.{cases_lt}
use Rattle.vpg_requirement.specs.Actions.{ActionFormula}
use Rattle.vpg_requirement.specs.NormalForms.{NormalForm, met, unmet, both, either, some_step, every_step, fixpoint}
use Rattle.vpg_requirement.specs.Situations.{Binder, situation}
use Rattle.vpg_parts.specs.declared.part.Part.{Part}
use Rattle.vpg_parts.specs.declared.part.Part.TheVariants.{True, False, And, Or, SomeStep, EveryStep, Fixpoint, Variable}
use Rattle.vpg_parts.specs.Parts.{part_at, HasConstants}
use Rattle.vpg_parts.specs.Parts.{kind_of}
use Rattle.vpg_model.specs.Forms.{IsFormAt}
use Rattle.vpg_parts.specs.Sets.{actions_at, ArePermitted}
use Rattle.vpg_parts.specs.Preorder.{place_in, form_step, form_with, form_of, binder_by, binder_at, scope_of, IsLeaf, IsPartOf, IsChainedAt, IsChained}
use Rattle.vpg_model.specs.Forms.{ChainedPartsStand}

past : (parts : List Part) (k : ℕ) → length parts ≤ k → part_at parts k ≡ False
past [] k l = refl
past (p ∷ parts) zero l = absurd (omega arith)
past (p ∷ parts) (suc k) l = past parts k (omega arith)

drop_map : (f : ℕ → Binder) (i : ℕ) (xs : List ℕ) → drop i (map f xs) ≡ map f (drop i xs)
drop_map f zero xs = refl
drop_map f (suc i) [] = refl
drop_map f (suc i) (x ∷ xs) = drop_map f i xs

module _ (parts : List Part) (actions : List ActionFormula) (chain : ℕ → List ℕ) (constants : HasConstants parts) (chained : IsChained parts chain) where
  abbrev with : ℕ → ℕ → NormalForm
  with n k = form_with parts actions chain n k

  where_is : (k : ℕ) (inner : List ℕ) (a : ℕ) → IsPartOf parts chain k inner a → IsLeaf parts a ⊎ (k < a)
  where_is k inner a (inl c) = inl c
  where_is k inner a (inr b) = inr b.0

  step_same : (f g : ℕ → NormalForm) (k : ℕ) (p : Part) → IsChainedAt parts chain k p → ((a : ℕ) → IsLeaf parts a ⊎ (k < a) → f a ≡ g a) → form_step actions (chain k) f p ≡ form_step actions (chain k) g p
  step_same f g k True c h = refl
  step_same f g k False c h = refl
  step_same f g k (And a b) c h = ap₂ both (h a (where_is k (chain k) a c.0)) (h b (where_is k (chain k) b c.1))
  step_same f g k (Or a b) c h = ap₂ either (h a (where_is k (chain k) a c.0)) (h b (where_is k (chain k) b c.1))
  step_same f g k (SomeStep x a) c h = ap (some_step (actions_at actions x)) (h a (where_is k (chain k) a c))
  step_same f g k (EveryStep x a) c h = ap (every_step (actions_at actions x)) (h a (where_is k (chain k) a c))
  step_same f g k (Fixpoint kind p b) c h = ap (fixpoint (kind_of kind) p) (h b (where_is k (k ∷ chain k) b c))
  step_same f g k (Variable m) c h = refl

  -- one level is enough for `true` and `false`
  leaf_is : (n k : ℕ) → IsLeaf parts k → (with (suc n) k ≡ met) ⊎ (with (suc n) k ≡ unmet)
  leaf_is n k (inl t) = inl (ap (form_step actions (chain k) (with n)) t)
  leaf_is n k (inr f) = inr (ap (form_step actions (chain k) (with n)) f)

  leaf_same : (n m k : ℕ) → IsLeaf parts k → with (suc n) k ≡ with (suc m) k
  leaf_same n m k (inl t) = ap (form_step actions (chain k) (with n)) t ∙ sym (ap (form_step actions (chain k) (with m)) t)
  leaf_same n m k (inr f) = ap (form_step actions (chain k) (with n)) f ∙ sym (ap (form_step actions (chain k) (with m)) f)

  leaves : (n m k : ℕ) → 0 < n → 0 < m → IsLeaf parts k → with n k ≡ with m k
  leaves zero m k l j leaf = absurd (omega arith)
  leaves (suc n) zero k l j leaf = absurd (omega arith)
  leaves (suc n) (suc m) k l j leaf = leaf_same n m k leaf

  -- beyond the list there is nothing but `false`
  beyond : (n k : ℕ) → length parts ≤ k → with n k ≡ unmet
  beyond zero k l = refl
  beyond (suc n) k l = ap (form_step actions (chain k) (with n)) (past parts k l)

  -- enough levels are as good as more
  steady : (n m k : ℕ) → length parts < n + k → length parts < m + k → with n k ≡ with m k
  steady zero m k l j = beyond 0 k (omega arith) ∙ sym (beyond m k (omega arith))
  steady (suc n) zero k l j = beyond (suc n) k (omega arith) ∙ sym (beyond 0 k (omega arith))
  steady (suc n) (suc m) k l j = decide (cases_lt k (length parts)) (λ a b. steady n m a (omega arith) (omega arith))
    where
      decide : (k < length parts) ⊎ (length parts ≤ k) → ((a : ℕ) → k < a → with n a ≡ with m a) → with (suc n) k ≡ with (suc m) k
      decide (inr past) rest = beyond (suc n) k past ∙ sym (beyond (suc m) k past)
      decide (inl within) rest = step_same (with n) (with m) k (part_at parts k) (chained k) of
        where
          of : (a : ℕ) → IsLeaf parts a ⊎ (k < a) → with n a ≡ with m a
          of a (inl leaf) = leaves n m a (omega arith) (omega arith) leaf
          of a (inr behind) = rest a behind

  abbrev form : ℕ → NormalForm
  form k = form_of parts actions chain k

  -- the list is not empty
  some_parts : 0 < length parts
  some_parts = of parts constants.truth
    where
      of : (ps : List Part) → part_at ps 0 ≡ True → 0 < length ps
      of [] e = absurd cc
      of (p ∷ ps) e = omega arith

  form_is : (k : ℕ) → form k ≡ form_step actions (chain k) form (part_at parts k)
  form_is zero = leaves (length parts) (suc (length parts)) 0 some_parts (omega arith) (inl constants.truth)
  form_is (suc k) = steady (length parts) (suc (length parts)) (suc k) (omega arith) (omega arith)

  abbrev scope : ℕ → List Binder
  scope k = scope_of parts actions chain k

  under : (a : ℕ) (other : List ℕ) → chain a ≡ other → (s : ℕ) → situation s (form a) (scope a) ≡ situation s (form a) (map (binder_at parts actions chain) other)
  under a other e s = ap (λ (l : List ℕ). situation s (form a) (map (binder_at parts actions chain) l)) e

  is_constant : (a : ℕ) → IsLeaf parts a → (form a ≡ met) ⊎ (form a ≡ unmet)
  is_constant a leaf = of (leaf_is (length parts) a leaf)
    where
      of : (with (suc (length parts)) a ≡ met) ⊎ (with (suc (length parts)) a ≡ unmet) → (form a ≡ met) ⊎ (form a ≡ unmet)
      of (inl e) = inl (leaves (length parts) (suc (length parts)) a some_parts (omega arith) leaf ∙ e)
      of (inr e) = inr (leaves (length parts) (suc (length parts)) a some_parts (omega arith) leaf ∙ e)

  -- a part, in the scope of the one that it is a part of
  within : (k : ℕ) (inner : List ℕ) (a : ℕ) → IsPartOf parts chain k inner a → (s : ℕ) → situation s (form a) (scope a) ≡ situation s (form a) (map (binder_at parts actions chain) inner)
  within k inner a (inr b) s = under a inner b.1 s
  within k inner a (inl c) s = of (is_constant a c)
    where
      of : (form a ≡ met) ⊎ (form a ≡ unmet) → situation s (form a) (scope a) ≡ situation s (form a) (map (binder_at parts actions chain) inner)
      of (inl e) = subst (λ (f : NormalForm). situation s f (scope a) ≡ situation s f (map (binder_at parts actions chain) inner)) (sym e) refl
      of (inr e) = subst (λ (f : NormalForm). situation s f (scope a) ≡ situation s f (map (binder_at parts actions chain) inner)) (sym e) refl

  formed : (labels : ℕ) (sets : List (List Bool)) → ((x : ℕ) → ArePermitted labels sets x (actions_at actions x)) → (k : ℕ) (p : Part) → part_at parts k ≡ p → form k ≡ form_step actions (chain k) form p →
      IsChainedAt parts chain k p → IsFormAt labels sets parts (form_of parts actions chain) (scope_of parts actions chain) k p
  formed labels sets h k True q e c = e
  formed labels sets h k False q e c = e
  formed labels sets h k (And a b) q e c = (e, within k (chain k) a c.0, within k (chain k) b c.1)
  formed labels sets h k (Or a b) q e c = (e, within k (chain k) a c.0, within k (chain k) b c.1)
  formed labels sets h k (SomeStep x a) q e c = (actions_at actions x, e, h x, within k (chain k) a c)
  formed labels sets h k (EveryStep x a) q e c = (actions_at actions x, e, h x, within k (chain k) a c)
  formed labels sets h k (Fixpoint kind p b) q e c = (e, λ s. within k (k ∷ chain k) b c s ∙ ap (λ (r : Part). situation s (form b) (binder_by (form_of parts actions chain) r ∷ scope k)) q)
  formed labels sets h k (Variable m) q e c = (
    place_in m (chain k),
    c.1,
    c.2,
    c.3,
    c.4,
    e,
    drop_map (binder_at parts actions chain) (place_in m (chain k)) (chain k) ∙ ap (map (binder_at parts actions chain)) c.0 ∙ ap (λ (r : Part). binder_by (form_of parts actions chain) r ∷ scope m) c.4,
  )

pub chained_parts_stand : ChainedPartsStand
chained_parts_stand labels sets parts actions chain constants chained h = record {
  constants = constants;
  each = λ k. formed parts actions chain constants chained labels sets h k (part_at parts k) refl (form_is parts actions chain constants chained k) (chained k);
}
