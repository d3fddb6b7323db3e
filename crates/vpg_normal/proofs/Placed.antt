-- Where the parts of a normal form stand, whose symbols begin at a place.
use Rattle.std.proofs.Common.{◌≡◌, ℕ, suc, ◌+◌, ◌<◌, ◌≤◌, Option, Some, None, List, [], ◌∷◌, ◌++◌, length, drop, get_or, refl, ap, ◌∙◌, subst, arith, append_assoc, length-append}
use Rattle.vpg_requirement.specs.Actions.{ActionFormula}
use Rattle.vpg_requirement.specs.NormalForms.{NormalForm, met, unmet, both, either, some_step, every_step, fixpoint, variable}
use Rattle.vpg_parts.specs.declared.part.Kind.{Kind as PartKind}
use Rattle.vpg_parts.specs.declared.symbol.Symbol.{Symbol}
use Rattle.vpg_parts.specs.declared.symbol.Symbol.TheVariants.{True, False, And, Or, SomeStep, EveryStep, Fixpoint, Variable}
use Rattle.vpg_parts.specs.Parts.{kind_of}
use Rattle.vpg_parts.specs.Sets.{actions_at}
use Rattle.vpg_parts.specs.Symbols.{IsSpelled}
use Rattle.vpg_normal.specs.Sizes.{sizes_of}
use Rattle.vpg_normal.specs.Scopes.{operands_of, scopes_from}
use Rattle.vpg_normal.proofs.Lists.{IsCut, cut}
use Rattle.vpg_normal.proofs.Sizes.{size_there}
use Rattle.vpg_normal.proofs.Chains.{IsLink, IsChainFrom, chain_more}

-- a symbol stands at a place, in a chain of fixpoints
pub record IsHere (symbols : List Symbol) (scopes : List (Option ℕ)) (c : List ℕ) (k : ℕ) (s : Symbol) : Type 0 where
  pub inside : k < length symbols
  pub symbol : get_or symbols k True ≡ s
  pub chain : IsChainFrom symbols scopes k (get_or scopes k None) c

-- two operands stand behind one another
abbrev pub HasTwo : List ℕ → ℕ → Type 0
HasTwo sizes k = get_or sizes k 0 ≡ suc (get_or sizes (suc k) 0 + get_or sizes (suc k + get_or sizes (suc k) 0) 0)

abbrev pub HasOne : List ℕ → ℕ → Type 0
HasOne sizes k = get_or sizes k 0 ≡ suc (get_or sizes (suc k) 0)

-- the symbols of a normal form stand from a place on, in a chain of fixpoints
abbrev pub IsPlaced : List ActionFormula → List Symbol → List ℕ → List (Option ℕ) → List ℕ → ℕ → NormalForm → Type 0
IsPlaced actions symbols sizes scopes c k met = IsHere symbols scopes c k True × (get_or sizes k 0 ≡ 1)
IsPlaced actions symbols sizes scopes c k unmet = IsHere symbols scopes c k False × (get_or sizes k 0 ≡ 1)
IsPlaced actions symbols sizes scopes c k (both f g) = IsHere symbols scopes c k And × HasTwo sizes k ×
    IsPlaced actions symbols sizes scopes c (suc k) f × IsPlaced actions symbols sizes scopes c (suc k + get_or sizes (suc k) 0) g
IsPlaced actions symbols sizes scopes c k (either f g) = IsHere symbols scopes c k Or × HasTwo sizes k ×
    IsPlaced actions symbols sizes scopes c (suc k) f × IsPlaced actions symbols sizes scopes c (suc k + get_or sizes (suc k) 0) g
IsPlaced actions symbols sizes scopes c k (some_step x f) = (n : ℕ) × IsHere symbols scopes c k (SomeStep n) × HasOne sizes k ×
    IsPlaced actions symbols sizes scopes c (suc k) f × (actions_at actions n ≡ x)
IsPlaced actions symbols sizes scopes c k (every_step x f) = (n : ℕ) × IsHere symbols scopes c k (EveryStep n) × HasOne sizes k ×
    IsPlaced actions symbols sizes scopes c (suc k) f × (actions_at actions n ≡ x)
IsPlaced actions symbols sizes scopes c k (fixpoint kind p f) = (sort : PartKind) × IsHere symbols scopes c k (Fixpoint sort) × HasOne sizes k ×
    IsPlaced actions symbols sizes scopes (k ∷ c) (suc k) f × (kind_of sort ≡ kind)
IsPlaced actions symbols sizes scopes c k (variable i) = IsHere symbols scopes c k (Variable i) × (get_or sizes k 0 ≡ 1)

-- these symbols stand from a place on, and the scopes of operands that are awaited there
pub record IsFrom (symbols : List Symbol) (scopes : List (Option ℕ)) (k : ℕ) (ss : List Symbol) (awaited : List (Option ℕ)) : Type 0 where
  pub symbols_are : drop k symbols ≡ ss
  pub scopes_are : drop k scopes ≡ scopes_from ss k awaited

module _ (actions : List ActionFormula) (symbols : List Symbol) (sizes : List ℕ) (scopes : List (Option ℕ)) (sized : sizes ≡ sizes_of symbols) where
  -- the first symbol, and what stands behind it
  record IsStep (c : List ℕ) (k : ℕ) (s : Symbol) (ss : List Symbol) (from : Option ℕ) (awaited : List (Option ℕ)) : Type 0 where
    here : IsHere symbols scopes c k s
    behind : IsFrom symbols scopes (suc k) ss (operands_of s k from awaited)

  step : (c : List ℕ) (k : ℕ) (s : Symbol) (ss : List Symbol) (from : Option ℕ) (awaited : List (Option ℕ)) → IsFrom symbols scopes k (s ∷ ss) (from ∷ awaited) →
      IsChainFrom symbols scopes k from c → IsStep c k s ss from awaited
  step c k s ss from awaited h chain = joined (cut k symbols s ss h.symbols_are) (cut k scopes from (scopes_from ss (suc k) (operands_of s k from awaited)) h.scopes_are)
    where
      joined : IsCut symbols k s ss → IsCut scopes k from (scopes_from ss (suc k) (operands_of s k from awaited)) → IsStep c k s ss from awaited
      joined a b = record {
        here = record { inside = a.inside; symbol = a.element True; chain = rw (b.element None) chain };
        behind = record { symbols_are = a.behind; scopes_are = b.behind };
      }

  -- from the symbols of an operand on, and behind them
  regrouped : (k : ℕ) (us vs ws : List Symbol) (awaited : List (Option ℕ)) → IsFrom symbols scopes k ((us ++ vs) ++ ws) awaited → IsFrom symbols scopes k (us ++ (vs ++ ws)) awaited
  regrouped k us vs ws awaited h = subst (λ (ss : List Symbol). IsFrom symbols scopes k ss awaited) (append_assoc us vs ws) h

  size_here : (f : NormalForm) (k : ℕ) (us vs : List Symbol) (awaited : List (Option ℕ)) → IsSpelled actions f us → IsFrom symbols scopes k (us ++ vs) awaited → get_or sizes k 0 ≡ length us
  size_here f k us vs awaited h from = rw sized (size_there actions f symbols k us vs h from.symbols_are)

  -- the form is placed, and behind it stands the rest
  abbrev Places : NormalForm → List ℕ → ℕ → List Symbol → List Symbol → List (Option ℕ) → Type 0
  Places f c k us vs awaited = IsPlaced actions symbols sizes scopes c k f × ((e : ℕ) → e ≡ k + length us → IsFrom symbols scopes e vs awaited)

  leaf : (c : List ℕ) (k : ℕ) (s : Symbol) (us vs : List Symbol) (from : Option ℕ) (awaited : List (Option ℕ)) → us ≡ s ∷ [] → operands_of s k from awaited ≡ awaited →
      IsFrom symbols scopes k (us ++ vs) (from ∷ awaited) → IsChainFrom symbols scopes k from c → IsHere symbols scopes c k s × ((e : ℕ) → e ≡ k + length us → IsFrom symbols scopes e vs awaited)
  leaf c k s us vs from awaited is none h chain = (first.here, λ e at. subst (λ (n : ℕ). IsFrom symbols scopes n vs awaited) (omega (arith, ap length is)) rest)
    where
      first : IsStep c k s vs from awaited
      first = step c k s vs from awaited (subst (λ (ss : List Symbol). IsFrom symbols scopes k (ss ++ vs) (from ∷ awaited)) is h) chain

      rest : IsFrom symbols scopes (suc k) vs awaited
      rest = subst (λ (scopes_there : List (Option ℕ)). IsFrom symbols scopes (suc k) vs scopes_there) none first.behind

  one_operand : (f : NormalForm) (c d : List ℕ) (k : ℕ) (s : Symbol) (ss us vs : List Symbol) (from to : Option ℕ) (awaited : List (Option ℕ)) → ss ≡ s ∷ us →
      operands_of s k from awaited ≡ to ∷ awaited → IsSpelled actions f us → IsFrom symbols scopes k (ss ++ vs) (from ∷ awaited) → IsChainFrom symbols scopes k from c →
      (IsFrom symbols scopes (suc k) (us ++ vs) (to ∷ awaited) → Places f d (suc k) us vs awaited) → get_or sizes k 0 ≡ length ss →
      IsHere symbols scopes c k s × HasOne sizes k × IsPlaced actions symbols sizes scopes d (suc k) f × ((e : ℕ) → e ≡ k + length ss → IsFrom symbols scopes e vs awaited)
  one_operand f c d k s ss us vs from to awaited is one spelled h chain place size =
      (first.here, omega (arith, ap length is, size_here f (suc k) us vs (to ∷ awaited) spelled rest), (place rest).0, λ e at. (place rest).1 e (omega (arith, ap length is)))
    where
      first : IsStep c k s (us ++ vs) from awaited
      first = step c k s (us ++ vs) from awaited (subst (λ (ts : List Symbol). IsFrom symbols scopes k (ts ++ vs) (from ∷ awaited)) is h) chain

      rest : IsFrom symbols scopes (suc k) (us ++ vs) (to ∷ awaited)
      rest = subst (λ (scopes_there : List (Option ℕ)). IsFrom symbols scopes (suc k) (us ++ vs) scopes_there) one first.behind

  two_operands : (f g : NormalForm) (c : List ℕ) (k : ℕ) (s : Symbol) (ss us vs ws : List Symbol) (from : Option ℕ) (awaited : List (Option ℕ)) → ss ≡ s ∷ (us ++ vs) →
      operands_of s k from awaited ≡ from ∷ from ∷ awaited → IsSpelled actions f us → IsSpelled actions g vs → IsFrom symbols scopes k (ss ++ ws) (from ∷ awaited) → IsChainFrom symbols scopes k from c →
      (IsFrom symbols scopes (suc k) (us ++ (vs ++ ws)) (from ∷ from ∷ awaited) → Places f c (suc k) us (vs ++ ws) (from ∷ awaited)) →
      ((j : ℕ) → k ≤ j → IsFrom symbols scopes j (vs ++ ws) (from ∷ awaited) → Places g c j vs ws awaited) → get_or sizes k 0 ≡ length ss →
      IsHere symbols scopes c k s × HasTwo sizes k × IsPlaced actions symbols sizes scopes c (suc k) f × IsPlaced actions symbols sizes scopes c (suc k + get_or sizes (suc k) 0) g ×
      ((e : ℕ) → e ≡ k + length ss → IsFrom symbols scopes e ws awaited)
  two_operands f g c k s ss us vs ws from awaited is two spelled also h chain place place_second size = (
    first.here,
    omega (arith, ap length is, length-append us vs, first_size, size_here g j vs ws (from ∷ awaited) also second),
    (place rest).0,
    (place_second j (omega arith) second).0,
    λ e at. (place_second j (omega arith) second).1 e (omega (arith, ap length is, length-append us vs, first_size)),
  )
    where
      first : IsStep c k s ((us ++ vs) ++ ws) from awaited
      first = step c k s ((us ++ vs) ++ ws) from awaited (subst (λ (ts : List Symbol). IsFrom symbols scopes k (ts ++ ws) (from ∷ awaited)) is h) chain

      rest : IsFrom symbols scopes (suc k) (us ++ (vs ++ ws)) (from ∷ from ∷ awaited)
      rest = regrouped (suc k) us vs ws (from ∷ from ∷ awaited) (subst (λ (scopes_there : List (Option ℕ)). IsFrom symbols scopes (suc k) ((us ++ vs) ++ ws) scopes_there) two first.behind)

      first_size : get_or sizes (suc k) 0 ≡ length us
      first_size = size_here f (suc k) us (vs ++ ws) (from ∷ from ∷ awaited) spelled rest

      j : ℕ
      j = suc k + get_or sizes (suc k) 0

      second : IsFrom symbols scopes j (vs ++ ws) (from ∷ awaited)
      second = (place rest).1 j (ap (λ (n : ℕ). suc k + n) first_size)

  pub placed : (f : NormalForm) (c : List ℕ) (k : ℕ) (us vs : List Symbol) (from : Option ℕ) (awaited : List (Option ℕ)) → IsSpelled actions f us →
      IsFrom symbols scopes k (us ++ vs) (from ∷ awaited) → IsChainFrom symbols scopes k from c → Places f c k us vs awaited
  placed met c k us vs from awaited h there chain =
      let p = leaf c k True us vs from awaited h refl there chain in ((p.0, size_here met k us vs (from ∷ awaited) h there ∙ ap length h), p.1)
  placed unmet c k us vs from awaited h there chain =
      let p = leaf c k False us vs from awaited h refl there chain in ((p.0, size_here unmet k us vs (from ∷ awaited) h there ∙ ap length h), p.1)
  placed (variable i) c k us vs from awaited h there chain =
      let p = leaf c k (Variable i) us vs from awaited h refl there chain in ((p.0, size_here (variable i) k us vs (from ∷ awaited) h there ∙ ap length h), p.1)
  placed (both f g) c k us vs from awaited h there chain =
      let p = two_operands f g c k And us h.0 h.1 vs from awaited h.2 refl h.3 h.4 there chain
      (λ rest. placed f c (suc k) h.0 (h.1 ++ vs) from (from ∷ awaited) h.3 rest (chain_more symbols scopes c k (suc k) from (omega arith) chain))
      (λ j l rest. placed g c j h.1 vs from awaited h.4 rest (chain_more symbols scopes c k j from l chain))
      (size_here (both f g) k us vs (from ∷ awaited) h there) in
      ((p.0, p.1, p.2, p.3), p.4)
  placed (either f g) c k us vs from awaited h there chain =
      let p = two_operands f g c k Or us h.0 h.1 vs from awaited h.2 refl h.3 h.4 there chain
      (λ rest. placed f c (suc k) h.0 (h.1 ++ vs) from (from ∷ awaited) h.3 rest (chain_more symbols scopes c k (suc k) from (omega arith) chain))
      (λ j l rest. placed g c j h.1 vs from awaited h.4 rest (chain_more symbols scopes c k j from l chain))
      (size_here (either f g) k us vs (from ∷ awaited) h there) in
      ((p.0, p.1, p.2, p.3), p.4)
  placed (some_step x f) c k us vs from awaited h there chain =
      let p = one_operand f c c k (SomeStep h.0) us h.1 vs from from awaited h.2 refl h.4 there chain
      (λ rest. placed f c (suc k) h.1 vs from awaited h.4 rest (chain_more symbols scopes c k (suc k) from (omega arith) chain))
      (size_here (some_step x f) k us vs (from ∷ awaited) h there) in
      ((h.0, p.0, p.1, p.2, h.3), p.3)
  placed (every_step x f) c k us vs from awaited h there chain =
      let p = one_operand f c c k (EveryStep h.0) us h.1 vs from from awaited h.2 refl h.4 there chain
      (λ rest. placed f c (suc k) h.1 vs from awaited h.4 rest (chain_more symbols scopes c k (suc k) from (omega arith) chain))
      (size_here (every_step x f) k us vs (from ∷ awaited) h there) in
      ((h.0, p.0, p.1, p.2, h.3), p.3)
  placed (fixpoint kind p f) c k us vs from awaited h there chain =
      let here = (step c k (Fixpoint h.0) (h.1 ++ vs) from awaited (subst (λ (ts : List Symbol). IsFrom symbols scopes k (ts ++ vs) (from ∷ awaited)) h.2 there) chain).here in
      let link : IsLink symbols (Some k) k (suc k) = record { is = refl; lower = omega arith; inside = here.inside; kind = h.0; symbol = here.symbol } in
      let q = one_operand f c (k ∷ c) k (Fixpoint h.0) us h.1 vs from (Some k) awaited h.2 refl h.4 there chain
      (λ rest. placed f (k ∷ c) (suc k) h.1 vs (Some k) awaited h.4 rest (link, here.chain))
      (size_here (fixpoint kind p f) k us vs (from ∷ awaited) h there) in
      ((h.0, q.0, q.1, q.2, h.3), q.3)

  -- a normal form that stands in no fixpoint
  pub placed_outermost : (f : NormalForm) (k : ℕ) (us vs : List Symbol) → IsSpelled actions f us → IsFrom symbols scopes k (us ++ vs) [] → Places f [] k us vs []
  placed_outermost f k us vs h there = placed f [] k us vs None [] h (record { symbols_are = there.symbols_are; scopes_are = there.scopes_are ∙ none_awaited (us ++ vs) k }) refl
    where
      none_awaited : (ss : List Symbol) (j : ℕ) → scopes_from ss j [] ≡ scopes_from ss j (None ∷ [])
      none_awaited [] j = refl
      none_awaited (s ∷ ss) j = refl
