-- Roots stand for their normal forms.
use Rattle.std.proofs.Common.{◌≡◌, ℕ, zero, suc, ◌+◌, ◌<◌, ◌≤◌, ◌⊎◌, inl, inr, Option, None, List, [], ◌∷◌, length, drop, get_or, refl, sym, ap, ◌∙◌, subst, arith, All, flat_map}
use Rattle.std.specs.List.{AllZip}
use Rattle.std.proofs.lemmas.Bool.{cases_lt}
use Rattle.std.proofs.lemmas.List.{get_or_past}
use Rattle.vpg_requirement.specs.Actions.{ActionFormula}
use Rattle.vpg_requirement.specs.NormalForms.{NormalForm, met, unmet, both, either, some_step, every_step, fixpoint, variable}
use Rattle.vpg_requirement.specs.Priorities.{with_priorities, IsClosedBelow}
use Rattle.vpg_parts.specs.declared.part.Kind.{Kind as PartKind}
use Rattle.vpg_parts.specs.declared.symbol.Symbol.{Symbol}
use Rattle.vpg_parts.specs.declared.symbol.Symbol.TheVariants.{True, False, And, Or, SomeStep, EveryStep, Fixpoint, Variable}
use Rattle.vpg_parts.specs.declared.part.Part.{Part}
use Rattle.vpg_parts.specs.declared.part.Part.TheVariants as part
use Rattle.vpg_parts.specs.Parts.{part_at}
use Rattle.vpg_parts.specs.Preorder.{place_in, form_step, form_with, IsPartOf, IsChainedAt, IsChained}
use Rattle.vpg_parts.specs.Symbols.{IsSpelled}
use Rattle.vpg_normal.specs.Sizes.{sizes_of}
use Rattle.vpg_normal.specs.Scopes.{fixpoint_of, scopes_from, AreFixpoints}
use Rattle.vpg_normal.specs.Ranks.{ArePriorities}
use Rattle.vpg_normal.specs.Placing.{all_symbols, starts_from, variable_of, part_of, AreParts}
use Rattle.vpg_normal.specs.Standing.{StandsAt}
use Rattle.vpg_normal.proofs.Lists.{none_left}
use Rattle.vpg_normal.proofs.Sizes.{size_there}
use Rattle.vpg_normal.proofs.Chains.{chain_at, chain_is, chain_walked, chain_place, chain_dropped, chain_symbol}
use Rattle.vpg_normal.proofs.Placed.{IsHere, IsPlaced, IsFrom, placed_outermost}
use Rattle.vpg_normal.proofs.Ranked.{IsRanked, ranked_at}

-- what the passes over the symbols made
pub record IsMade (symbols : List Symbol) (sizes : List ℕ) (scopes fixpoints : List (Option ℕ)) (priorities : List ℕ) (parts : List Part) : Type 0 where
  pub sizes_are : sizes ≡ sizes_of symbols
  pub scopes_are : scopes ≡ scopes_from symbols 0 []
  pub fixpoints_are : AreFixpoints symbols scopes fixpoints
  pub priorities_are : ArePriorities symbols sizes scopes fixpoints priorities 0
  pub parts_are : AreParts symbols sizes fixpoints priorities parts

module _ (actions : List ActionFormula) (symbols : List Symbol) (sizes : List ℕ) (scopes fixpoints : List (Option ℕ)) (priorities : List ℕ) (parts : List Part)
    (made : IsMade symbols sizes scopes fixpoints priorities parts) where
  abbrev Placed : List ℕ → ℕ → NormalForm → Type 0
  Placed c k f = IsPlaced actions symbols sizes scopes c k f

  part_here : (c : List ℕ) (k : ℕ) (s : Symbol) → IsHere symbols scopes c k s → part_at parts k ≡ part_of sizes fixpoints priorities k s
  part_here c k s here = made.parts_are.each k here.inside ∙ ap (part_of sizes fixpoints priorities k) here.symbol

  variable_here : (c : List ℕ) (k i : ℕ) → IsHere symbols scopes c k (Variable i) → i < length c → part_at parts k ≡ part.Variable (get_or c i 0)
  variable_here c k i here bound = part_here c k (Variable i) here ∙ ap variable_of (made.fixpoints_are.each k here.inside ∙ ap (fixpoint_of scopes (get_or scopes k None)) here.symbol ∙
      chain_walked symbols scopes c k (get_or scopes k None) i here.chain bound)

  chain_here : (c : List ℕ) (k : ℕ) (s : Symbol) → IsHere symbols scopes c k s → chain_at scopes k ≡ c
  chain_here c k s here = chain_is symbols scopes c k k (get_or scopes k None) (omega arith) here.chain

  -- ---- the form of a place

  no_level : (c : List ℕ) (k : ℕ) (s : Symbol) {X : Type 0} → IsHere symbols scopes c k s → length parts ≤ 0 + k → X
  no_level c k s here l = absurd (omega (arith, here.inside, made.parts_are.count))

  abbrev Formed : ℕ → ℕ → NormalForm → Type 0
  Formed n k f = form_with parts actions (chain_at scopes) n k ≡ with_priorities f

  stepped : (n k : ℕ) (q : Part) (f : NormalForm) → part_at parts k ≡ q → form_step actions (chain_at scopes k) (form_with parts actions (chain_at scopes) n) q ≡ f →
      form_with parts actions (chain_at scopes) (suc n) k ≡ f
  stepped n k q f e h = ap (form_step actions (chain_at scopes k) (form_with parts actions (chain_at scopes) n)) e ∙ h

  formed : (f : NormalForm) (c : List ℕ) (k n : ℕ) → Placed c k f → IsRanked sizes priorities k f → IsClosedBelow (length c) f → length parts ≤ n + k → Formed n k f
  formed met c k zero at ranked closed l = no_level c k True at.0 l
  formed met c k (suc n) at ranked closed l = stepped n k part.True met (part_here c k True at.0) refl
  formed unmet c k zero at ranked closed l = no_level c k False at.0 l
  formed unmet c k (suc n) at ranked closed l = stepped n k part.False unmet (part_here c k False at.0) refl
  formed (both f g) c k zero at ranked closed l = no_level c k And at.0 l
  formed (both f g) c k (suc n) at ranked closed l = stepped n k (part.And (suc k) (suc k + get_or sizes (suc k) 0)) (both (with_priorities f) (with_priorities g)) (part_here c k And at.0)
      (rw (formed f c (suc k) n at.2 ranked.0 closed.0 (omega arith), formed g c (suc k + get_or sizes (suc k) 0) n at.3 ranked.1 closed.1 (omega arith)) refl)
  formed (either f g) c k zero at ranked closed l = no_level c k Or at.0 l
  formed (either f g) c k (suc n) at ranked closed l = stepped n k (part.Or (suc k) (suc k + get_or sizes (suc k) 0)) (either (with_priorities f) (with_priorities g)) (part_here c k Or at.0)
      (rw (formed f c (suc k) n at.2 ranked.0 closed.0 (omega arith), formed g c (suc k + get_or sizes (suc k) 0) n at.3 ranked.1 closed.1 (omega arith)) refl)
  formed (some_step x f) c k zero at ranked closed l = no_level c k (SomeStep at.0) at.1 l
  formed (some_step x f) c k (suc n) at ranked closed l = stepped n k (part.SomeStep at.0 (suc k)) (some_step x (with_priorities f)) (part_here c k (SomeStep at.0) at.1)
      (rw (at.4, formed f c (suc k) n at.3 ranked closed (omega arith)) refl)
  formed (every_step x f) c k zero at ranked closed l = no_level c k (EveryStep at.0) at.1 l
  formed (every_step x f) c k (suc n) at ranked closed l = stepped n k (part.EveryStep at.0 (suc k)) (every_step x (with_priorities f)) (part_here c k (EveryStep at.0) at.1)
      (rw (at.4, formed f c (suc k) n at.3 ranked closed (omega arith)) refl)
  formed (fixpoint kind p f) c k zero at ranked closed l = no_level c k (Fixpoint at.0) at.1 l
  formed (fixpoint kind p f) c k (suc n) at ranked closed l = stepped n k (part.Fixpoint at.0 (get_or priorities k 0) (suc k)) (with_priorities (fixpoint kind p f)) (part_here c k (Fixpoint at.0) at.1)
      (rw (at.4, ranked.0, formed f (k ∷ c) (suc k) n at.3 ranked.1 closed (omega arith)) refl)
  formed (variable i) c k zero at ranked closed l = no_level c k (Variable i) at.0 l
  formed (variable i) c k (suc n) at ranked closed l = stepped n k (part.Variable (get_or c i 0)) (variable i) (variable_here c k i at.0 closed)
      (ap variable (ap (place_in (get_or c i 0)) (chain_here c k (Variable i) at.0) ∙ chain_place symbols scopes c k (get_or scopes k None) i at.0.chain closed))

  -- ---- the chains

  chain_of : (f : NormalForm) (c : List ℕ) (k : ℕ) → Placed c k f → chain_at scopes k ≡ c
  chain_of met c k at = chain_here c k True at.0
  chain_of unmet c k at = chain_here c k False at.0
  chain_of (both f g) c k at = chain_here c k And at.0
  chain_of (either f g) c k at = chain_here c k Or at.0
  chain_of (some_step x f) c k at = chain_here c k (SomeStep at.0) at.1
  chain_of (every_step x f) c k at = chain_here c k (EveryStep at.0) at.1
  chain_of (fixpoint kind p f) c k at = chain_here c k (Fixpoint at.0) at.1
  chain_of (variable i) c k at = chain_here c k (Variable i) at.0

  -- a part stands behind, in this chain
  part_behind : (f : NormalForm) (c d inner : List ℕ) (k a : ℕ) → k < a → Placed d a f → d ≡ inner → IsPartOf parts (chain_at scopes) k inner a
  part_behind f c d inner k a l at e = inr (l, chain_of f d a at ∙ e)

  abbrev ChainedAt : ℕ → Type 0
  ChainedAt q = IsChainedAt parts (chain_at scopes) q (part_at parts q)

  chained_by : (k : ℕ) (q : Part) → part_at parts k ≡ q → IsChainedAt parts (chain_at scopes) k q → ChainedAt k
  chained_by k q e h = subst (λ (p : Part). IsChainedAt parts (chain_at scopes) k p) (sym e) h

  variable_chained : (c : List ℕ) (k i : ℕ) → IsHere symbols scopes c k (Variable i) → i < length c → ChainedAt k
  variable_chained c k i here bound = chained_by k (part.Variable m) (variable_here c k i here bound) (dropped, is.1, get_or priorities m 0, suc m, made.parts_are.each m is.0 ∙ ap (part_of sizes fixpoints priorities m) is.2)
    where
      m : ℕ
      m = get_or c i 0

      is : (m < length symbols) × (kind : PartKind) × (get_or symbols m True ≡ Fixpoint kind)
      is = chain_symbol symbols scopes c k (get_or scopes k None) i here.chain bound

      dropped : drop (place_in m (chain_at scopes k)) (chain_at scopes k) ≡ m ∷ chain_at scopes m
      dropped = rw (chain_here c k (Variable i) here, chain_place symbols scopes c k (get_or scopes k None) i here.chain bound) (chain_dropped symbols scopes c k (get_or scopes k None) i here.chain bound)

  here_chained : (f : NormalForm) (c : List ℕ) (k : ℕ) → Placed c k f → IsClosedBelow (length c) f → ChainedAt k
  here_chained met c k at closed = chained_by k part.True (part_here c k True at.0) tt
  here_chained unmet c k at closed = chained_by k part.False (part_here c k False at.0) tt
  here_chained (both f g) c k at closed = chained_by k (part.And (suc k) (suc k + get_or sizes (suc k) 0)) (part_here c k And at.0)
      (part_behind f c c (chain_at scopes k) k (suc k) (omega arith) at.2 (sym (chain_here c k And at.0)), part_behind g c c (chain_at scopes k) k (suc k + get_or sizes (suc k) 0) (omega arith) at.3 (sym (chain_here c k And at.0)))
  here_chained (either f g) c k at closed = chained_by k (part.Or (suc k) (suc k + get_or sizes (suc k) 0)) (part_here c k Or at.0)
      (part_behind f c c (chain_at scopes k) k (suc k) (omega arith) at.2 (sym (chain_here c k Or at.0)), part_behind g c c (chain_at scopes k) k (suc k + get_or sizes (suc k) 0) (omega arith) at.3 (sym (chain_here c k Or at.0)))
  here_chained (some_step x f) c k at closed = chained_by k (part.SomeStep at.0 (suc k)) (part_here c k (SomeStep at.0) at.1)
      (part_behind f c c (chain_at scopes k) k (suc k) (omega arith) at.3 (sym (chain_here c k (SomeStep at.0) at.1)))
  here_chained (every_step x f) c k at closed = chained_by k (part.EveryStep at.0 (suc k)) (part_here c k (EveryStep at.0) at.1)
      (part_behind f c c (chain_at scopes k) k (suc k) (omega arith) at.3 (sym (chain_here c k (EveryStep at.0) at.1)))
  here_chained (fixpoint kind p f) c k at closed = chained_by k (part.Fixpoint at.0 (get_or priorities k 0) (suc k)) (part_here c k (Fixpoint at.0) at.1)
      (part_behind f c (k ∷ c) (k ∷ chain_at scopes k) k (suc k) (omega arith) at.3 (ap (λ (xs : List ℕ). k ∷ xs) (sym (chain_here c k (Fixpoint at.0) at.1))))
  here_chained (variable i) c k at closed = variable_chained c k i at.0 closed

  -- each place of the form is chained
  one_or_more : (f : NormalForm) (c : List ℕ) (k q : ℕ) → Placed c k f → IsClosedBelow (length c) f → k ≤ q → (suc k ≤ q → ChainedAt q) → ChainedAt q
  one_or_more f c k q at closed l more = decide (cases_lt k q)
    where
      decide : (k < q) ⊎ (q ≤ k) → ChainedAt q
      decide (inl less) = more less
      decide (inr least) = subst ChainedAt (let e : k ≡ q = omega arith in e) (here_chained f c k at closed)

  first_or_second : (q j : ℕ) → (q < j → ChainedAt q) → (j ≤ q → ChainedAt q) → ChainedAt q
  first_or_second q j first second = decide (cases_lt q j)
    where
      decide : (q < j) ⊎ (j ≤ q) → ChainedAt q
      decide (inl less) = first less
      decide (inr more) = second more

  chained_in : (f : NormalForm) (c : List ℕ) (k q : ℕ) → Placed c k f → IsClosedBelow (length c) f → k ≤ q → q < k + get_or sizes k 0 → ChainedAt q
  chained_in met c k q at closed l r = one_or_more met c k q at closed l (λ m. absurd (omega (arith, at.1)))
  chained_in unmet c k q at closed l r = one_or_more unmet c k q at closed l (λ m. absurd (omega (arith, at.1)))
  chained_in (variable i) c k q at closed l r = one_or_more (variable i) c k q at closed l (λ m. absurd (omega (arith, at.1)))
  chained_in (both f g) c k q at closed l r = one_or_more (both f g) c k q at closed l (λ m. first_or_second q (suc k + get_or sizes (suc k) 0)
      (λ less. chained_in f c (suc k) q at.2 closed.0 m less) (λ more. chained_in g c (suc k + get_or sizes (suc k) 0) q at.3 closed.1 more (omega (arith, at.1))))
  chained_in (either f g) c k q at closed l r = one_or_more (either f g) c k q at closed l (λ m. first_or_second q (suc k + get_or sizes (suc k) 0)
      (λ less. chained_in f c (suc k) q at.2 closed.0 m less) (λ more. chained_in g c (suc k + get_or sizes (suc k) 0) q at.3 closed.1 more (omega (arith, at.1))))
  chained_in (some_step x f) c k q at closed l r = one_or_more (some_step x f) c k q at closed l (λ m. chained_in f c (suc k) q at.3 closed m (omega (arith, at.2)))
  chained_in (every_step x f) c k q at closed l r = one_or_more (every_step x f) c k q at closed l (λ m. chained_in f c (suc k) q at.3 closed m (omega (arith, at.2)))
  chained_in (fixpoint kind p f) c k q at closed l r = one_or_more (fixpoint kind p f) c k q at closed l (λ m. chained_in f (k ∷ c) (suc k) q at.3 closed m (omega (arith, at.2)))

  -- ---- all requirements

  abbrev Spelled : List NormalForm → List (List Symbol) → Type 0
  Spelled fs forms = AllZip (IsSpelled actions) fs forms

  abbrev From : ℕ → List (List Symbol) → Type 0
  From k forms = IsFrom symbols scopes k (flat_map (λ ss. ss) forms) []

  -- each root's form is placed there, in no fixpoint, and the forms fill the list
  pub record IsRow (k : ℕ) (fs : List NormalForm) (forms : List (List Symbol)) : Type 0 where
    pub placed : AllZip (λ k f. Placed [] k f) (starts_from k forms) fs
    pub chained : (q : ℕ) → k ≤ q → q < length symbols → ChainedAt q

  closed_rest : (f : NormalForm) (fs : List NormalForm) → All (IsClosedBelow 0) (f ∷ fs) → All (IsClosedBelow 0) fs
  closed_rest f fs closed = λ i d l. closed (suc i) d (omega arith)

  row : (fs : List NormalForm) (forms : List (List Symbol)) (k : ℕ) → Spelled fs forms → All (IsClosedBelow 0) fs → From k forms → IsRow k fs forms
  row [] [] k h closed from = record { placed = tt; chained = λ q l m. absurd (omega (arith, none_left k symbols from.symbols_are)) }
  row [] (ss ∷ forms) k h closed from = absurd h
  row (f ∷ fs) [] k h closed from = absurd h
  row (f ∷ fs) (ss ∷ forms) k h closed from =
      let first = placed_outermost actions symbols sizes scopes made.sizes_are f k ss (flat_map (λ ss. ss) forms) h.0 from in
      joined first.0 (row fs forms (k + length ss) h.1 (closed_rest f fs closed) (first.1 (k + length ss) refl))
    where
      size : get_or sizes k 0 ≡ length ss
      size = ap (λ (xs : List ℕ). get_or xs k 0) made.sizes_are ∙ size_there actions f symbols k ss (flat_map (λ ss. ss) forms) h.0 from.symbols_are

      joined : Placed [] k f → IsRow (k + length ss) fs forms → IsRow k (f ∷ fs) (ss ∷ forms)
      joined at rest = record {
        placed = (at, rest.placed);
        chained = λ q l m. first_or_second q (k + length ss) (λ less. chained_in f [] k q at (closed 0 f (omega arith)) l (omega (arith, size))) (λ more. rest.chained q more m);
      }

  -- places 0 and 1, and those past the end
  constant_chained : (k : ℕ) (s : Symbol) → k < length symbols → get_or symbols k True ≡ s → part_of sizes fixpoints priorities k s ≡ part.True ⊎ part_of sizes fixpoints priorities k s ≡ part.False → ChainedAt k
  constant_chained k s inside is (inl e) = chained_by k part.True (made.parts_are.each k inside ∙ ap (part_of sizes fixpoints priorities k) is ∙ e) tt
  constant_chained k s inside is (inr e) = chained_by k part.False (made.parts_are.each k inside ∙ ap (part_of sizes fixpoints priorities k) is ∙ e) tt

  all_chained : (forms : List (List Symbol)) → symbols ≡ all_symbols forms → ((q : ℕ) → 2 ≤ q → q < length symbols → ChainedAt q) → IsChained parts (chain_at scopes)
  all_chained forms is inside zero = constant_chained 0 True (omega (arith, ap length is)) (ap (λ (ss : List Symbol). get_or ss 0 True) is) (inl refl)
  all_chained forms is inside (suc zero) = constant_chained 1 False (omega (arith, ap length is)) (ap (λ (ss : List Symbol). get_or ss 1 True) is) (inr refl)
  all_chained forms is inside (suc (suc q)) = first_or_second (suc (suc q)) (length symbols) (λ less. inside (suc (suc q)) (omega arith) less)
      (λ past. chained_by (suc (suc q)) part.False (get_or_past parts (suc (suc q)) part.False (omega (arith, made.parts_are.count))) tt)

  -- the forms begin at place 2
  begun : (forms : List (List Symbol)) → symbols ≡ all_symbols forms → From 2 forms
  begun forms is = record { symbols_are = ap (drop 2) is; scopes_are = ap (drop 2) (made.scopes_are ∙ ap (λ (ss : List Symbol). scopes_from ss 0 []) is) }

  stand : (fs : List NormalForm) (ks : List ℕ) → IsChained parts (chain_at scopes) → All (IsClosedBelow 0) fs → AllZip (λ k f. Placed [] k f) ks fs →
      AllZip (λ k f. StandsAt parts actions k (with_priorities f)) ks fs
  stand [] [] chained closed at = tt
  stand [] (k ∷ ks) chained closed at = absurd at
  stand (f ∷ fs) [] chained closed at = absurd at
  stand (f ∷ fs) (k ∷ ks) chained closed at = (first, stand fs ks chained (closed_rest f fs closed) at.1)
    where
      closed_here : IsClosedBelow 0 f
      closed_here = closed 0 f (omega arith)

      first : StandsAt parts actions k (with_priorities f)
      first = record {
        chain = chain_at scopes;
        chained = chained;
        outermost = chain_of f [] k at.0;
        stands = formed f [] k (length parts) at.0 (ranked_at actions symbols sizes scopes fixpoints priorities made.fixpoints_are f [] k made.priorities_are at.0 closed_here) closed_here (omega arith);
      }

  pub roots_stand : (forms : List (List Symbol)) (fs : List NormalForm) (roots : List ℕ) → symbols ≡ all_symbols forms → roots ≡ starts_from 2 forms → Spelled fs forms → All (IsClosedBelow 0) fs →
      AllZip (λ k f. StandsAt parts actions k (with_priorities f)) roots fs
  roots_stand forms fs roots is starts spelled closed = rw starts (of_row (row fs forms 2 spelled closed (begun forms is)))
    where
      of_row : IsRow 2 fs forms → AllZip (λ k f. StandsAt parts actions k (with_priorities f)) (starts_from 2 forms) fs
      of_row r = stand fs (starts_from 2 forms) (all_chained forms is r.chained) closed r.placed

pub as_many_starts : (k : ℕ) (forms : List (List Symbol)) → length (starts_from k forms) ≡ length forms
as_many_starts k [] = refl
as_many_starts k (ss ∷ forms) = ap suc (as_many_starts (k + length ss) forms)
