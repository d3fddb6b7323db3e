-- Chains of edges, and what one more edge does to them.
use Rattle.std.proofs.Common.{◌≡◌, ◌≢◌, ℕ, ◌+◌, ◌-◌, ◌<◌, ◌≤◌, ◌==◌, ◌⊎◌, inl, inr, Bool, true, false}
use Rattle.std.proofs.Common.{List, [], ◌∷◌, ◌++◌, length, map, get_or, set, take, drop, reverse, replicate, All}
use Rattle.std.proofs.Common.{zero, suc, refl, sym, ap, ◌∙◌, subst, arith}
use Rattle.std.specs.Prelude.{if◌then◌else◌, nat_lt}
use Rattle.std.proofs.lemmas.Bool.{cases_Bool, cases_lt, cases_order, eq-eqb, ne_eqb, eqb-true, eqb-false}
use Rattle.std.proofs.lemmas.Bool.{lt-ltb, le-ltb}
use Rattle.std.proofs.lemmas.List.{reverse-append, reverse-reverse, length-reverse}
use Rattle.std.proofs.lemmas.List.{length-set, length_push}
use Rattle.std.proofs.lemmas.List.{get_or_past, get_or_append_left, get_or_push, get_or_default}
use Rattle.std.proofs.lemmas.List.{get_or-set_same, get_or-set_other, drop_more, take_more}
use Rattle.std.proofs.lemmas.List.Elements.{All-append, All-set}
use lib.ListN.{get_or-map}
use Rattle.vpg_hope.specs.Games.{Game, Vertex, successors_of, isolated}
use Rattle.vpg_board.specs.Predecessors.{ArePredecessors}
use Rattle.vpg_board.specs.Chains.{chain_from, sources, lists_of, LeadFrom, LeadBack, AreLinked, edges_kept}
use Rattle.vpg_board.specs.Rule.{times}
use Rattle.vpg_board.proofs.Totals.{total_snoc}

abbrev Edge : Type 0
Edge = ℕ × ℕ

-- ---- chains

-- a later edge changes no chain from an earlier place
earlier_chain : (e : Edge) (es : List Edge) (place : ℕ) → place ≤ length es →
    chain_from (e ∷ es) place ≡ chain_from es place
earlier_chain e es place less = rw (ne_eqb place (length es + 1) (λ q. omega arith)) refl

-- from the latest place on
latest_chain : (e : Edge) (es : List Edge) (place : ℕ) → place ≡ length es + 1 →
    chain_from (e ∷ es) place ≡ e.0 ∷ chain_from es e.1
latest_chain e es place is = rw (eq-eqb place (length es + 1) is) refl

no_chain : (es : List Edge) → chain_from es 0 ≡ []
no_chain [] = refl
no_chain (e ∷ es) = earlier_chain e es 0 (omega arith) ∙ no_chain es

listed : (last : List ℕ) (edges : List Edge) (v : ℕ) → get_or (lists_of last edges) v [] ≡ sources last edges v
listed last edges v =
    ap (λ (d : List ℕ). get_or (map (chain_from (reverse edges)) last) v d) (sym (no_chain (reverse edges)))
    ∙ get_or-map (chain_from (reverse edges)) last v 0

reverse_push : (edges : List Edge) (e : Edge) → reverse (edges ++ e ∷ []) ≡ e ∷ reverse edges
reverse_push edges e = reverse-append edges (e ∷ [])

-- ---- links

module _ (edges : List Edge) (e : Edge) where
  before : (k : ℕ) → k < length edges → get_or (edges ++ e ∷ []) k (0, 0) ≡ get_or edges k (0, 0)
  before k less = get_or_append_left edges (e ∷ []) (0, 0) k less

  at_end : (k : ℕ) → length edges ≡ k → get_or (edges ++ e ∷ []) k (0, 0) ≡ e
  at_end k is = get_or_push edges e (0, 0) k is

  longer : length (edges ++ e ∷ []) ≡ length edges + 1
  longer = length_push edges e

  back_push : LeadBack edges → e.1 ≤ length edges → LeadBack (edges ++ e ∷ [])
  back_push back least k less = decide (cases_lt k (length edges))
    where
      decide : (k < length edges) ⊎ (length edges ≤ k) → (get_or (edges ++ e ∷ []) k (0, 0)).1 ≤ k
      decide (inl l) = rw (before k l) (back k l)
      decide (inr m) = rw (at_end k (omega (arith, longer))) (omega (arith, least))

  back_less : LeadBack (edges ++ e ∷ []) → LeadBack edges
  back_less back k less = subst (λ (x : Edge). x.1 ≤ k) (before k less) (back k (omega (arith, longer)))

  back_last : LeadBack (edges ++ e ∷ []) → e.1 ≤ length edges
  back_last back =
      subst (λ (x : Edge). x.1 ≤ length edges) (at_end (length edges) refl)
      (back (length edges) (omega (arith, longer)))

-- each vertex has a chain
at_most : (n : ℕ) (xs : List ℕ) → All (λ k. k ≤ n) xs → (i : ℕ) → get_or xs i 0 ≤ n
at_most n [] all i = omega arith
at_most n (x ∷ xs) all zero = all 0 0 (omega arith)
at_most n (x ∷ xs) all (suc i) = at_most n xs (λ k d less. all (suc k) d (omega arith)) i

-- ---- one more edge, from v to w

module _ (last : List ℕ) (edges : List Edge) (v w : ℕ) (is : AreLinked last edges) (less : w < length last) where
  abbrev edge : Edge
  edge = (v, get_or last w 0)

  abbrev last_then : List ℕ
  last_then = set last w (length edges + 1)

  abbrev edges_then : List Edge
  edges_then = edges ++ edge ∷ []

  linked_one : AreLinked last_then edges_then
  linked_one = record {
    ends = All-set (λ place. place ≤ length edges_then) last w (length edges + 1) (omega (arith, longer edges edge))
        (λ k d l. omega (arith, longer edges edge, is.ends k d l));
    back = back_push edges edge is.back (is.ends w 0 less);
  }

  place_here : (x : ℕ) → w ≡ x → get_or last_then x 0 ≡ length edges + 1
  place_here x same =
      subst (λ (y : ℕ). get_or last_then y 0 ≡ length edges + 1) same
      (get_or-set_same last w (length edges + 1) 0 less)

  source_here : (x : ℕ) → w ≡ x → sources last_then edges_then x ≡ v ∷ sources last edges x
  source_here x same =
      ap (λ (es : List Edge). chain_from es (get_or last_then x 0)) (reverse_push edges edge)
      ∙ latest_chain edge (reverse edges) (get_or last_then x 0)
      (omega (arith, length-reverse edges, place_here x same))
      ∙ ap (λ (y : ℕ). v ∷ sources last edges y) same

  source_there : (x : ℕ) → x ≢ w → sources last_then edges_then x ≡ sources last edges x
  source_there x other =
      ap (λ (es : List Edge). chain_from es (get_or last_then x 0)) (reverse_push edges edge)
      ∙ ap (chain_from (edge ∷ reverse edges)) (get_or-set_other last w x (length edges + 1) 0 other)
      ∙ earlier_chain edge (reverse edges) (get_or last x 0)
      (omega (arith, length-reverse edges, at_most (length edges) last is.ends x))

  abbrev IsCounted : ℕ → ℕ → Bool → Type 0
  IsCounted u x b =
      times u (sources last_then edges_then x)
      ≡ times u (sources last edges x) + (if v == u then (if b then 1 else 0) else 0)

  times_one : (u x : ℕ) → IsCounted u x (w == x)
  times_one u x = decide (cases_Bool (w == x))
    where
      none : (b : Bool) → times u (sources last edges x) ≡ times u (sources last edges x) + (if b then 0 else 0)
      none true = omega arith
      none false = omega arith

      decide : ((w == x) ≡ true) ⊎ ((w == x) ≡ false) → IsCounted u x (w == x)
      decide (inl t) = ap (times u) (source_here x (eqb-true w x t)) ∙ rw t (omega arith)
      decide (inr f) = ap (times u) (source_there x (λ q. eqb-false w x f (sym q))) ∙ rw f (none (v == u))

-- ---- the edges of one vertex, so far

module _ (v : ℕ) (last : List ℕ) (edges : List Edge) where
  pub record Added (done : List ℕ) (last_now : List ℕ) (edges_now : List Edge) : Type 0 where
    pub linked : AreLinked last_now edges_now
    pub wide : length last_now ≡ length last
    pub count : length edges_now ≡ length edges + length done
    pub each : (u w : ℕ) →
        times u (sources last_now edges_now w) ≡ times u (sources last edges w) + (if v == u then times w done else 0)
    pub inside : (n : ℕ) → v < n → LeadFrom n edges → LeadFrom n edges_now

  pub added_none : AreLinked last edges → Added [] last edges
  added_none is = record {
    linked = is;
    wide = refl;
    count = omega arith;
    each = λ u w. none (times u (sources last edges w)) (v == u);
    inside = λ n less all. all;
  }
    where
      none : (t : ℕ) (b : Bool) → t ≡ t + (if b then 0 else 0)
      none t true = omega arith
      none t false = omega arith

  one_more : (b : Bool) (now old base t s i : ℕ) → now ≡ old + (if b then i else 0) →
      old ≡ base + (if b then t else 0) → s ≡ t + i → now ≡ base + (if b then s else 0)
  one_more true now old base t s i p q r = omega arith
  one_more false now old base t s i p q r = omega arith

  module _ (last_now : List ℕ) (edges_now : List Edge) where
    added_one : (done : List ℕ) (w : ℕ) → Added done last_now edges_now → w < length last_now →
        Added (done ++ w ∷ []) (set last_now w (length edges_now + 1)) (edges_now ++ (v, get_or last_now w 0) ∷ [])
    added_one done w is less = record {
      linked = linked_one last_now edges_now v w is.linked less;
      wide = length-set last_now w (length edges_now + 1) ∙ is.wide;
      count = omega (arith, longer edges_now (v, get_or last_now w 0), length_push done w, is.count);
      each = λ u x. one_more (v == u)
          (times u (sources (set last_now w (length edges_now + 1)) (edges_now ++ (v, get_or last_now w 0) ∷ []) x))
          (times u (sources last_now edges_now x)) (times u (sources last edges x))
          (times x done) (times x (done ++ w ∷ [])) (if w == x then 1 else 0)
          (times_one last_now edges_now v w is.linked less u x) (is.each u x)
          (total_snoc (λ m. if m == x then 1 else 0) done w);
      inside = λ n from all.
          All-append (λ (e : Edge). e.0 < n) edges_now ((v, get_or last_now w 0) ∷ []) (is.inside n from all)
          (alone n from);
    }
      where
        alone : (n : ℕ) → v < n → LeadFrom n ((v, get_or last_now w 0) ∷ [])
        alone n from zero d l = from
        alone n from (suc k) d l = absurd (omega arith)

    pub added_next : (kept : List ℕ) (i : ℕ) (edges_then : List Edge) (latest place : ℕ) →
        Added (take i kept) last_now edges_now → i < length kept → get_or kept i 0 < length last_now →
        latest ≡ get_or last_now (get_or kept i 0) 0 → edges_then ≡ edges_now ++ (v, latest) ∷ [] →
        place ≡ length edges_now + 1 → Added (take (i + 1) kept) (set last_now (get_or kept i 0) place) edges_then
    added_next kept i edges_then latest place is less inside is_latest is_then is_place =
        rw (is_then, is_latest, is_place, take_more kept i 0 less) (added_one (take i kept) (get_or kept i 0) is inside)

-- ---- the edges of the first v vertices of a game

so_far : (u v s t x y : ℕ) → (u ≡ v → s ≡ t) → x ≡ (if nat_lt u v then t else 0) →
    y ≡ x + (if v == u then s else 0) → y ≡ (if nat_lt u (v + 1) then t else 0)
so_far u v s t x y same old now = decide (cases_order u v)
  where
    decide : (u ≡ v) ⊎ ((u < v) ⊎ (v < u)) → y ≡ (if nat_lt u (v + 1) then t else 0)
    decide (inl is) =
        let a = rw (le-ltb u v (omega (arith, is))) at old in
        let b = rw (eq-eqb v u (sym is)) at now in
        rw (lt-ltb u (v + 1) (omega (arith, is))) (omega (arith, a, b, same is))
    decide (inr (inl less)) =
        let a = rw (lt-ltb u v less) at old in
        let b = rw (ne_eqb v u (λ q. omega arith)) at now in
        rw (lt-ltb u (v + 1) (omega arith)) (omega (arith, a, b))
    decide (inr (inr more)) =
        let a = rw (le-ltb u v (omega arith)) at old in
        let b = rw (ne_eqb v u (λ q. omega arith)) at now in
        rw (le-ltb u (v + 1) (omega arith)) (omega (arith, a, b))

module _ (arena : Game) where
  pub record Filled (v : ℕ) (last : List ℕ) (edges : List Edge) : Type 0 where
    pub linked : AreLinked last edges
    pub wide : length last ≡ length arena
    pub few : length edges + edges_kept (drop v arena) ≤ edges_kept arena
    pub each : (u w : ℕ) →
        times u (sources last edges w) ≡ (if nat_lt u v then times w (successors_of arena u) else 0)
    pub inside : LeadFrom (length arena) edges

  abbrev empty : List ℕ
  empty = replicate (length arena) 0

  module _ (v : ℕ) (last : List ℕ) (edges : List Edge) (is : Filled v last edges) where
    pub room_for : v < length arena → length edges + length (successors_of arena v) ≤ edges_kept arena
    room_for less = omega (arith, is.few, ap edges_kept (drop_more arena v isolated less))

    pub filled_more : v < length arena → (kept : List ℕ) (last_now : List ℕ) (edges_now : List Edge) →
        kept ≡ successors_of arena v → Added v last edges kept last_now edges_now → Filled (v + 1) last_now edges_now
    filled_more less kept last_now edges_now same added = record {
      linked = added.linked;
      wide = added.wide ∙ is.wide;
      few = omega (arith, is.few, added.count, ap length same, ap edges_kept (drop_more arena v isolated less));
      each = λ u w. so_far u v (times w kept) (times w (successors_of arena u))
          (times u (sources last edges w)) (times u (sources last_now edges_now w))
          (λ at. ap (times w) same ∙ ap (λ (k : ℕ). times w (successors_of arena k)) (sym at))
          (is.each u w) (added.each u w);
      inside = added.inside (length arena) less is.inside;
    }

    pub filled_all : length arena ≤ v → ArePredecessors arena (lists_of last edges)
    filled_all all u w = ap (times u) (listed last edges w) ∙ is.each u w ∙ decide (cases_lt u v)
      where
        past : length arena ≤ u → [] ≡ successors_of arena u
        past more = sym (ap (λ (x : Vertex). x.successors) (get_or_past arena u isolated more))

        decide : (u < v) ⊎ (v ≤ u) →
            (if nat_lt u v then times w (successors_of arena u) else 0) ≡ times w (successors_of arena u)
        decide (inl less) = rw (lt-ltb u v less) refl
        decide (inr more) = rw (le-ltb u v more) (ap (times w) (past (omega arith)))

-- ---- an edge at its place

abbrev IsHead : List Edge → ℕ → Edge → Type 0
IsHead es place e = chain_from es place ≡ e.0 ∷ chain_from es e.1

chain_next : (es : List Edge) (k : ℕ) → LeadBack (reverse es) → k < length es →
    IsHead es (k + 1) (get_or (reverse es) k (0, 0))
chain_next [] k back less = absurd (omega arith)
chain_next (e ∷ es) k back less =
    let here = subst LeadBack (reverse-append (e ∷ []) es) back in
    let rest = back_less (reverse es) e here in
    let least = back_last (reverse es) e here in
    rw (reverse-append (e ∷ []) es) (decide least rest (chain_next es k rest) (cases_lt k (length es)))
  where
    count : length (reverse es) ≡ length es
    count = length-reverse es

    decide : e.1 ≤ length (reverse es) → LeadBack (reverse es) →
        (k < length es → IsHead es (k + 1) (get_or (reverse es) k (0, 0))) →
        (k < length es) ⊎ (length es ≤ k) → IsHead (e ∷ es) (k + 1) (get_or (reverse es ++ e ∷ []) k (0, 0))
    decide least back rest (inl l) =
        let x = get_or (reverse es) k (0, 0) in
        let b : x.1 ≤ k = back k (omega (arith, count)) in
        rw (before (reverse es) e k (omega (arith, count)))
        (earlier_chain e es (k + 1) (omega arith) ∙ rest l
        ∙ ap (λ (c : List ℕ). x.0 ∷ c) (sym (earlier_chain e es x.1 (omega (arith, b)))))
    decide least back rest (inr m) =
        rw (at_end (reverse es) e k (omega (arith, count)))
        (latest_chain e es (k + 1) (omega arith)
        ∙ ap (λ (c : List ℕ). e.0 ∷ c) (sym (earlier_chain e es e.1 (omega (arith, count, least)))))

chain_past : (es : List Edge) (place : ℕ) → length es < place → chain_from es place ≡ []
chain_past [] place past = refl
chain_past (e ∷ es) place past =
    rw (ne_eqb place (length es + 1) (λ q. omega arith)) (chain_past es place (omega arith))

module _ (edges : List Edge) (place : ℕ) where
  -- no edge is at this place
  pub chain_none : (place ≡ 0) ⊎ (length edges < place) → chain_from (reverse edges) place ≡ []
  chain_none (inl none) = ap (chain_from (reverse edges)) none ∙ no_chain (reverse edges)
  chain_none (inr past) = chain_past (reverse edges) place (omega (arith, length-reverse edges))

  chain_at : LeadBack edges → (k : ℕ) → k < length edges → IsHead (reverse edges) (k + 1) (get_or edges k (0, 0))
  chain_at back k less =
      subst (λ (es : List Edge). IsHead (reverse edges) (k + 1) (get_or es k (0, 0))) (reverse-reverse edges)
      (chain_next (reverse edges) k (subst LeadBack (sym (reverse-reverse edges)) back)
      (omega (arith, length-reverse edges)))

  -- the edge at this place is the head of the chain from there
  pub chain_here : (e : Edge) → LeadBack edges → 0 < place → place ≤ length edges → e ≡ get_or edges (place - 1) e →
      chain_from (reverse edges) place ≡ e.0 ∷ chain_from (reverse edges) e.1
  chain_here e back some within is =
      let less : place - 1 < length edges = omega arith in
      let next : (place - 1) + 1 ≡ place = omega arith in
      let same = is ∙ get_or_default edges (place - 1) e (0, 0) less in
      subst (λ (p : ℕ). IsHead (reverse edges) p e) next
      (subst (IsHead (reverse edges) ((place - 1) + 1)) (sym same) (chain_at back (place - 1) less))
