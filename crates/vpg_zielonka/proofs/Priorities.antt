-- The greatest priority of a part, and its vertices, in all products at once.
use Rattle.std.proofs.Common.{◌≡◌, ℕ, ◌+◌, ◌<◌, ◌≤◌, ◌⊎◌, inl, inr, List, [], ◌∷◌, ◌++◌, Bool, true, false, ◌&&◌, Option, Some, None, length, nat_lt, refl, sym, ◌∙◌, subst, arith}
use Rattle.std.specs.Prelude.{◌==◌, MatchOption, IfSome, IfNone}
use Rattle.std.proofs.lemmas.Bool.{cases_eq, cases_lt, cases_Bool, eq-eqb, eqb-true, ltb-true, lt-ltb}
use Rattle.vpg_guards.specs.Formula.{Formula}
use Rattle.vpg_game.specs.Guarded.{GuardedGame}
use Rattle.vpg_game.specs.Game.{vertex_in}
use Rattle.vpg_hope.specs.Games.{priority_of}
use Rattle.vpg_zielonka.specs.declared.subset.Subset.{Subset}
use Rattle.vpg_zielonka.specs.declared.universe.Universe.{Universe}
use Rattle.vpg_zielonka.specs.Universes.{has, IsSetOf}
use Rattle.vpg_zielonka.specs.Parts.{set_at, game_in, part_in, AreSets}
use Rattle.vpg_zielonka.specs.Rounds.{AreTops}
use Rattle.vpg_zielonka.proofs.Confining.{priority_is}
use Rattle.vpg_zielonka.proofs.Filling.{AreMade, part_inside, part_beyond, part_below, made_part, made_push}

-- a vertex of the part in some product
pub record IsTaken (universe : Universe) (graph : GuardedGame Formula) (part : List Subset) (d : ℕ) : Type 0 where
  pub product : List Bool
  pub vertex : ℕ
  pub inside : part_in universe part product vertex ≡ true
  pub priority : priority_of (game_in graph product) vertex ≡ d

module _ (universe : Universe) (graph : GuardedGame Formula) (part : List Subset) where
  abbrev AllBelow : ℕ → ℕ → Type 0
  AllBelow i d = (p : List Bool) (v : ℕ) → v < i → part_in universe part p v ≡ true → priority_of (game_in graph p) v ≤ d

  abbrev NoneBelow : ℕ → Type 0
  NoneBelow i = (p : List Bool) (v : ℕ) → v < i → part_in universe part p v ≡ false

  -- the greatest priority of the first vertices
  abbrev pub IsGreatest : ℕ → Option ℕ → Type 0
  IsGreatest i greatest = MatchOption greatest (NoneBelow i) (λ d. AllBelow i d × IsTaken universe graph part d)

  -- a vertex without products changes nothing
  pub greatest_skip : (i : ℕ) (greatest : Option ℕ) → ((p : List Bool) → part_in universe part p i ≡ false) →
      IsGreatest i greatest → IsGreatest (i + 1) greatest
  greatest_skip i None none is = λ p v l. of p v l (cases_eq v i)
    where
      of : (p : List Bool) (v : ℕ) → v < i + 1 → (v ≡ i) ⊎ (v ≡ i → ⊥) → part_in universe part p v ≡ false
      of p v l (inl e) = subst (λ x. part_in universe part p x ≡ false) (sym e) (none p)
      of p v l (inr n) = is p v (omega (arith, n))
  greatest_skip i (Some d) none is = (λ p v l m. of p v l m (cases_eq v i), is.1)
    where
      of : (p : List Bool) (v : ℕ) → v < i + 1 → part_in universe part p v ≡ true → (v ≡ i) ⊎ (v ≡ i → ⊥) →
          priority_of (game_in graph p) v ≤ d
      of p v l m (inl e) = absurd (clash (none p) (subst (λ x. part_in universe part p x ≡ true) e m))
        where
          clash : part_in universe part p i ≡ false → part_in universe part p i ≡ true → ⊥
          clash f t = cc (f, t)
      of p v l m (inr n) = is.0 p v (omega (arith, n)) m

  -- a vertex with a product may raise it
  pub greatest_more : (i d : ℕ) (greatest : Option ℕ) → (p : List Bool) → part_in universe part p i ≡ true →
      (vertex_in graph i).priority ≤ d → IfSome greatest (λ e. e ≤ d) →
      (d ≡ (vertex_in graph i).priority) ⊎ (greatest ≡ Some d) → IsGreatest i greatest → IsGreatest (i + 1) (Some d)
  greatest_more i d greatest q here least more one is =
      (λ p v l m. all p v l m (cases_eq v i), taken one)
    where
      earlier : (g : Option ℕ) → IfSome g (λ e. e ≤ d) → IsGreatest i g → (p : List Bool) (v : ℕ) → v < i →
          part_in universe part p v ≡ true → priority_of (game_in graph p) v ≤ d
      earlier None h none p v l m = absurd (clash (none p v l) m)
        where
          clash : part_in universe part p v ≡ false → part_in universe part p v ≡ true → ⊥
          clash f t = cc (f, t)
      earlier (Some e) h some p v l m = omega (arith, h, some.0 p v l m)

      all : (p : List Bool) (v : ℕ) → v < i + 1 → part_in universe part p v ≡ true → (v ≡ i) ⊎ (v ≡ i → ⊥) →
          priority_of (game_in graph p) v ≤ d
      all p v l m (inl e) = subst (λ x. priority_of (game_in graph p) x ≤ d) (sym e)
          (subst (λ x. x ≤ d) (sym (priority_is graph p i)) least)
      all p v l m (inr n) = earlier greatest more is p v (omega (arith, n)) m

      of_some : (g : Option ℕ) → g ≡ Some d → IsGreatest i g → IsTaken universe graph part d
      of_some None e some = cc
      of_some (Some c) e some = subst (IsTaken universe graph part) (inside_some e) some.1
        where
          inside_some : Some c ≡ Some d → c ≡ d
          inside_some f = cc f

      taken : (d ≡ (vertex_in graph i).priority) ⊎ (greatest ≡ Some d) → IsTaken universe graph part d
      taken (inl e) = record { product = q; vertex = i; inside = here; priority = priority_is graph q i ∙ sym e }
      taken (inr e) = of_some greatest e is

  -- the vertices of a priority
  pub tops_made : (d : ℕ) (seeds : List Subset) → AreSets universe (length graph) part →
      AreMade universe (λ v p. ((vertex_in graph v).priority == d) && has universe (set_at part v) p) (length graph) seeds →
      (p : List Bool) → AreTops (game_in graph p) (part_in universe part p) d (part_in universe seeds p)
  tops_made d seeds are made p = record {
    inside = λ v e. (seeded v e).0;
    priority = λ v e. (seeded v e).1;
    all = all;
  }
    where
      test : ℕ → List Bool → Bool
      test v p = ((vertex_in graph v).priority == d) && has universe (set_at part v) p

      both : (a b c : Bool) → (a && (b && c)) ≡ true → (a ≡ true) × (b ≡ true) × (c ≡ true)
      both true true true e = (refl, refl, refl)
      both true true false e = cc
      both true false c e = cc
      both false b c e = cc

      all_of : (a b c : Bool) → a ≡ true → b ≡ true → c ≡ true → (a && (b && c)) ≡ true
      all_of true true c e f g = g
      all_of true false c e f g = cc
      all_of false b c e f g = cc

      count : (v : ℕ) → v < length graph → v < length part
      count v l = subst (λ n. v < n) (sym are.count_is) l

      made_at : (v : ℕ) → part_in universe seeds p v ≡ (nat_lt v (length graph) &&
          (((vertex_in graph v).priority == d) && has universe (set_at part v) p))
      made_at v = made_part universe (λ v p. ((vertex_in graph v).priority == d) && has universe (set_at part v) p)
          (length graph) seeds made p v

      seeded : (v : ℕ) → part_in universe seeds p v ≡ true → (part_in universe part p v ≡ true) ×
          (priority_of (game_in graph p) v ≡ d)
      seeded v e = of (both (nat_lt v (length graph)) ((vertex_in graph v).priority == d) (has universe (set_at part v) p)
          (sym (made_at v) ∙ e))
        where
          of : (nat_lt v (length graph) ≡ true) × (((vertex_in graph v).priority == d) ≡ true) ×
              (has universe (set_at part v) p ≡ true) → (part_in universe part p v ≡ true) ×
              (priority_of (game_in graph p) v ≡ d)
          of h = (
            part_inside universe part p v (count v (ltb-true v (length graph) h.0)) ∙ h.2,
            priority_is graph p v ∙ eqb-true (vertex_in graph v).priority d h.1,
          )

      all : (v : ℕ) → part_in universe part p v ≡ true → priority_of (game_in graph p) v ≡ d →
          part_in universe seeds p v ≡ true
      all v m e = made_at v ∙ all_of (nat_lt v (length graph)) ((vertex_in graph v).priority == d)
          (has universe (set_at part v) p)
          (lt-ltb v (length graph) (subst (λ n. v < n) are.count_is (part_below universe part p v m)))
          (eq-eqb (vertex_in graph v).priority d (sym (priority_is graph p v) ∙ e))
          (sym (part_inside universe part p v (part_below universe part p v m)) ∙ m)

-- the greatest priority of the first vertices, with one vertex more
module _ (universe : Universe) (graph : GuardedGame Formula) (part : List Subset) (are : AreSets universe (length graph) part) (i : ℕ)
    (inside : i < length graph) where
  at : (p : List Bool) → part_in universe part p i ≡ has universe (set_at part i) p
  at p = part_inside universe part p i (subst (λ n. i < n) (sym are.count_is) inside)

  pub greatest_passed : (greatest : Option ℕ) → ((p : List Bool) → has universe (set_at part i) p ≡ false) →
      IsGreatest universe graph part i greatest → IsGreatest universe graph part (i + 1) greatest
  greatest_passed greatest none is = greatest_skip universe graph part i greatest (λ p. at p ∙ none p) is

  pub greatest_raised : (greatest : Option ℕ) (q d : ℕ) → q ≡ (vertex_in graph i).priority →
      (p : List Bool) → has universe (set_at part i) p ≡ true → q ≤ d → IfSome greatest (λ e. e ≤ d) →
      (d ≡ q) ⊎ (greatest ≡ Some d) → IsGreatest universe graph part i greatest →
      IsGreatest universe graph part (i + 1) (Some d)
  greatest_raised greatest q d q_is p here least more one is = greatest_more universe graph part i d greatest p
      (at p ∙ here) (subst (λ x. x ≤ d) q_is least) more (subst (λ x. (d ≡ x) ⊎ (greatest ≡ Some d)) q_is one) is

-- no vertex of the part has a product
pub greatest_absent : (universe : Universe) (graph : GuardedGame Formula) (part : List Subset) →
    AreSets universe (length graph) part → (i : ℕ) → length graph ≤ i → (greatest : Option ℕ) →
    IsGreatest universe graph part i greatest → IfNone greatest ((p : List Bool) (v : ℕ) → part_in universe part p v ≡ false)
greatest_absent universe graph part are i end (Some d) is = _
greatest_absent universe graph part are i end None is = λ p v. of p v (cases_lt v (length part))
  where
    of : (p : List Bool) (v : ℕ) → (v < length part) ⊎ (length part ≤ v) → part_in universe part p v ≡ false
    of p v (inl l) = is p v (omega (arith, l, are.count_is, end))
    of p v (inr l) = part_beyond universe part p v l

-- the products of a vertex of a priority
abbrev pub top_test : Universe → GuardedGame Formula → List Subset → ℕ → ℕ → List Bool → Bool
top_test universe graph part d v p = ((vertex_in graph v).priority == d) && has universe (set_at part v) p

-- one vertex more of a priority, or of another one
module _ (universe : Universe) (graph : GuardedGame Formula) (part : List Subset) (are : AreSets universe (length graph) part) (d i : ℕ)
    (inside : i < length graph) where
  abbrev test : ℕ → List Bool → Bool
  test = top_test universe graph part d

  pub tops_more : (seeds more : List Subset) (seed : Subset) (q : ℕ) → q ≡ (vertex_in graph i).priority →
      more ≡ seeds ++ seed ∷ [] → ((q ≡ d) × (seed ≡ set_at part i)) ⊎ ((q ≡ d → ⊥) × IsSetOf universe (λ p. false) seed) →
      AreMade universe test i seeds → AreMade universe test (i + 1) more
  tops_more seeds more seed q q_is more_is made are_made = subst (λ (xs : List Subset). AreMade universe test (i + 1) xs) (sym more_is)
      (made_push universe test i seeds seed are_made (of made))
    where
      test_true : (x b : Bool) → x ≡ true → b ≡ (x && b)
      test_true true b e = refl
      test_true false b e = cc

      test_false : (x b : Bool) → x ≡ false → false ≡ (x && b)
      test_false false b e = refl
      test_false true b e = cc

      other : (q ≡ d → ⊥) → (((vertex_in graph i).priority == d) ≡ true) ⊎ (((vertex_in graph i).priority == d) ≡ false) →
          ((vertex_in graph i).priority == d) ≡ false
      other n (inl e) = absurd (n (q_is ∙ eqb-true (vertex_in graph i).priority d e))
      other n (inr e) = e

      of : ((q ≡ d) × (seed ≡ set_at part i)) ⊎ ((q ≡ d → ⊥) × IsSetOf universe (λ p. false) seed) →
          IsSetOf universe (test i) seed
      of (inl h) = subst (λ (s : Subset). IsSetOf universe (test i) s) (sym h.1) (record {
        inside = are.inside i (subst (λ n. i < n) (sym are.count_is) inside);
        each = λ p. test_true ((vertex_in graph i).priority == d) (has universe (set_at part i) p)
            (eq-eqb (vertex_in graph i).priority d (sym q_is ∙ h.0));
      })
      of (inr h) = record {
        inside = h.1.inside;
        each = λ p. h.1.each p ∙ test_false ((vertex_in graph i).priority == d) (has universe (set_at part i) p)
            (other h.0 (cases_Bool ((vertex_in graph i).priority == d)));
      }
