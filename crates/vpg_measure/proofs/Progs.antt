-- Progs of many successors, lifts, and what fits at a vertex.
use Rattle.std.proofs.Common.{ℕ, zero, suc, ◌≡◌, ◌+◌, ◌/◌, ◌<◌, ◌≤◌, ◌↔◌, ◌⊎◌, min, max, List, [], ◌∷◌, length, map, refl, sym, ap, ◌∙◌, inl, inr, All, arith}
use Rattle.std.specs.Prelude.{slice_index, Any}
use Rattle.std.proofs.lemmas.Bool.{cases_lt, cases_Bool}
use Rattle.std.proofs.lemmas.List.{get_or_past}
use Rattle.std.proofs.lemmas.List.Elements.{All-head, All-tail, All-cons, All-nil}
use Rattle.std.proofs.Math.Nat.{le-div_iff_mul-le, div-mul-le_self, mul-le-mul_right, min-eq_left, min-eq_right, max-eq_left, max-eq_right}
use Rattle.vpg_game.specs.declared.levels.Level.{Level}
use Rattle.vpg_sides.specs.declared.player.Player.{Player}
use Rattle.vpg_sides.specs.declared.player.Player.TheVariants.{Even, Odd}
use Rattle.vpg_game.specs.Levels.{is_odd, top_of, weight_of, prog_of}
use Rattle.vpg_hope.specs.Arena.{Vertex}
use Rattle.vpg_measure.specs.Lifts.{IsBelowTable, NumberFitsEdge, FitsEdges, least_of, greatest_of, best_for, lift_of}
use Rattle.vpg_measure.specs.NumberLaws.{LiftIsLeast, LiftGrows}
use Rattle.vpg_measure.proofs.Numbers.{weight_pos, prog-top, prog-odd, prog-even, prog_at_most, prog_is_least_fit}

div_mono : (a b k : ℕ) → 0 < k → a ≤ b → a / k ≤ b / k
div_mono a b k pos h = (le-div_iff_mul-le {k = k} {x = a / k} {y = b} pos).1 (omega (arith, div-mul-le_self a k))

-- a greater value has no smaller prog
pub prog_mono : (ls : List Level) (p a b : ℕ) → a ≤ b → b ≤ top_of ls → prog_of ls p a ≤ prog_of ls p b
prog_mono ls p a b h hb = elim (cases_lt b (top_of ls)) [
  | inr more ↦ (let e : b ≡ top_of ls = omega arith in rw (e, prog-top ls p) (prog_at_most ls p a (omega arith)))
  | inl less ↦
      (let quotients = div_mono a b (weight_of p ls) (weight_pos p ls) h in
      elim (cases_Bool (is_odd p)) [
        | inl odd ↦ rw (prog-odd ls p a (omega arith) odd, prog-odd ls p b less odd)
            (mul-le-mul_right {m = a / weight_of p ls + 1} {n = b / weight_of p ls + 1} (weight_of p ls) (omega arith))
        | inr even ↦ rw (prog-even ls p a (omega arith) even, prog-even ls p b less even)
            (mul-le-mul_right {m = a / weight_of p ls} {n = b / weight_of p ls} (weight_of p ls) quotients)
      ])
]

pub least_of-le : (limit : ℕ) (ns : List ℕ) → least_of limit ns ≤ limit
least_of-le limit [] = omega arith
least_of-le limit (n ∷ ns) = omega (arith, least_of-le limit ns)

pub greatest_of-le : (limit : ℕ) (ws : List ℕ) (f : ℕ → ℕ) → ((w : ℕ) → f w ≤ limit) → greatest_of (map f ws) ≤ limit
greatest_of-le limit [] f h = omega arith
greatest_of-le limit (w ∷ ws) f h = omega (arith, greatest_of-le limit ws f h, h w)

prog-min : (ls : List Level) (p a b : ℕ) → a ≤ top_of ls → b ≤ top_of ls → min (prog_of ls p a) (prog_of ls p b) ≡ prog_of ls p (min a b)
prog-min ls p a b ha hb = elim (cases_lt a b) [
  | inl less ↦ (let m = prog_mono ls p a b (omega arith) hb in
      min-eq_left m ∙ ap (prog_of ls p) (sym (min-eq_left {n = a} {m = b} (omega arith))))
  | inr more ↦ (let m = prog_mono ls p b a more ha in
      min-eq_right m ∙ ap (prog_of ls p) (sym (min-eq_right {n = b} {m = a} more)))
]

prog-max : (ls : List Level) (p a b : ℕ) → a ≤ top_of ls → b ≤ top_of ls → max (prog_of ls p a) (prog_of ls p b) ≡ prog_of ls p (max a b)
prog-max ls p a b ha hb = elim (cases_lt a b) [
  | inl less ↦ (let m = prog_mono ls p a b (omega arith) hb in
      max-eq_right m ∙ ap (prog_of ls p) (sym (max-eq_right {n = a} {m = b} (omega arith))))
  | inr more ↦ (let m = prog_mono ls p b a more ha in
      max-eq_left m ∙ ap (prog_of ls p) (sym (max-eq_left {n = a} {m = b} more)))
]

-- one division serves all successors: the least prog is that of the least value
pub least-prog : (ls : List Level) (p : ℕ) (f : ℕ → ℕ) (ws : List ℕ) → ((w : ℕ) → f w ≤ top_of ls) →
    least_of (top_of ls) (map (λ w. prog_of ls p (f w)) ws) ≡ prog_of ls p (least_of (top_of ls) (map f ws))
least-prog ls p f [] h = sym (prog-top ls p)
least-prog ls p f (w ∷ ws) h =
    ap (min (prog_of ls p (f w))) (least-prog ls p f ws h)
    ∙ prog-min ls p (f w) (least_of (top_of ls) (map f ws)) (h w) (least_of-le (top_of ls) (map f ws))

-- and the greatest that of the greatest
pub greatest-prog : (ls : List Level) (p : ℕ) (f : ℕ → ℕ) (w : ℕ) (ws : List ℕ) → ((w : ℕ) → f w ≤ top_of ls) →
    greatest_of (map (λ w. prog_of ls p (f w)) (w ∷ ws)) ≡ prog_of ls p (greatest_of (map f (w ∷ ws)))
greatest-prog ls p f w [] h =
    (let e : max (f w) 0 ≡ f w = omega arith in
    rw e (let k : max (prog_of ls p (f w)) 0 ≡ prog_of ls p (f w) = omega arith in k))
greatest-prog ls p f w (u ∷ ws) h =
    ap (max (prog_of ls p (f w))) (greatest-prog ls p f u ws h)
    ∙ prog-max ls p (f w) (greatest_of (map f (u ∷ ws))) (h w) (greatest_of-le (top_of ls) (u ∷ ws) f h)

-- what a table has at any place
pub slice_index-le : (limit : ℕ) (table : List ℕ) → All (λ n. n ≤ limit) table → (v : ℕ) → slice_index table v ≤ limit
slice_index-le limit table h v = elim (cases_lt v (length table)) [
  | inl less ↦ h v 0 less
  | inr more ↦ (let e = get_or_past table v 0 more in omega arith)
]

pub lift_at_most : (ls : List Level) (table : List ℕ) (x : Vertex) → All (λ n. n ≤ top_of ls) table → lift_of ls table x ≤ top_of ls
lift_at_most ls table x h = step x.owner
  where
    progs : List ℕ
    progs = map (λ w. prog_of ls x.priority (slice_index table w)) x.successors

    step : (o : Player) → best_for o (top_of ls) (map (λ w. prog_of ls x.priority (slice_index table w)) x.successors) ≤ top_of ls
    step Even = least_of-le (top_of ls) _
    step Odd = greatest_of-le (top_of ls) x.successors (λ w. prog_of ls x.priority (slice_index table w))
        (λ w. prog_at_most ls x.priority (slice_index table w) (slice_index-le (top_of ls) table h w))

-- ---- what fits at a vertex

least_at : (limit : ℕ) (g : ℕ → ℕ) (n : ℕ) (ws : List ℕ) → Any (λ w. g w ≤ n) ws → least_of limit (map g ws) ≤ n
least_at limit g n [] h = absurd (omega (arith, h.2))
least_at limit g n (w ∷ ws) (zero, u, less, is, fits) =
    (let e : g w ≡ g u = ap g is in omega arith)
least_at limit g n (w ∷ ws) (suc k, u, less, is, fits) =
    omega (arith, least_at limit g n ws (k, u, omega arith, is, fits))

least_from : (limit : ℕ) (g : ℕ → ℕ) (n : ℕ) (ws : List ℕ) → least_of limit (map g ws) ≤ n → (limit ≤ n) ⊎ Any (λ w. g w ≤ n) ws
least_from limit g n [] h = inl h
least_from limit g n (w ∷ ws) h = elim (cases_lt n (g w)) [
  | inr here ↦ inr (zero, w, omega arith, refl, here)
  | inl more ↦ elim (least_from limit g n ws (omega arith)) [
    | inl top ↦ inl top
    | inr later ↦ inr (suc later.0, later.1, omega (arith, later.2), later.3, later.4)
  ]
]

greatest_from : (g : ℕ → ℕ) (n : ℕ) (ws : List ℕ) → All (λ w. g w ≤ n) ws → greatest_of (map g ws) ≤ n
greatest_from g n [] h = omega arith
greatest_from g n (w ∷ ws) h =
    omega (arith, All-head (λ w. g w ≤ n) w ws h, greatest_from g n ws (All-tail (λ w. g w ≤ n) w ws h))

greatest_at : (g : ℕ → ℕ) (n : ℕ) (ws : List ℕ) → greatest_of (map g ws) ≤ n → All (λ w. g w ≤ n) ws
greatest_at g n [] h = All-nil (λ w. g w ≤ n)
greatest_at g n (w ∷ ws) h = All-cons (λ w. g w ≤ n) w ws (omega arith) (greatest_at g n ws (omega arith))

Any-weaker : (P Q : ℕ → Type 0) (ws : List ℕ) → ((w : ℕ) → P w → Q w) → Any P ws → Any Q ws
Any-weaker P Q ws f h = (h.0, h.1, h.2, h.3, f h.1 h.4)

pub lift_is_least : LiftIsLeast
lift_is_least ls table x n within small = step x.owner
  where
    g : ℕ → ℕ
    g w = prog_of ls x.priority (slice_index table w)

    edge : (w : ℕ) → NumberFitsEdge ls x.priority n (slice_index table w) ↔ (prog_of ls x.priority (slice_index table w) ≤ n)
    edge w = prog_is_least_fit ls x.priority (slice_index table w) n (slice_index-le (top_of ls) table within w) small

    step : (o : Player) → ((n ≡ top_of ls) ⊎ FitsEdges o (λ w. NumberFitsEdge ls x.priority n (slice_index table w)) x.successors) ↔
        (best_for o (top_of ls) (map (λ w. prog_of ls x.priority (slice_index table w)) x.successors) ≤ n)
    step Even = (
      λ h. elim h [
        | inl top ↦ omega (arith, least_of-le (top_of ls) (map (λ w. prog_of ls x.priority (slice_index table w)) x.successors))
        | inr some ↦ least_at (top_of ls) (λ w. prog_of ls x.priority (slice_index table w)) n x.successors
            (Any-weaker _ (λ w. prog_of ls x.priority (slice_index table w) ≤ n) x.successors (λ w. (edge w).0) some)
      ],
      λ h. elim (least_from (top_of ls) (λ w. prog_of ls x.priority (slice_index table w)) n x.successors h) [
        | inl top ↦ inl (omega arith)
        | inr some ↦ inr (Any-weaker (λ w. prog_of ls x.priority (slice_index table w) ≤ n) _ x.successors (λ w. (edge w).1) some)
      ],
    )
    step Odd = (
      λ h. elim h [
        | inl top ↦ omega (
          arith,
          greatest_of-le (top_of ls) x.successors (λ w. prog_of ls x.priority (slice_index table w))
              (λ w. prog_at_most ls x.priority (slice_index table w) (slice_index-le (top_of ls) table within w)),
        )
        | inr every ↦ greatest_from (λ w. prog_of ls x.priority (slice_index table w)) n x.successors
            (λ k d less. (edge _).0 (every k d less))
      ],
      λ h. inr (λ k d less. (edge _).1 (greatest_at (λ w. prog_of ls x.priority (slice_index table w)) n x.successors h k d less)),
    )

-- ---- steps of the code

pub least_of-min : (limit n : ℕ) (ns : List ℕ) → least_of (min limit n) ns ≡ least_of limit (n ∷ ns)
least_of-min limit n [] = omega arith
least_of-min limit n (m ∷ ns) =
    ap (min m) (least_of-min limit n ns)
    ∙ (let a = least_of limit ns in let e : min m (min n a) ≡ min n (min m a) = omega arith in e)

-- the lift at Even's vertex by one prog
pub lift-even : (ls : List Level) (table : List ℕ) (x : Vertex) → All (λ n. n ≤ top_of ls) table → x.owner ≡ Even →
    lift_of ls table x ≡ prog_of ls x.priority (least_of (top_of ls) (map (λ w. slice_index table w) x.successors))
lift-even ls table x within even =
    ap (λ o. best_for o (top_of ls) (map (λ w. prog_of ls x.priority (slice_index table w)) x.successors)) even
    ∙ least-prog ls x.priority (λ w. slice_index table w) x.successors (slice_index-le (top_of ls) table within)

-- and at Odd's
pub lift-odd : (ls : List Level) (table : List ℕ) (x : Vertex) → All (λ n. n ≤ top_of ls) table → x.owner ≡ Odd → 0 < length x.successors →
    lift_of ls table x ≡ prog_of ls x.priority (greatest_of (map (λ w. slice_index table w) x.successors))
lift-odd ls table x within odd some =
    ap (λ o. best_for o (top_of ls) (map (λ w. prog_of ls x.priority (slice_index table w)) x.successors)) odd
    ∙ step x.successors some
  where
    step : (ws : List ℕ) → 0 < length ws →
        greatest_of (map (λ w. prog_of ls x.priority (slice_index table w)) ws) ≡ prog_of ls x.priority (greatest_of (map (λ w. slice_index table w) ws))
    step [] h = absurd (omega arith)
    step (w ∷ ws) h = greatest-prog ls x.priority (λ w. slice_index table w) w ws (slice_index-le (top_of ls) table within)

-- ---- lifts grow with the table

least_of-map-le : (limit : ℕ) (f g : ℕ → ℕ) (ws : List ℕ) → ((w : ℕ) → f w ≤ g w) → least_of limit (map f ws) ≤ least_of limit (map g ws)
least_of-map-le limit f g [] h = omega arith
least_of-map-le limit f g (w ∷ ws) h = omega (arith, h w, least_of-map-le limit f g ws h)

greatest_of-map-le : (f g : ℕ → ℕ) (ws : List ℕ) → ((w : ℕ) → f w ≤ g w) → greatest_of (map f ws) ≤ greatest_of (map g ws)
greatest_of-map-le f g [] h = omega arith
greatest_of-map-le f g (w ∷ ws) h = omega (arith, h w, greatest_of-map-le f g ws h)

best_for-map-le : (o : Player) (limit : ℕ) (f g : ℕ → ℕ) (ws : List ℕ) → ((w : ℕ) → f w ≤ g w) →
    best_for o limit (map f ws) ≤ best_for o limit (map g ws)
best_for-map-le Even limit f g ws h = least_of-map-le limit f g ws h
best_for-map-le Odd limit f g ws h = greatest_of-map-le f g ws h

pub below_anywhere : (table other : List ℕ) → IsBelowTable table other → (w : ℕ) → slice_index table w ≤ slice_index other w
below_anywhere table other h w = elim (cases_lt w (length table)) [
  | inl less ↦ h.1 w less
  | inr more ↦ (let e = get_or_past table w 0 more in omega arith)
]

pub lift_grows : LiftGrows
lift_grows ls arena table other x t o h =
    best_for-map-le x.owner (top_of ls) (λ w. prog_of ls x.priority (slice_index table w)) (λ w. prog_of ls x.priority (slice_index other w)) x.successors
    (λ w. prog_mono ls x.priority (slice_index table w) (slice_index other w) (below_anywhere table other h w)
    (slice_index-le (top_of ls) other o.within w))
