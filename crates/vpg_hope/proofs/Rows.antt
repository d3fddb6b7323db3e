-- Rows of an arena, as one is made of them.
use Rattle.std.proofs.Common.{ℕ, zero, suc, ◌≡◌, ◌+◌, ◌-◌, ◌<◌, ◌≤◌, Bool, true, false, cond, List, [], ◌∷◌, ◌++◌, length, get_or, set, take, drop, length-append, length-drop, refl, sym, ap, ap₂, ◌∙◌, All, arith}
use Rattle.std.proofs.lemmas.List.{append-nil, take-append-le, drop-append-le, drop_at, take_all, drop_all, map_push, map-set}
use Rattle.std.proofs.lemmas.List.Elements.{All-head, All-tail, All-weaker}
use Rattle.std.specs.Prelude.{slice_range}
use Rattle.vpg_sides.specs.declared.player.Player.{Player}
use Rattle.vpg_hope.specs.declared.arena.Row.{Row}
use Rattle.vpg_hope.specs.Arena.{Vertex, list_of, row_vertex, row_vertices, InLists}

-- a range stays when successors are added
range-append : (ss more : List ℕ) (s e : ℕ) → s ≤ e → e ≤ length ss → slice_range (ss ++ more) s e ≡ slice_range ss s e
range-append ss more s e h k =
    ap (λ xs. take (e - s) xs) (drop-append-le s ss more (omega arith))
    ∙ take-append-le (e - s) (drop s ss) more (omega (arith, length-drop s ss))

-- the range of what was added
range_added : (ss more : List ℕ) (s e : ℕ) → s ≡ length ss → e ≡ length ss + length more → slice_range (ss ++ more) s e ≡ more
range_added ss more s e h k =
    ap (λ xs. take (e - s) xs) (drop_at ss more s (sym h)) ∙ take_all (e - s) more (omega arith)

-- ---- lists that grow

range_in_shared : (is_own : Bool) (ss more own : List ℕ) (s e : ℕ) → s ≤ e → e ≤ length (cond is_own own ss) → slice_range (cond is_own own (ss ++ more)) s e ≡ slice_range (cond is_own own ss) s e
range_in_shared true ss more own s e h k = refl
range_in_shared false ss more own s e h k = range-append ss more s e h k

range_in_own : (is_own : Bool) (ss own more : List ℕ) (s e : ℕ) → s ≤ e → e ≤ length (cond is_own own ss) → slice_range (cond is_own (own ++ more) ss) s e ≡ slice_range (cond is_own own ss) s e
range_in_own true ss own more s e h k = range-append own more s e h k
range_in_own false ss own more s e h k = refl

same_vertices : (rows : List Row) (ss own ss' own' : List ℕ) → All (λ row. slice_range (list_of ss' own' row) row.start row.end ≡ slice_range (list_of ss own row) row.start row.end) rows →
    row_vertices rows ss' own' ≡ row_vertices rows ss own
same_vertices [] ss own ss' own' h = refl
same_vertices (row ∷ rows) ss own ss' own' h =
    ap₂ (λ (succ : List ℕ) (rest : List Vertex). record { owner = row.owner; priority = row.priority; successors = succ } ∷ rest)
    (All-head (λ row. slice_range (list_of ss' own' row) row.start row.end ≡ slice_range (list_of ss own row) row.start row.end) row rows h)
    (same_vertices rows ss own ss' own' (All-tail (λ row. slice_range (list_of ss' own' row) row.start row.end ≡ slice_range (list_of ss own row) row.start row.end) row rows h))

vertices_in_shared : (rows : List Row) (ss more own : List ℕ) → All (InLists ss own) rows → row_vertices rows (ss ++ more) own ≡ row_vertices rows ss own
vertices_in_shared rows ss more own h =
    same_vertices rows ss own (ss ++ more) own
    (All-weaker (InLists ss own) (λ row. slice_range (list_of (ss ++ more) own row) row.start row.end ≡ slice_range (list_of ss own row) row.start row.end)
    (λ row r. range_in_shared row.is_own ss more own row.start row.end r.0 r.1) rows h)

vertices_in_own : (rows : List Row) (ss own more : List ℕ) → All (InLists ss own) rows → row_vertices rows ss (own ++ more) ≡ row_vertices rows ss own
vertices_in_own rows ss own more h =
    same_vertices rows ss own ss (own ++ more)
    (All-weaker (InLists ss own) (λ row. slice_range (list_of ss (own ++ more) row) row.start row.end ≡ slice_range (list_of ss own row) row.start row.end)
    (λ row r. range_in_own row.is_own ss own more row.start row.end r.0 r.1) rows h)

longer_shared : (is_own : Bool) (ss more own : List ℕ) (e : ℕ) → e ≤ length (cond is_own own ss) → e ≤ length (cond is_own own (ss ++ more))
longer_shared true ss more own e h = h
longer_shared false ss more own e h = omega (arith, length-append ss more)

longer_own : (is_own : Bool) (ss own more : List ℕ) (e : ℕ) → e ≤ length (cond is_own own ss) → e ≤ length (cond is_own (own ++ more) ss)
longer_own true ss own more e h = omega (arith, length-append own more)
longer_own false ss own more e h = h

pub ranges_in_shared : (rows : List Row) (ss more own : List ℕ) → All (InLists ss own) rows → All (InLists (ss ++ more) own) rows
ranges_in_shared rows ss more own h = All-weaker (InLists ss own) (InLists (ss ++ more) own) (λ row r. (r.0, longer_shared row.is_own ss more own row.end r.1)) rows h

pub ranges_in_own : (rows : List Row) (ss own more : List ℕ) → All (InLists ss own) rows → All (InLists ss (own ++ more)) rows
ranges_in_own rows ss own more h = All-weaker (InLists ss own) (InLists ss (own ++ more)) (λ row r. (r.0, longer_own row.is_own ss own more row.end r.1)) rows h

-- ---- one more row, or another

abbrev pub shared_row : Player → ℕ → ℕ → ℕ → Row
shared_row owner priority s e = record { owner = owner; is_own = false; priority = priority; start = s; end = e }

abbrev pub own_row : Player → ℕ → ℕ → ℕ → Row
own_row owner priority s e = record { owner = owner; is_own = true; priority = priority; start = s; end = e }

-- one more row, with the successors that were added
pub row_added : (rows : List Row) (ss more : List ℕ) (owner : Player) (priority s e : ℕ) → All (InLists ss []) rows → s ≡ length ss → e ≡ length ss + length more →
    row_vertices (rows ++ shared_row owner priority s e ∷ []) (ss ++ more) []
    ≡ row_vertices rows ss [] ++ record { owner = owner; priority = priority; successors = more } ∷ []
row_added rows ss more owner priority s e ranges hs he =
    map_push (row_vertex (ss ++ more) []) rows (shared_row owner priority s e)
    ∙ ap (λ (xs : List Vertex). xs ++ row_vertex (ss ++ more) [] (shared_row owner priority s e) ∷ []) (vertices_in_shared rows ss more [] ranges)
    ∙ ap (λ (succ : List ℕ). row_vertices rows ss [] ++ record { owner = owner; priority = priority; successors = succ } ∷ []) (range_added ss more s e hs he)

-- another row in its place, with the successors that were added to the arena's own
pub row_replaced : (rows : List Row) (ss own more : List ℕ) (v : ℕ) (owner : Player) (priority s e : ℕ) → All (InLists ss own) rows → s ≡ length own → e ≡ length own + length more →
    row_vertices (set rows v (own_row owner priority s e)) ss (own ++ more)
    ≡ set (row_vertices rows ss own) v (record { owner = owner; priority = priority; successors = more })
row_replaced rows ss own more v owner priority s e ranges hs he =
    map-set (row_vertex ss (own ++ more)) rows v (own_row owner priority s e)
    ∙ ap (λ (xs : List Vertex). set xs v (row_vertex ss (own ++ more) (own_row owner priority s e))) (vertices_in_own rows ss own more ranges)
    ∙ ap (λ (succ : List ℕ). set (row_vertices rows ss own) v (record { owner = owner; priority = priority; successors = succ })) (range_added own more s e hs he)

-- ---- a list that becomes another, from its head on

next_set : {X : Type 0} (news olds : List X) (v : ℕ) (x : X) → v < length news → length olds ≡ length news → x ≡ get_or news v x →
    set (take v news ++ drop v olds) v x ≡ take (suc v) news ++ drop (suc v) olds
next_set [] olds v x less same is = absurd (omega arith)
next_set (y ∷ news) [] v x less same is = absurd (omega arith)
next_set (y ∷ news) (z ∷ olds) zero x less same is = ap (λ w. w ∷ olds) is
next_set (y ∷ news) (z ∷ olds) (suc v) x less same is = ap (λ ws. y ∷ ws) (next_set news olds v x (omega arith) (omega arith) is)

next_same : {X : Type 0} (news olds : List X) (v : ℕ) (d : X) → v < length news → length olds ≡ length news → get_or olds v d ≡ get_or news v d →
    take v news ++ drop v olds ≡ take (suc v) news ++ drop (suc v) olds
next_same [] olds v d less same is = absurd (omega arith)
next_same (y ∷ news) [] v d less same is = absurd (omega arith)
next_same (y ∷ news) (z ∷ olds) zero d less same is = ap (λ w. w ∷ olds) is
next_same (y ∷ news) (z ∷ olds) (suc v) d less same is = ap (λ ws. y ∷ ws) (next_same news olds v d (omega arith) (omega arith) is)

one_more : (v : ℕ) → suc v ≡ v + 1
one_more v = omega arith

pub next_replaced : {X : Type 0} (news olds : List X) (v : ℕ) (x : X) → v < length news → length olds ≡ length news → x ≡ get_or news v x →
    set (take v news ++ drop v olds) v x ≡ take (v + 1) news ++ drop (v + 1) olds
next_replaced news olds v x less same is = next_set news olds v x less same is ∙ ap (λ (n : ℕ). take n news ++ drop n olds) (one_more v)

pub next_kept : {X : Type 0} (news olds : List X) (v : ℕ) (d : X) → v < length news → length olds ≡ length news → get_or olds v d ≡ get_or news v d →
    take v news ++ drop v olds ≡ take (v + 1) news ++ drop (v + 1) olds
next_kept news olds v d less same is = next_same news olds v d less same is ∙ ap (λ (n : ℕ). take n news ++ drop n olds) (one_more v)

pub all_replaced : {X : Type 0} (news olds : List X) (v : ℕ) → length news ≤ v → length olds ≡ length news → take v news ++ drop v olds ≡ news
all_replaced news olds v past same =
    ap₂ (λ xs ys. xs ++ ys) (take_all v news past) (drop_all v olds (omega arith)) ∙ append-nil news
