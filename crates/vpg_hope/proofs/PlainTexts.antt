-- The text of a plain game, part by part.
use Rattle.std.proofs.Common.{ℕ, zero, suc, ◌≡◌, ◌+◌, ◌<◌, ◌≤◌, List, [], ◌∷◌, ◌++◌, length, get_or, slice_get, Some, take, drop, map, refl, sym, ap, ap₂, ◌∙◌, append_assoc, append-nil, codes, decimal, arith}
use Rattle.std.proofs.lemmas.List.{take_more, drop_more, drop_all}
use Rattle.std.proofs.lemmas.Option.{slice_get_within, get_or_from_slice_get}
use Rattle.vpg_game.specs.Game.{NamedVertex, vertex_ids, no_vertex}
use Rattle.vpg_game.specs.Writing.{edges_behind, owner_digit, vertex_text, vertices_text, greatest}
use Rattle.vpg_hope.specs.Games.{Game, owner_of, priority_of, successors_of}
use Rattle.vpg_hope.specs.Plain.{IdentifiedGame, unguarded, unguarded_edge, plain_text}
use Rattle.vpg_hope.specs.PlainParts.{marked_text, line_text}

-- one more identifier
pub ids_more : (ids old new : List ℕ) (v id : ℕ) → old ≡ take v ids → slice_get ids v ≡ Some id → new ≡ old ++ id ∷ [] → new ≡ take (v + 1) ids
ids_more ids old new v id are here is =
    is
    ∙ ap₂ (λ (xs : List ℕ) (x : ℕ). xs ++ x ∷ []) are (sym (get_or_from_slice_get ids v id 0 here))
    ∙ sym (take_more ids v 0 (slice_get_within ids v id here))

-- ---- the vertices of the guarded game that is written

pub length-unguarded : (ids : List ℕ) (game : Game) → length ids ≡ length game → length (unguarded ids game) ≡ length game
length-unguarded [] [] same = refl
length-unguarded [] (vertex ∷ game) same = omega arith
length-unguarded (id ∷ ids) [] same = refl
length-unguarded (id ∷ ids) (vertex ∷ game) same = ap suc (length-unguarded ids game (omega arith))

pub ids-unguarded : (ids : List ℕ) (game : Game) → length ids ≡ length game → vertex_ids (unguarded ids game) ≡ ids
ids-unguarded [] game same = refl
ids-unguarded (id ∷ ids) [] same = absurd (omega arith)
ids-unguarded (id ∷ ids) (vertex ∷ game) same = ap (λ (xs : List ℕ). id ∷ xs) (ids-unguarded ids game (omega arith))

id-unguarded : (ids : List ℕ) (game : Game) (v : ℕ) → length ids ≡ length game → (get_or (unguarded ids game) v no_vertex).id ≡ get_or ids v 0
id-unguarded [] game v same = refl
id-unguarded (id ∷ ids) [] v same = absurd (omega arith)
id-unguarded (id ∷ ids) (vertex ∷ game) zero same = refl
id-unguarded (id ∷ ids) (vertex ∷ game) (suc v) same = id-unguarded ids game v (omega arith)

unguarded_at : (ids : List ℕ) (game : Game) (v : ℕ) → length ids ≡ length game → v < length game →
    get_or (unguarded ids game) v no_vertex ≡ record { id = get_or ids v 0; owner = owner_of game v; priority = priority_of game v; edges = map unguarded_edge (successors_of game v) }
unguarded_at ids [] v same less = absurd (omega arith)
unguarded_at [] (vertex ∷ game) v same less = absurd (omega arith)
unguarded_at (id ∷ ids) (vertex ∷ game) zero same less = refl
unguarded_at (id ∷ ids) (vertex ∷ game) (suc v) same less = unguarded_at ids game v (omega arith) (omega arith)

-- ---- its lines

successors_part : (ids : List ℕ) (game : Game) (mark : ℕ) (ws : List ℕ) → length ids ≡ length game → edges_behind [] (unguarded ids game) mark (map unguarded_edge ws) ≡ marked_text mark ids ws
successors_part ids game mark [] same = refl
successors_part ids game mark (w ∷ ws) same = joined (id-unguarded ids game w same) (successors_part ids game 44 ws same)
  where
    joined : (get_or (unguarded ids game) w no_vertex).id ≡ get_or ids w 0 → edges_behind [] (unguarded ids game) 44 (map unguarded_edge ws) ≡ marked_text 44 ids ws →
        edges_behind [] (unguarded ids game) mark (map unguarded_edge (w ∷ ws)) ≡ marked_text mark ids (w ∷ ws)
    joined e rest = ap₂ (λ (text more : List ℕ). mark ∷ (text ++ more)) (ap (λ n. decimal n ++ []) e ∙ append-nil (decimal (get_or ids w 0))) rest

line_is : (plain : IdentifiedGame) (v : ℕ) → length plain.ids ≡ length plain.game → v < length plain.game →
    line_text plain v ≡ decimal (get_or plain.ids v 0) ++ 32 ∷ (decimal (priority_of plain.game v) ++ 32 ∷ (owner_digit (owner_of plain.game v) ∷ (marked_text 32 plain.ids (successors_of plain.game v) ++ codes ";\n")))
line_is plain v same less =
    ap (vertex_text [] (unguarded plain.ids plain.game)) (unguarded_at plain.ids plain.game v same less)
    ∙ ap (λ (text : List ℕ). decimal (get_or plain.ids v 0) ++ 32 ∷ (decimal (priority_of plain.game v) ++ 32 ∷ (owner_digit (owner_of plain.game v) ∷ (text ++ codes ";\n"))))
    (successors_part plain.ids plain.game 32 (successors_of plain.game v) same)

-- what is there after each part of a line
pub line_put : (plain : IdentifiedGame) (v digit : ℕ) (t t1 t2 t3 t4 t5 t6 t7 id priority marked : List ℕ) → length plain.ids ≡ length plain.game → v < length plain.game →
    t1 ≡ t ++ id → t2 ≡ t1 ++ 32 ∷ [] → t3 ≡ t2 ++ priority → t4 ≡ t3 ++ 32 ∷ [] → t5 ≡ t4 ++ digit ∷ [] → t6 ≡ t5 ++ marked → t7 ≡ t6 ++ codes ";\n" →
    id ≡ decimal (get_or plain.ids v 0) → priority ≡ decimal (priority_of plain.game v) → digit ≡ owner_digit (owner_of plain.game v) → marked ≡ marked_text 32 plain.ids (successors_of plain.game v) →
    t7 ≡ t ++ line_text plain v
line_put plain v digit t t1 t2 t3 t4 t5 t6 t7 id priority marked same less e1 e2 e3 e4 e5 e6 e7 ei ep ed em =
    rw (line_is plain v same less, ← ei, ← ep, ← ed, ← em, e7, e6, e5, e4, e3, e2, e1) (simp append_assoc)

-- ---- the whole text

-- one more line, with what is left of the text
pub line_more : (plain : IdentifiedGame) (v : ℕ) (t t1 whole : List ℕ) → length plain.ids ≡ length plain.game → v < length plain.game → t1 ≡ t ++ line_text plain v →
    t ++ vertices_text [] (unguarded plain.ids plain.game) (drop v (unguarded plain.ids plain.game)) ≡ whole →
    t1 ++ vertices_text [] (unguarded plain.ids plain.game) (drop (v + 1) (unguarded plain.ids plain.game)) ≡ whole
line_more plain v t t1 whole same less e left =
    let vs = unguarded plain.ids plain.game in
    let within : v < length vs = omega (arith, length-unguarded plain.ids plain.game same) in
    ap (λ (text : List ℕ). text ++ vertices_text [] vs (drop (v + 1) vs)) e
    ∙ append_assoc t (line_text plain v) (vertices_text [] vs (drop (v + 1) vs))
    ∙ ap (λ (rest : List NamedVertex). t ++ vertices_text [] vs rest) (sym (drop_more vs v no_vertex within))
    ∙ left

regrouped : (t a n b rest : List ℕ) → t ++ a ++ n ++ b ++ rest ≡ t ++ (a ++ (n ++ (b ++ rest)))
regrouped t a n b rest = simp append_assoc

-- the header, then all lines
pub whole_put : (plain : IdentifiedGame) (v : ℕ) (t t1 t2 t3 t4 number : List ℕ) → length plain.ids ≡ length plain.game → length plain.game ≤ v →
    t1 ≡ t ++ codes "parity " → t2 ≡ t1 ++ number → t3 ≡ t2 ++ codes ";\n" →
    t4 ++ vertices_text [] (unguarded plain.ids plain.game) (drop v (unguarded plain.ids plain.game)) ≡ t3 ++ vertices_text [] (unguarded plain.ids plain.game) (unguarded plain.ids plain.game) →
    number ≡ decimal (greatest (vertex_ids (unguarded plain.ids plain.game))) →
    t4 ≡ t ++ plain_text plain
whole_put plain v t t1 t2 t3 t4 number same past e1 e2 e3 left en =
    let vs = unguarded plain.ids plain.game in
    let nothing : drop v vs ≡ [] = drop_all v vs (omega (arith, length-unguarded plain.ids plain.game same)) in
    sym (append-nil t4)
    ∙ ap (λ (rest : List NamedVertex). t4 ++ vertices_text [] vs rest) (sym nothing)
    ∙ left
    ∙ headed (vertices_text [] vs vs)
  where
    headed : (rest : List ℕ) → t3 ++ rest ≡ t ++ (codes "parity " ++ (decimal (greatest (vertex_ids (unguarded plain.ids plain.game))) ++ (codes ";\n" ++ rest)))
    headed rest =
        ap (λ (text : List ℕ). text ++ rest) (e3 ∙ ap (λ (text : List ℕ). text ++ codes ";\n") (e2 ∙ ap (λ (text : List ℕ). text ++ number) e1))
        ∙ regrouped t (codes "parity ") number (codes ";\n") rest
        ∙ ap (λ (n : List ℕ). t ++ (codes "parity " ++ (n ++ (codes ";\n" ++ rest)))) en
