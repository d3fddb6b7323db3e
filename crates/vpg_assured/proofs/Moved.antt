-- The moves of a game that was made of a system and requirements, as moves of pairs of a state and a part.
use Rattle.std.proofs.Common.{◌≡◌, ℕ, suc, ◌<◌, ◌≤◌, ◌⊎◌, inl, inr, Bool, true, false, cond, List, [], ◌∷◌, length, get_or, map, Contains, refl, sym, ap, ◌∙◌, subst, arith}
use Rattle.std.specs.Prelude.{filter, ◌==◌}
use Rattle.std.specs.List.{AllZip}
use Rattle.std.proofs.lemmas.Bool.{cases_lt, eqb-true, or_cases}
use Rattle.std.proofs.lemmas.List.{get_or-map, get_or_past, length-map}
use Rattle.vpg_sides.specs.declared.player.Player.{Player}
use Rattle.vpg_sides.specs.declared.player.Player.TheVariants.{Even}
use Rattle.vpg_sides.specs.Players.{opponent}
use Rattle.vpg_guards.specs.declared.tri.Tri.{Tri}
use Rattle.vpg_guards.specs.Formula.{Formula as Guard, truth}
use Rattle.vpg_guards.specs.Grammar.{either}
use Rattle.vpg_guards.specs.Known.{kleene}
use Rattle.vpg_guards.proofs.LawProofs.{joined_guards_mean_both}
use Rattle.vpg_game.specs.Edges.{GuardedEdge, join_edge}
use Rattle.vpg_game.specs.Guarded.{GuardedVertex, GuardedGame, dual}
use Rattle.vpg_hope.specs.Games.{Vertex, HasEdge, isolated}
use Rattle.vpg_hope.specs.Hope.{keeps_in_hope, product_game, restrict}
use Rattle.vpg_hope.proofs.Edges.{Contains-cases, Contains-first, Contains-later, not_in_nil}
use Rattle.vpg_sides.specs.declared.which.Which.{Which}
use Rattle.vpg_sides.specs.declared.which.Which.TheVariants.{Hopeful, Dual}
use Rattle.vpg_why.specs.Moves.{caution_for}
use Rattle.vpg_requirement.specs.Building.{IsAlike, IsAlikeGame, IsAlikeVertex, join_edges}
use Rattle.vpg_parts.specs.declared.part.Part.{Part}
use Rattle.vpg_model.specs.Departures.{Departure, PairMove}
use Rattle.vpg_model.specs.Pairs.{IsPairEdge, IsPairGame, IsPairRow, pair_at, pair_moves}
use Rattle.vpg_checking.specs.Texts.{EachSet}
use Rattle.vpg_checking.proofs.Lists.{zip_at, zip_length}

abbrev Edge : Type 0
Edge = GuardedEdge Guard

abbrev Edges : Type 0
Edges = List Edge

abbrev no_row : GuardedVertex Guard
no_row = record { owner = Even; priority = 0; edges = [] }

abbrev edges_at : GuardedGame Guard → ℕ → Edges
edges_at game v = (get_or game v no_row).edges

-- ---- edges whose guards have a property

module _ (P : Guard → Type 0) where
  -- an edge leads there, and its guard has it
  abbrev pub Leads : Edges → ℕ → Type 0
  Leads [] w = ⊥
  Leads (e ∷ edges) w = (P e.guard × (e.to ≡ w)) ⊎ Leads edges w

  pub record EdgeAt (game : GuardedGame Guard) (v w : ℕ) : Type 0 where
    pub within : v < length game
    pub leads : Leads (edges_at game v) w

  -- a move of a pair to a pair
  pub record MoveBetween (states : List (List Departure)) (sets : List (List Bool)) (parts : List Part)
      (from to : ℕ × ℕ) : Type 0 where
    pub move : PairMove
    pub there : Contains (pair_moves states sets parts from) move
    pub has : P move.guard
    pub to_is : move.to ≡ to

  -- of edges to the same vertex, one has it where the joined one does
  module _ (either_one : (g h : Guard) → P (either g h) → P g ⊎ P h) where
    joined_one : (edges : Edges) (x : Edge) (w : ℕ) → Leads (join_edge edges x) w → Leads edges w ⊎ (P x.guard × (x.to ≡ w))
    joined_one [] x w (inl h) = inr h
    joined_one [] x w (inr none) = absurd none
    joined_one (f ∷ fs) x w h = of (f.to == x.to) refl h (joined_one fs x w)
      where
        of : (b : Bool) → (f.to == x.to) ≡ b → Leads (cond b (record { to = f.to; guard = either f.guard x.guard } ∷ fs) (f ∷ join_edge fs x)) w →
            (Leads (join_edge fs x) w → Leads fs w ⊎ (P x.guard × (x.to ≡ w))) → Leads (f ∷ fs) w ⊎ (P x.guard × (x.to ≡ w))
        of true same (inl (has, to)) rest = elim (either_one f.guard x.guard has) [
          | inl p ↦ inl (inl (p, to))
          | inr p ↦ inr (p, sym (eqb-true f.to x.to same) ∙ to)
        ]
        of true same (inr h) rest = inl (inr h)
        of false other (inl h) rest = inl (inl h)
        of false other (inr h) rest = elim (rest h) [ inl k ↦ inl (inr k) | inr k ↦ inr k ]

    joined_all : (named edges : Edges) (w : ℕ) → Leads (join_edges edges named) w → Leads edges w ⊎ Leads named w
    joined_all [] edges w h = inl h
    joined_all (x ∷ named) edges w h = of (joined_all named (join_edge edges x) w h)
      where
        of : Leads (join_edge edges x) w ⊎ Leads named w → Leads edges w ⊎ Leads (x ∷ named) w
        of (inl h) = elim (joined_one edges x w h) [ inl k ↦ inl k | inr k ↦ inr (inl k) ]
        of (inr h) = inr (inr h)

    -- ---- the move of an edge

    module _ (states : List (List Departure)) (sets : List (List Bool)) (parts : List Part)
        (roots pairs : List (ℕ × ℕ)) (vertices : List ℕ) (built : GuardedGame Guard)
        (is : IsPairGame states sets parts roots pairs vertices built) (v w : ℕ) where
      move_of : (moves : List PairMove) (named : Edges) → AllZip (IsPairEdge pairs) moves named → Leads named w →
          (move : PairMove) × Contains moves move × P move.guard × (move.to ≡ pair_at pairs w)
      move_of moves [] each h = absurd h
      move_of [] (e ∷ named) each h = absurd each
      move_of (m ∷ moves) (e ∷ named) each (inl (has, to)) =
          (m, Contains-first m moves, subst P each.0.guard has, sym each.0.target ∙ ap (pair_at pairs) to)
      move_of (m ∷ moves) (e ∷ named) each (inr h) =
          let (n, there, has, to) = move_of moves named each.1 h in (n, Contains-later m moves n there, has, to)

      of_edge : EdgeAt built v w → MoveBetween states sets parts (pair_at pairs v) (pair_at pairs w)
      of_edge edge =
          let within : v < length pairs = omega (arith, edge.within, zip_length (IsPairRow states sets parts pairs) pairs built is.built) in
          let row = zip_at (IsPairRow states sets parts pairs) pairs built v (0, 0) no_row within is.built in
          let named : Leads row.edges.named w = elim (joined_all row.edges.named [] w (subst (λ (es : Edges). Leads es w) row.edges.joined edge.leads)) [
            | inl none ↦ absurd none
            | inr h ↦ h
          ] in
          let (move, there, has, to) = move_of (pair_moves states sets parts (pair_at pairs v)) row.edges.named row.edges.each named in
          record { move = move; there = there; has = has; to_is = to }

      -- also if the guards are written otherwise
      module _ (as_true : (g h : Guard) → ((set : List Bool) → truth set h ≡ truth set g) → P h → P g)
          (game : GuardedGame Guard) (alike : IsAlikeGame EachSet built game) where
        before : (xs ys : Edges) → AllZip (IsAlike EachSet) xs ys → Leads ys w → Leads xs w
        before xs [] each h = absurd h
        before [] (e ∷ ys) each h = absurd each
        before (d ∷ xs) (e ∷ ys) each (inl (has, to)) =
            inl (as_true d.guard e.guard (λ set. each.0.guard set tt) has, sym each.0.to ∙ to)
        before (d ∷ xs) (e ∷ ys) each (inr h) = inr (before xs ys each.1 h)

        pub of_alike : EdgeAt game v w → MoveBetween states sets parts (pair_at pairs v) (pair_at pairs w)
        of_alike edge =
            let within : v < length built = omega (arith, edge.within, zip_length (IsAlikeVertex EachSet) built game alike) in
            let vertex = zip_at (IsAlikeVertex EachSet) built game v no_row no_row within alike in
            of_edge (record { within = within; leads = before (edges_at built v) (edges_at game v) vertex.edges edge.leads })

  -- ---- edges of plain games

  module _ (keeps : Player → Guard → Bool) (kept : (player : Player) (g : Guard) → keeps player g ≡ true → P g) where
    abbrev chosen : Player → Edges → Edges
    chosen owner edges = filter (λ (edge : Edge). keeps owner edge.guard) edges

    abbrev plain : GuardedVertex Guard → Vertex
    plain vertex = record {
      owner = vertex.owner;
      priority = vertex.priority;
      successors = map (λ edge. edge.to) (filter (λ edge. keeps vertex.owner edge.guard) vertex.edges);
    }

    pub in_plain : (game : GuardedGame Guard) (v w : ℕ) → HasEdge (restrict keeps game) v w → EdgeAt game v w
    in_plain game v w c = at (cases_lt v (length game))
      where
        from_row : (owner : Player) (edges : Edges) →
            Contains (map (λ (edge : Edge). edge.to) (chosen owner edges)) w → Leads edges w
        from_row owner [] d = absurd (not_in_nil w d)
        from_row owner (e ∷ edges) d = of (keeps owner e.guard) refl d (from_row owner edges)
          where
            of : (b : Bool) → keeps owner e.guard ≡ b → Contains (map (λ (edge : Edge). edge.to) (cond b (e ∷ chosen owner edges) (chosen owner edges))) w →
                (Contains (map (λ (edge : Edge). edge.to) (chosen owner edges)) w → Leads edges w) → Leads (e ∷ edges) w
            of true has d more = elim (Contains-cases e.to (map (λ (edge : Edge). edge.to) (chosen owner edges)) w d) [
              | inl to ↦ inl (kept owner e.guard has, to)
              | inr k ↦ inr (more k)
            ]
            of false has d more = inr (more d)

        at : (v < length game) ⊎ (length game ≤ v) → EdgeAt game v w
        at (inl l) = record {
          within = l;
          leads = from_row (get_or game v no_row).owner (edges_at game v)
              (subst (λ (vertex : Vertex). Contains vertex.successors w) (get_or-map plain game v no_row isolated l) c);
        }
        at (inr g) =
            absurd (not_in_nil w (subst (λ (vertex : Vertex). Contains vertex.successors w)
            (get_or_past (map plain game) v isolated (omega (arith, length-map game plain))) c))

  abbrev turned : GuardedVertex Guard → GuardedVertex Guard
  turned vertex = record { owner = opponent vertex.owner; priority = suc vertex.priority; edges = vertex.edges }

  pub of_dual : (game : GuardedGame Guard) (v w : ℕ) → EdgeAt (dual game) v w → EdgeAt game v w
  of_dual game v w h = record {
    within = inside;
    leads = subst (λ (vertex : GuardedVertex Guard). Leads vertex.edges w) (get_or-map turned game v no_row no_row inside)
        h.leads;
  }
    where
      inside : v < length game
      inside = omega (arith, h.within, length-map game turned)

-- ---- moves of a walk, and of a product

-- each guard
abbrev pub Any : Guard → Type 0
Any g = Unit {0}

-- the guards that are true in a product
abbrev pub TrueIn : List Bool → Guard → Type 0
TrueIn set g = truth set g ≡ true

in_caution : (known : List Tri) (which : Which) (game : GuardedGame Guard) (v w : ℕ) →
    HasEdge (caution_for known which game) v w → EdgeAt Any game v w
in_caution known Hopeful game v w c =
    in_plain Any (λ player g. keeps_in_hope (opponent player) (kleene known g)) (λ player g e. tt) game v w c
in_caution known Dual game v w c =
    of_dual Any game v w
    (in_plain Any (λ player g. keeps_in_hope (opponent player) (kleene known g)) (λ player g e. tt) (dual game) v w c)

module _ (states : List (List Departure)) (sets : List (List Bool)) (parts : List Part) (roots pairs : List (ℕ × ℕ))
    (vertices : List ℕ) (built game : GuardedGame Guard) (is : IsPairGame states sets parts roots pairs vertices built)
    (alike : IsAlikeGame EachSet built game) (v w : ℕ) where
  pub move_in_caution : (known : List Tri) (which : Which) → HasEdge (caution_for known which game) v w →
      MoveBetween Any states sets parts (pair_at pairs v) (pair_at pairs w)
  move_in_caution known which c =
      of_alike Any (λ g h p. inl tt) states sets parts roots pairs vertices built is v w (λ g h same p. tt) game alike
      (in_caution known which game v w c)

  pub move_in_product : (set : List Bool) → HasEdge (product_game (truth set) game) v w →
      MoveBetween (TrueIn set) states sets parts (pair_at pairs v) (pair_at pairs w)
  move_in_product set c =
      of_alike (TrueIn set) one_true states sets parts roots pairs vertices built is v w
      (λ g h same p. sym (same set) ∙ p) game alike
      (in_plain (TrueIn set) (λ player g. truth set g) (λ player g e. e) game v w c)
    where
      one_true : (g h : Guard) → truth set (either g h) ≡ true → (truth set g ≡ true) ⊎ (truth set h ≡ true)
      one_true g h e = or_cases (truth set g) (truth set h) (sym (joined_guards_mean_both set [] g h).either_true ∙ e)
