-- What a change of what is known concerns.
use Rattle.std.proofs.Common.{Bor, ◌≡◌, ◌≢◌, ℕ, zero, suc, ◌+◌, ◌<◌, ◌≤◌, Bool, true, false, cond, List, [], ◌∷◌, length, get_or, set, take, map, filter, Contains, All, ◌⊎◌, ◌↔◌, inl, inr, refl, sym, ap, ap₂, ◌∙◌, subst, arith}
use Rattle.std.proofs.lemmas.Bool.{cases_eq, cases_lt}
use Rattle.std.proofs.lemmas.List.{length-set, get_or-set_same, get_or-set_other, take_more}
use Rattle.std.proofs.lemmas.List.Elements.{All-contains_itself, All-weaker, Contains-append_left, Contains-append_right, Contains-append_cases}
use Rattle.vpg_guards.specs.declared.tri.Tri.{Tri}
use Rattle.vpg_guards.specs.declared.tri.Tri.TheVariants.{No, Unknown, Yes}
use Rattle.vpg_guards.specs.Formula.{Formula, named}
use Rattle.vpg_guards.specs.Known.{kleene}
use Rattle.vpg_guards.proofs.Named.{values_rest_on_named_features}
use Rattle.vpg_features.proofs.Noted.{Contains-none, Contains-one}
use Rattle.vpg_sides.specs.declared.player.Player.{Player}
use Rattle.vpg_sides.specs.Players.{opponent}
use Rattle.vpg_game.specs.Guarded.{GuardedEdge, GuardedGame, dual}
use Rattle.vpg_game.specs.Game.{vertex_in}
use Rattle.vpg_game.specs.Naming.{features_named}
use Rattle.vpg_hope.specs.Games.{Game, isolated}
use Rattle.vpg_hope.specs.Hope.{keeps_in_hope, hopeful_game}
use Rattle.vpg_hope.specs.Selection.{AreStill, IsHeldUnmarked}
use Rattle.vpg_hope.specs.declared.selection.Selection.TheVariants.{Hopeful, HopefulOfDual}

-- ---- marks

pub record AreMarked (vertices : List ℕ) (old new : List Bool) : Type 0 where
  pub count : length new ≡ length old
  pub kept : (v : ℕ) → get_or old v false ≡ true → get_or new v false ≡ true
  pub marked : (v : ℕ) → Contains vertices v → get_or new v false ≡ true

pub marked_none : (marks : List Bool) → AreMarked [] marks marks
marked_none marks = record { count = refl; kept = λ v h. h; marked = λ v h. absurd (Contains-none v h) }

mark_kept : (marks : List Bool) (u v : ℕ) → u < length marks → (v ≡ u) ⊎ (v ≡ u → ⊥) → get_or marks v false ≡ true → get_or (set marks u true) v false ≡ true
mark_kept marks u v less (inl q) h = ap (λ (k : ℕ). get_or (set marks u true) k false) q ∙ get_or-set_same marks u true false less
mark_kept marks u v less (inr n) h = get_or-set_other marks u v true false n ∙ h

pub marked_more : (vertices : List ℕ) (i d : ℕ) (old marks : List Bool) → i < length vertices → get_or vertices i d < length marks → AreMarked (take i vertices) old marks →
    AreMarked (take (i + 1) vertices) old (set marks (get_or vertices i d) true)
marked_more vertices i d old marks l less so = record {
  count = length-set marks (get_or vertices i d) true ∙ so.count;
  kept = λ v h. mark_kept marks (get_or vertices i d) v less (cases_eq v (get_or vertices i d)) (so.kept v h);
  marked = λ v h. at v (Contains-append_cases (take i vertices) (get_or vertices i d ∷ []) v (subst (λ (xs : List ℕ). Contains xs v) (take_more vertices i d l) h));
}
  where
    at : (v : ℕ) → Contains (take i vertices) v ⊎ Contains (get_or vertices i d ∷ []) v → get_or (set marks (get_or vertices i d) true) v false ≡ true
    at v (inl h) = mark_kept marks (get_or vertices i d) v less (cases_eq v (get_or vertices i d)) (so.marked v h)
    at v (inr h) =
        ap (λ (k : ℕ). get_or (set marks (get_or vertices i d) true) k false) (sym (Contains-one (get_or vertices i d) v h))
        ∙ get_or-set_same marks (get_or vertices i d) true false less

-- ---- features and vertices

no_features : (graph : GuardedGame Formula) (v : ℕ) → length graph ≤ v → (vertex_in graph v).edges ≡ []
no_features [] v l = refl
no_features (x ∷ graph) zero l = absurd (omega arith)
no_features (x ∷ graph) (suc v) l = no_features graph v (omega arith)

pub names_within : (graph : GuardedGame Formula) (v f : ℕ) → Contains (features_named (vertex_in graph v).edges) f → v < length graph
names_within graph v f h = at (cases_lt v (length graph))
  where
    at : (v < length graph) ⊎ (length graph ≤ v) → v < length graph
    at (inl l) = l
    at (inr l) = absurd (Contains-none f (subst (λ (es : List (GuardedEdge Formula)). Contains (features_named es) f) (no_features graph v l) h))

pub all_within : (graph : GuardedGame Formula) (f : ℕ) (row : List ℕ) → ((v : ℕ) → Contains row v ↔ Contains (features_named (vertex_in graph v).edges) f) → All (λ v. v < length graph) row
all_within graph f row is = All-weaker (Contains row) (λ v. v < length graph) (λ v h. names_within graph v f ((is v).0 h)) row (All-contains_itself row)

named_at_edge : (edges : List (GuardedEdge Formula)) (i : ℕ) (d : GuardedEdge Formula) → i < length edges → (f : ℕ) → Contains (named (get_or edges i d).guard) f → Contains (features_named edges) f
named_at_edge [] i d l f h = absurd (omega arith)
named_at_edge (e ∷ es) zero d l f h = Contains-append_left (named e.guard) (features_named es) f h
named_at_edge (e ∷ es) (suc i) d l f h = Contains-append_right (named e.guard) (features_named es) f (named_at_edge es i d (omega arith) f h)

same_or_not : (a b : Tri) → (a ≡ b) ⊎ (a ≢ b)
same_or_not No No = inl refl
same_or_not No Unknown = inr (λ e. cc)
same_or_not No Yes = inr (λ e. cc)
same_or_not Unknown No = inr (λ e. cc)
same_or_not Unknown Unknown = inl refl
same_or_not Unknown Yes = inr (λ e. cc)
same_or_not Yes No = inr (λ e. cc)
same_or_not Yes Unknown = inr (λ e. cc)
same_or_not Yes Yes = inl refl

past : (known : List Tri) (f : ℕ) → length known ≤ f → get_or known f Unknown ≡ Unknown
past [] f l = refl
past (t ∷ known) zero l = absurd (omega arith)
past (t ∷ known) (suc f) l = past known f (omega arith)

-- the features so far: where something else is known of one, its vertices are marked
pub record AreMarkedBelow (before now : List Tri) (graph : GuardedGame Formula) (bound : ℕ) (marks : List Bool) : Type 0 where
  pub count : length marks ≡ length graph
  pub marked : (f v : ℕ) → f < bound → get_or before f Unknown ≢ get_or now f Unknown → Contains (features_named (vertex_in graph v).edges) f → get_or marks v false ≡ true

less_next : (g f : ℕ) → (g ≡ f → ⊥) → g < f + 1 → (g < f) ⊎ (f ≤ g) → g < f
less_next g f n l (inl k) = k
less_next g f n l (inr k) = absurd (n (omega arith))

pub marked_next : (before now : List Tri) (graph : GuardedGame Formula) (f : ℕ) (old new : List Bool) → AreMarkedBelow before now graph f old → length new ≡ length old →
    ((v : ℕ) → get_or old v false ≡ true → get_or new v false ≡ true) →
    (get_or before f Unknown ≢ get_or now f Unknown → (v : ℕ) → Contains (features_named (vertex_in graph v).edges) f → get_or new v false ≡ true) → AreMarkedBelow before now graph (f + 1) new
marked_next before now graph f old new so same kept marked = record { count = same ∙ so.count; marked = λ g v l differ h. at g v l differ h (cases_eq g f) }
  where
    at : (g v : ℕ) → g < f + 1 → get_or before g Unknown ≢ get_or now g Unknown → Contains (features_named (vertex_in graph v).edges) g → (g ≡ f) ⊎ (g ≡ f → ⊥) → get_or new v false ≡ true
    at g v l differ h (inl q) =
        marked (subst (λ (k : ℕ). get_or before k Unknown ≢ get_or now k Unknown) q differ) v (subst (λ (k : ℕ). Contains (features_named (vertex_in graph v).edges) k) q h)
    at g v l differ h (inr n) = kept v (so.marked g v (less_next g f n l (cases_lt g f)) differ h)

pub unmarked_still : (before now : List Tri) (graph : GuardedGame Formula) (bound : ℕ) (marks : List Bool) → length before ≤ bound → length now ≡ length before → AreMarkedBelow before now graph bound marks →
    (v : ℕ) → get_or marks v false ≡ false → AreStill before now (vertex_in graph v).edges
unmarked_still before now graph bound marks all same so v unmarked i d l =
    values_rest_on_named_features before now (get_or edges i d).guard (λ f h. at f (named_at_edge edges i d l f h) (same_or_not (get_or before f Unknown) (get_or now f Unknown)) (cases_lt f (length before)))
  where
    edges : List (GuardedEdge Formula)
    edges = (vertex_in graph v).edges

    at : (f : ℕ) → Contains (features_named edges) f → (get_or before f Unknown ≡ get_or now f Unknown) ⊎ (get_or before f Unknown ≢ get_or now f Unknown) → (f < length before) ⊎ (length before ≤ f) →
        get_or before f Unknown ≡ get_or now f Unknown
    at f h (inl e) o = e
    at f h (inr n) (inl less) = let yes : true ≡ false = sym (so.marked f v (omega arith) n h) ∙ unmarked in absurd cc
    at f h (inr n) (inr beyond) = past before f beyond ∙ sym (past now f (omega arith))

-- ---- what is kept where guards have the values that they had

pub kept_same : (mover : Player) (before now : List Tri) (edges : List (GuardedEdge Formula)) → AreStill before now edges →
    filter (λ (edge : GuardedEdge Formula). keeps_in_hope mover (kleene before edge.guard)) edges ≡ filter (λ (edge : GuardedEdge Formula). keeps_in_hope mover (kleene now edge.guard)) edges
kept_same mover before now [] still = refl
kept_same mover before now (e ∷ es) still =
    ap₂ (λ (b : Bool) (rest : List (GuardedEdge Formula)). cond b (e ∷ rest) rest) (ap (keeps_in_hope mover) (still 0 e (omega arith)))
    (kept_same mover before now es (λ k d l. still (suc k) d (omega arith)))

held_hopeful : (known : List Tri) (graph : GuardedGame Formula) (v : ℕ) → v < length graph → get_or (hopeful_game (kleene known) graph) v isolated ≡ record {
  owner = (vertex_in graph v).owner;
  priority = (vertex_in graph v).priority;
  successors = map (λ edge. edge.to) (filter (λ edge. keeps_in_hope (vertex_in graph v).owner (kleene known edge.guard)) (vertex_in graph v).edges);
}
held_hopeful known [] v less = absurd (omega arith)
held_hopeful known (x ∷ graph) zero less = refl
held_hopeful known (x ∷ graph) (suc v) less = held_hopeful known graph v (omega arith)

held_of_dual : (known : List Tri) (graph : GuardedGame Formula) (v : ℕ) → v < length graph → get_or (hopeful_game (kleene known) (dual graph)) v isolated ≡ record {
  owner = opponent (vertex_in graph v).owner;
  priority = suc (vertex_in graph v).priority;
  successors = map (λ edge. edge.to) (filter (λ edge. keeps_in_hope (opponent (vertex_in graph v).owner) (kleene known edge.guard)) (vertex_in graph v).edges);
}
held_of_dual known [] v less = absurd (omega arith)
held_of_dual known (x ∷ graph) zero less = refl
held_of_dual known (x ∷ graph) (suc v) less = held_of_dual known graph v (omega arith)

module _ (before now : List Tri) (graph : GuardedGame Formula) where
  still_at : (first second : Bor (List Tri)) (items slice : List Bool) → first.now ≡ before → second.now ≡ now → slice ≡ items →
      ((v : ℕ) → get_or items v false ≡ false → AreStill first.now second.now (vertex_in graph v).edges) →
      (v : ℕ) → get_or slice v false ≡ false → AreStill before now (vertex_in graph v).edges
  still_at first second items slice eb en es still v unmarked =
      subst (λ (b : List Tri). AreStill b now (vertex_in graph v).edges) eb
      (subst (λ (n : List Tri). AreStill first.now n (vertex_in graph v).edges) en (still v (ap (λ (bs : List Bool). get_or bs v false) (sym es) ∙ unmarked)))

  pub hopeful_held : (known first second : Bor (List Tri)) (arena : Game) (items slice : List Bool) → known.now ≡ now → first.now ≡ before → second.now ≡ now → slice ≡ items →
      arena ≡ hopeful_game (kleene before) graph → ((v : ℕ) → get_or items v false ≡ false → AreStill first.now second.now (vertex_in graph v).edges) →
      IsHeldUnmarked (Hopeful known) slice graph arena
  hopeful_held known first second arena items slice ek eb en es held still v less unmarked =
      ap (λ (g : Game). get_or g v isolated) held
      ∙ held_hopeful before graph v less
      ∙ ap (λ (xs : List (GuardedEdge Formula)). record { owner = (vertex_in graph v).owner; priority = (vertex_in graph v).priority; successors = map (λ edge. edge.to) xs })
      (kept_same (vertex_in graph v).owner before now (vertex_in graph v).edges (still_at first second items slice eb en es still v unmarked))
      ∙ ap (λ (k : List Tri). record {
        owner = (vertex_in graph v).owner;
        priority = (vertex_in graph v).priority;
        successors = map (λ (edge : GuardedEdge Formula). edge.to) (filter (λ edge. keeps_in_hope (vertex_in graph v).owner (kleene k edge.guard)) (vertex_in graph v).edges);
      }) (sym ek)

  pub dual_held : (known first second : Bor (List Tri)) (arena : Game) (items slice : List Bool) → known.now ≡ now → first.now ≡ before → second.now ≡ now → slice ≡ items →
      arena ≡ hopeful_game (kleene before) (dual graph) → ((v : ℕ) → get_or items v false ≡ false → AreStill first.now second.now (vertex_in graph v).edges) →
      IsHeldUnmarked (HopefulOfDual known) slice graph arena
  dual_held known first second arena items slice ek eb en es held still v less unmarked =
      ap (λ (g : Game). get_or g v isolated) held
      ∙ held_of_dual before graph v less
      ∙ ap (λ (xs : List (GuardedEdge Formula)). record { owner = opponent (vertex_in graph v).owner; priority = suc (vertex_in graph v).priority; successors = map (λ edge. edge.to) xs })
      (kept_same (opponent (vertex_in graph v).owner) before now (vertex_in graph v).edges (still_at first second items slice eb en es still v unmarked))
      ∙ ap (λ (k : List Tri). record {
        owner = opponent (vertex_in graph v).owner;
        priority = suc (vertex_in graph v).priority;
        successors = map (λ (edge : GuardedEdge Formula). edge.to) (filter (λ edge. keeps_in_hope (opponent (vertex_in graph v).owner) (kleene k edge.guard)) (vertex_in graph v).edges);
      }) (sym ek)

pub hopeful_count : (known : List Tri) (graph : GuardedGame Formula) → length (hopeful_game (kleene known) graph) ≡ length graph
hopeful_count known [] = refl
hopeful_count known (x ∷ graph) = ap (λ (n : ℕ). suc n) (hopeful_count known graph)

pub dual_count : (known : List Tri) (graph : GuardedGame Formula) → length (hopeful_game (kleene known) (dual graph)) ≡ length graph
dual_count known [] = refl
dual_count known (x ∷ graph) = ap (λ (n : ℕ). suc n) (dual_count known graph)
