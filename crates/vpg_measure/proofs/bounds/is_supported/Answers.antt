use Rattle.std.proofs.Common.{◌≡◌, ℕ, ◌<◌, Bool, List, ◌∙◌, sym, subst, arith}
use Rattle.std.proofs.lemmas.Grind.{common_steps}
use Rattle.std.specs.Prelude.{◌↔◌, IsTrue, slice_index}
use Rattle.std.proofs.lemmas.Bool.{false≢true}
use Rattle.vpg_game.specs.declared.levels.Level.{Level}
use Rattle.vpg_sides.specs.declared.player.Player.{Player}
use Rattle.vpg_sides.specs.declared.player.Player.TheVariants.{Even, Odd}
use Rattle.vpg_game.specs.Levels.{top_of}
use Rattle.vpg_sides.specs.Players.{opponent}
use Rattle.vpg_hope.specs.Arena.{Vertex as Node, vertex_at}
use Rattle.vpg_measure.specs.Bounds.{Supports, IsSupported}
use Rattle.vpg_measure.specs.Lifts.{IsTableOf, FitsEdges}
use Rattle.vpg_measure.proofs.Progs.{slice_index-le}
use Rattle.vpg_measure.proofs.bounds.is_supported.Goals as goal

-- a vertex is supported where its edges are, told by what was read of it
by_edges : (ls dual : List Level) (bounds ranks : List ℕ) (x : Node) (bound rank p : ℕ) (kept : List ℕ) (o : Player) (b : Bool) → rank < top_of dual → o ≡ x.owner → p ≡ x.priority → kept ≡ x.successors →
    (IsTrue b ↔ FitsEdges (opponent o) (λ w. Supports ls dual bounds ranks p bound rank w) kept) → (IsTrue b ↔ IsSupported ls dual bounds ranks x bound rank)
by_edges ls dual bounds ranks x bound rank p kept o b less owner priority same h = (
  λ t. record { ranked = less; edges = subst (λ (q : Player). Edges q x.priority x.successors) owner (subst (λ (q : ℕ). Edges o q x.successors) priority (subst (λ (ks : List ℕ). Edges o p ks) same (h.0 t))) },
  λ s. h.1 (subst (λ (ks : List ℕ). Edges o p ks) (sym same) (subst (λ (q : ℕ). Edges o q x.successors) (sym priority) (subst (λ (q : Player). Edges q x.priority x.successors) (sym owner) s.edges))),
)
  where
    Edges : Player → ℕ → List ℕ → Type 0
    Edges q priority ks = FitsEdges (opponent q) (λ w. Supports ls dual bounds ranks priority bound rank w) ks

-- a rank that isn't the dual's top is below it
ranked : (dual : List Level) (arena : List Node) (ranks : List ℕ) (v rank top : ℕ) → IsTableOf dual arena ranks → rank ≡ slice_index ranks v → top ≡ top_of dual → (rank ≡ top → ⊥) → slice_index ranks v < top_of dual
ranked dual arena ranks v rank top table is_rank is_top other = omega (arith, slice_index-le (top_of dual) ranks table.within v, is_rank, is_top, other)

pub returns-then-get-top-clause-supported : goal.returns-then-get-top-clause-supported
returns-then-get-top-clause-supported c = (
  λ t. absurd (false≢true t),
  λ s. absurd (omega (arith, s.ranked, c.if-get-top.true, c.get.ensures, c.top.ensures.top)),
)

pub returns-then-get-top-clause-closed : goal.returns-then-get-top-clause-closed
returns-then-get-top-clause-closed c = rw c.kept-kept.ensures.kept at c.kept-kept.ensures.closed

pub all_support-requires-clause-bound : goal.all_support-requires-clause-bound
all_support-requires-clause-bound c = omega (arith, c.requires.bounds.len, c.requires.vertex)

pub all_support-requires-clause-kept : goal.all_support-requires-clause-kept
all_support-requires-clause-kept c = rw c.requires.bounds.len c.kept-kept.ensures.closed

pub all_support-requires-clause-count : goal.all_support-requires-clause-count
all_support-requires-clause-count c = c.requires.ranks.len ∙ sym c.requires.bounds.len

pub some_supports-requires-clause-bound : goal.some_supports-requires-clause-bound
some_supports-requires-clause-bound c = omega (arith, c.requires.bounds.len, c.requires.vertex)

pub some_supports-requires-clause-kept : goal.some_supports-requires-clause-kept
some_supports-requires-clause-kept c = rw c.requires.bounds.len c.kept-kept.ensures.closed

pub some_supports-requires-clause-count : goal.some_supports-requires-clause-count
some_supports-requires-clause-count c = c.requires.ranks.len ∙ sym c.requires.bounds.len

pub returns-in-Even-clause-supported : goal.returns-in-Even-clause-supported
returns-in-Even-clause-supported c =
    by_edges c.args.shape.now c.args.dual_shape.now c.args.certificate.now.bounds c.args.certificate.now.ranks (vertex_at c.args.arena.now c.args.v)
    (slice_index c.args.certificate.now.bounds c.args.v) (slice_index c.args.certificate.now.ranks c.args.v) c.priority-priority.result c.kept-kept.result.now Even c.all_support.result
    (ranked c.args.dual_shape.now c.args.arena.now c.args.certificate.now.ranks c.args.v c.get.result c.top.result c.requires.ranks c.get.ensures c.top.ensures.top c.if-get-top.false)
    (sym c.in-Even.is ∙ c.owner.ensures) c.priority-priority.ensures c.kept-kept.ensures.kept c.all_support.ensures

pub returns-in-Even-clause-closed : goal.returns-in-Even-clause-closed
returns-in-Even-clause-closed c = rw c.kept-kept.ensures.kept at c.kept-kept.ensures.closed

pub returns-in-Odd-clause-supported : goal.returns-in-Odd-clause-supported
returns-in-Odd-clause-supported c =
    by_edges c.args.shape.now c.args.dual_shape.now c.args.certificate.now.bounds c.args.certificate.now.ranks (vertex_at c.args.arena.now c.args.v)
    (slice_index c.args.certificate.now.bounds c.args.v) (slice_index c.args.certificate.now.ranks c.args.v) c.priority-priority.result c.kept-kept.result.now Odd c.some_supports.result
    (ranked c.args.dual_shape.now c.args.arena.now c.args.certificate.now.ranks c.args.v c.get.result c.top.result c.requires.ranks c.get.ensures c.top.ensures.top c.if-get-top.false)
    (sym c.in-Odd.is ∙ c.owner.ensures) c.priority-priority.ensures c.kept-kept.ensures.kept c.some_supports.ensures

pub returns-in-Odd-clause-closed : goal.returns-in-Odd-clause-closed
returns-in-Odd-clause-closed c = rw c.kept-kept.ensures.kept at c.kept-kept.ensures.closed

pub some_supports-requires-clause-bounds : goal.some_supports-requires-clause-bounds
some_supports-requires-clause-bounds c = grind (arith, common_steps)

pub all_support-requires-clause-bounds : goal.all_support-requires-clause-bounds
all_support-requires-clause-bounds c = grind (arith, common_steps)

pub some_supports-requires-clause-ranks : goal.some_supports-requires-clause-ranks
some_supports-requires-clause-ranks c = grind (arith, common_steps)

pub all_support-requires-clause-ranks : goal.all_support-requires-clause-ranks
all_support-requires-clause-ranks c = grind (arith, common_steps)
