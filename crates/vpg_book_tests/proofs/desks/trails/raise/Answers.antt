use Rattle.std.proofs.Common.{◌≡◌, ◌<◌, ◌∙◌, ℕ, List, length, slice_index, sym, ap, arith}
use Rattle.vpg_trail.specs.Page.{Which, Hopeful, Dual, value_at, table_of, Entry as Step}
use Rattle.vpg_trail.proofs.Tables.{tables_hold}
use Rattle.vpg_book_tests.proofs.desks.trails.raise.Goals as goal
use Rattle.vpg_book_tests.proofs.desks.trails.raise.Goals.{in-Hopeful, in-Dual}

within : (table : Which) (page : List Step) (values : List ℕ) (v m n : ℕ) → values ≡ table_of table page n → m ≡ n → v < m → v < length values
within table page values v m n e q h = omega (arith, ap length e ∙ (tables_hold table page n 0).0)

held : (table : Which) (page : List Step) (values : List ℕ) (v m n x old : ℕ) → values ≡ table_of table page n → m ≡ n → v < m → x ≡ slice_index values v → old ≡ x → old ≡ value_at table v page
held table page values v m n x old e q h r o = o ∙ r ∙ ap (λ (l : List ℕ). slice_index l v) e ∙ (tables_hold table page n v).1 (omega (arith, q))

pub get-old-requires : goal.get-old-requires
get-old-requires c = within Hopeful c.args.trail.now.entries c.hopeful.result.now c.args.vertex c.vertices.result c.args.trail.now.vertices c.hopeful.ensures c.vertices.ensures c.if-vertex-vertices.false

pub get-old-requires-in-Dual : goal.get-old-requires-in-Dual
get-old-requires-in-Dual c = within Dual c.args.trail.now.entries c.dual.result.now c.args.vertex c.vertices.result c.args.trail.now.vertices c.dual.ensures c.vertices.ensures c.if-vertex-vertices.false

pub append-requires-clause-lifts : goal.append-requires-clause-lifts
append-requires-clause-lifts c = (
  elim c.match-table.branch [
    | in-Hopeful w ↦ held Hopeful c.args.trail.now.entries w.hopeful.result.now c.args.vertex c.vertices.result c.args.trail.now.vertices w.get-old.result c.match-table.old w.hopeful.ensures c.vertices.ensures c.if-vertex-vertices.false w.get-old.ensures w.old-is
        ∙ ap (λ (t : Which). value_at t c.args.vertex c.args.trail.now.entries) (sym w.in-Hopeful.is)
    | in-Dual w ↦ held Dual c.args.trail.now.entries w.dual.result.now c.args.vertex c.vertices.result c.args.trail.now.vertices w.get-old-in-Dual.result c.match-table.old w.dual.ensures c.vertices.ensures c.if-vertex-vertices.false w.get-old-in-Dual.ensures w.old-is
        ∙ ap (λ (t : Which). value_at t c.args.vertex c.args.trail.now.entries) (sym w.in-Dual.is)
  ],
  c.if-old-new.true,
)
