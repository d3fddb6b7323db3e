use Rattle.std.proofs.Common.{◌≡◌, List, All, map}
use Rattle.vpg_trail.specs.Page.{Entry as Step, table_of, raises}
use Rattle.vpg_trail.specs.Shown.{entry_of, VertexBelow}
use Rattle.vpg_trail.proofs.raise.lifts.Given as goal

abbrev pub invariant-loop-vertex : goal.invariant-loop-vertex
invariant-loop-vertex l = record {
  lifts : (page : List Step) → l.present ≡ table_of l.table page l.vertices → map entry_of l.lifts.items ≡ raises l.under.value page l.table l.values l.vertex;
  vertices : All (λ e. VertexBelow l.vertices (entry_of e)) l.lifts.items;
}
