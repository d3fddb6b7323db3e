use Rattle.std.proofs.Common.{◌≡◌, ℕ, List, ◌++◌, get_or, ap, ap₂, ◌∙◌}
use Rattle.vpg_guards.specs.Formula.{Formula}
use Rattle.vpg_features.proofs.Noted.{any_default}
use Rattle.vpg_game.specs.Edges.{GuardedEdge}
use Rattle.vpg_game.specs.Game.{NamedVertex, no_vertex}
use Rattle.vpg_game.specs.Naming.{features_named}
use Rattle.vpg_game.proofs.NamingSteps.{named_at, naming_none, naming_more, naming_whole}
use Rattle.vpg_game.proofs.naming.naming_of.Goals as goal

pub loop-v-init : goal.loop-v-init
loop-v-init c = naming_none c.args.features c.args.vertices.now c.in_ok-naming.naming c.in_ok-naming.ensures

pub loop-v-preserved : goal.loop-v-preserved
loop-v-preserved c =
    let vertices : List NamedVertex = c.args.vertices.now in
    let vertex : c.vertex.inside.edges.items ≡ (get_or vertices c.loop-v.v no_vertex).edges =
    ap (λ (x : NamedVertex). x.edges) (c.vertex.view_is ∙ c.index-vertices-v.is ∙ any_default vertices c.loop-v.v c.index-vertices-v.result no_vertex c.loop-v-test.true) in
    let e : c.deref-in-loop-v.result.now ≡ named_at vertices c.loop-v.v =
    c.deref-in-loop-v.ensures.value
    ∙ c.in_ok-push_features.ensures
    ∙ ap₂ (λ (xs : List ℕ) (es : List (GuardedEdge Formula)). xs ++ features_named es) c.clear.ensures.items (c.deref.ensures.value ∙ vertex) in
    naming_more c.args.features c.args.vertices.now c.loop-v.v c.loop-v.naming c.note_each.new.self c.deref-in-loop-v.result.now e c.loop-v.invariant c.in_ok-note_each.ensures

pub returns : goal.returns
returns c = naming_whole c.args.features c.args.vertices.now c.loop-v.v c.loop-v.naming c.loop-v-test.false c.loop-v.invariant
