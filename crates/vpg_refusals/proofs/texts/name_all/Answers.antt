use Rattle.std.proofs.Common.{ℕ, List, map, length, All, subst}
use Rattle.std.proofs.lemmas.List.Elements.{All-map}
use Rattle.vpg_diagram.specs.FeatureDiagram.{feature_count}
use Rattle.vpg_texts.specs.Scene.{EntryIsWithin}
use Rattle.vpg_trail.specs.Page.{Entry}
use Rattle.vpg_trail.specs.Shown.{entry_of}
use Rattle.vpg_refusals.proofs.texts.name_all.Goals as goal

pub returns : goal.returns
returns c = λ is.
    let n = feature_count c.args.diagram.now.lines in
    let m = length c.args.game.now.vertices in
    let all = All-map (EntryIsWithin c.features.result c.vertices.result) entry_of c.as_slice.result.now (c.are_named.ensures is) in
    subst (λ (es : List Entry). All (EntryIsWithin n m) es) c.as_slice.ensures
    (subst (λ (k : ℕ). All (EntryIsWithin n k) (map entry_of c.as_slice.result.now)) c.vertices.ensures.count
    (subst (λ (k : ℕ). All (EntryIsWithin k c.vertices.result) (map entry_of c.as_slice.result.now)) c.features.ensures.count all))
