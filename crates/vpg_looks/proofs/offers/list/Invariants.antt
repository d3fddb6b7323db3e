use Rattle.std.proofs.Common.{[]}
use Rattle.std.specs.List.{AllByRecursion}
use Rattle.std.specs.Prelude.{◌<◌}
use Rattle.vpg_diagram.specs.FeatureDiagram.{feature_count}
use Rattle.vpg_texts.specs.Scene.{scene_of}
use Rattle.vpg_why.specs.Explained.{choices}
use Rattle.vpg_looks.specs.Offers.{AreOffers, IsShared}
use Rattle.vpg_looks.proofs.offers.list.Given as goal

abbrev pub invariant-listing : goal.invariant-listing
invariant-listing l =
    AreOffers (scene_of [] l.order.game l.order.diagram) l.limits l.vertex l.order.decisions l.known l.feature l.listed.items
    × AllByRecursion (λ o. o.choice.feature < feature_count l.order.diagram.lines) l.listed.items
    × IsShared l.order.game l.order.diagram l.vertex (choices l.order.decisions) l.line
