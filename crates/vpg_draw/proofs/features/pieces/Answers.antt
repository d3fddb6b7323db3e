use Rattle.std.proofs.Common.{rules, tests}
use Rattle.std.proofs.lemmas.Iterator.Consumers.{map_from_collect, YieldsList-from_filter}
use Rattle.std.proofs.lemmas.Iterator.Splits.{YieldsList-from_slice_split}
use Rattle.vpg_diagram.specs.DiagramText.{is_nonempty}
use Rattle.vpg_draw.specs.FeatureDrawing.{is_break}
use Rattle.vpg_draw.proofs.features.pieces.Goals as goal

pub returns : goal.returns
returns c =
    map_from_collect _ c.collect.ensures.ran
    (YieldsList-from_filter _ is_nonempty
    (YieldsList-from_slice_split _ is_break c.args.line.now (cc) (cc) (cc) (λ x r q k. search (rules, tests)))
    c.filter.ensures.closure (λ x r q k. search (rules, tests)))
