use Rattle.std.proofs.Common.{ℕ, map}
use Rattle.std.proofs.lemmas.Result.{IfOk-weaker}
use Rattle.std.specs.Global.{Vec}
use Rattle.vpg_partial.specs.Known.{literal_of}
use Rattle.vpg_family.proofs.Sights.{seen_game}
use Rattle.vpg_family.proofs.paged.game_seen.Goals as goal

pub returns : goal.returns
returns c =
    IfOk-weaker _ _ _
    (λ (picture : Vec ℕ) is. seen_game c.args.diagram.now c.args.game.now c.args.known.now (map literal_of c.args.decisions.now) c.args.verdicts.now c.args.text.now picture.items c.in_ok-names.names c.in_ok-names.ensures.told is)
    c.game_shown.ensures
