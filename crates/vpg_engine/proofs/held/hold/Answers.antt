use Rattle.std.proofs.Common.{[], ◌∷◌, ap, ◌∙◌}
use Rattle.vpg_engine.specs.Serials.{serials}
use Rattle.vpg_engine.proofs.Serials.{serials_more}
use Rattle.vpg_engine.proofs.held.hold.Goals as goal

pub returns-clause-held : goal.returns-clause-held
returns-clause-held g c = ap serials c.push_reserved.ensures.items ∙ serials_more c.args.tokens.now.items (c.args.token ∷ [])
