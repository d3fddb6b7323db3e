use Rattle.std.proofs.Common.{ap, ◌∙◌}
use Rattle.vpg_game.proofs.Scans.{told_in, told_of}
use Rattle.vpg_game.proofs.names.VertexNames.read.Goals as goal

pub returns : goal.returns
returns c = record {
  told = λ features file well spelled. ap told_in c.start.view_is ∙ told_of features file c.args.text.now c.in_ok-start.field-0 well spelled c.in_ok-start.ensures;
}
