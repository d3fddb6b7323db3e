use Rattle.std.proofs.Common.{arith}
use Rattle.vpg_game.specs.Game.{no_vertex}
use Rattle.vpg_model.specs.Sharpening.{IsSharpEntry}
use Rattle.vpg_model.proofs.SharpGames.{zip_more}
use Rattle.vpg_model.proofs.sharpening.sharp_entries.Goals as goal

pub loop-v-preserved : goal.loop-v-preserved
loop-v-preserved c =
    let l = c.loop-v in
    zip_more (IsSharpEntry c.args.game.features) c.args.game.vertices l.entries.items c.push.new.self.items l.v no_vertex c.in_ok-sharp_entry.field-0
    (omega (arith, c.loop-v-test.true, c.vertices-count.ensures.count)) l.invariant c.in_ok-sharp_entry.ensures c.in_ok-push.ensures.items
