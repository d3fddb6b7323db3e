use Rattle.vpg_model.proofs.Made.{are_limited, low_true}
use Rattle.vpg_model.proofs.making.game_of.Goals as goal

pub of-requires : goal.of-requires
of-requires c = are_limited c.args.features c.args.entries.items c.requires (low_true c.are_low.result c.args.entries.items c.deref.result.now c.if-not-are_low.false c.deref.ensures.value c.are_low.ensures)
