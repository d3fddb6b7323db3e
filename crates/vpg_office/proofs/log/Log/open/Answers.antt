use Rattle.vpg_office.proofs.Opening.{first_log}
use Rattle.vpg_office.proofs.log.Log.open.Goals as goal

pub invariant_of-result : goal.invariant_of-result
invariant_of-result g c =
    first_log c.new.result c.empty.result c.args.desk c.args.room c.args.purse c.args.left.parts c.args.press.front c.new.ensures.places c.new.ensures.told c.new.ensures.given c.empty.ensures c.requires.opens c.requires.of.0 c.requires.of.1 c.requires.opened c.requires.room.0 c.requires.room.1
    c.requires.none c.requires.left c.requires.press
