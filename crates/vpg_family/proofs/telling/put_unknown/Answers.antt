use Rattle.std.proofs.Common.{map}
use Rattle.vpg_family.specs.Faults.{shown_byte}
use Rattle.vpg_family.proofs.Told.{appended}
use Rattle.vpg_family.proofs.telling.put_unknown.Goals as goal

pub returns : goal.returns
returns c =
    appended c.put_shown.result c.put_shown.new.out.items c.extend_from_slice.new.self.items c.args.out.now.items _ (map shown_byte c.args.word.now)
    c.in_ok-extend_from_slice.ensures.items c.put_shown.ensures
