use Rattle.vpg_draw.proofs.Growing.{granted}
use Rattle.vpg_draw.proofs.features.value_look.Goals as goal

pub returns-in-Yes : goal.returns-in-Yes
returns-in-Yes c = rw c.in-Yes.is (granted c.extend_from_slice.result c.extend_from_slice.new.self.items _ _ c.extend_from_slice.ensures.items)

pub returns-in-Unknown : goal.returns-in-Unknown
returns-in-Unknown c = rw c.in-Unknown.is (granted c.extend_from_slice-in-Unknown.result c.extend_from_slice-in-Unknown.new.self.items _ _ c.extend_from_slice-in-Unknown.ensures.items)

pub returns-in-No : goal.returns-in-No
returns-in-No c = rw c.in-No.is (granted c.extend_from_slice-in-No.result c.extend_from_slice-in-No.new.self.items _ _ c.extend_from_slice-in-No.ensures.items)
