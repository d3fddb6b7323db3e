use Rattle.vpg_draw.proofs.Growing.{granted}
use Rattle.vpg_draw.proofs.part.move_style.Goals as goal

pub returns-in-Even : goal.returns-in-Even
returns-in-Even c = rw c.in-Even.is (granted c.extend_from_slice.result c.extend_from_slice.new.self.items _ _ c.extend_from_slice.ensures.items)

pub returns-in-Odd : goal.returns-in-Odd
returns-in-Odd c = rw c.in-Odd.is (granted c.extend_from_slice-in-Odd.result c.extend_from_slice-in-Odd.new.self.items _ _ c.extend_from_slice-in-Odd.ensures.items)
