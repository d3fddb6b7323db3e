use Rattle.std.proofs.Common.{[], slice_index_or}
use Rattle.vpg_part_texts.proofs.Keeping.{three, put_as, on_ok}
use Rattle.vpg_part_texts.proofs.wording.Wording.put_step.Goals as goal

pub returns-clause-put : goal.returns-clause-put
returns-clause-put c = on_ok c.put-3.result _ _
    (λ e. three 61 c.args.out.now.items c.put.new.out.items c.put-2.new.out.items c.put-3.new.out.items c.args.opening.now (slice_index_or c.args.self.now.sets.now c.args.set []) c.args.closing.now c.in_ok-put.ensures.put
    (put_as c.put.new.out.items c.put-2.new.out.items c.set.result.now (slice_index_or c.args.self.now.sets.now c.args.set []) c.in_ok-put-2.ensures.put c.set.ensures) e)
    c.put-3.ensures.put
