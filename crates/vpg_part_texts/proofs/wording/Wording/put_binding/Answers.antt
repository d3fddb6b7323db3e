use Rattle.vpg_part_texts.specs.PartTexts.{kind_text, fixpoint_name}
use Rattle.vpg_part_texts.proofs.Keeping.{three, put_as, on_ok}
use Rattle.vpg_part_texts.proofs.wording.Wording.put_binding.Goals as goal

pub returns-clause-put : goal.returns-clause-put
returns-clause-put c = on_ok c.put_name.result _ _
    (λ e. three 61 c.args.out.now.items c.put.new.out.items c.put-2.new.out.items c.put_name.new.out.items c.args.opening.now (kind_text c.args.kind) (fixpoint_name c.args.self.now.numbers.now c.args.self.now.root c.args.place) c.in_ok-put.ensures.put
    (put_as c.put.new.out.items c.put-2.new.out.items c.word_of.result.now (kind_text c.args.kind) c.in_ok-put-2.ensures.put c.word_of.ensures) e)
    c.put_name.ensures.put
