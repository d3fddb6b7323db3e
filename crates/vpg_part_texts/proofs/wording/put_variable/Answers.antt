use Rattle.std.proofs.Common.{◌∙◌, codes, sym, ap, take, ◌++◌, List, ℕ}
use Rattle.std.specs.Prelude.{decimal}
use Rattle.vpg_part_texts.specs.PartTexts.{variable_name}
use Rattle.vpg_part_texts.proofs.Keeping.{behind, put_as, on_ok}
use Rattle.vpg_part_texts.proofs.Worded.{later_name}
use Rattle.vpg_part_texts.proofs.wording.put_variable.Goals as goal

pub returns-clause-put : goal.returns-clause-put
returns-clause-put c = on_ok c.put-3.result _ _
    (λ e. put_as c.args.out.now.items c.put-3.new.out.items _ (variable_name c.args.number)
    (behind 61 c.args.out.now.items c.put-2.new.out.items c.put-3.new.out.items (codes "X") (decimal c.args.number) c.in_ok-put.ensures.put
    (put_as c.put-2.new.out.items c.put-3.new.out.items c.as_bytes.result.now (decimal c.args.number) e (c.as_bytes.ensures.value ∙ c.format.ensures.text)))
    (sym (later_name c.args.number c.if-number-eq0.false c.if-number-eq1.false c.if-number-eq2.false)))
    c.put-3.ensures.put
