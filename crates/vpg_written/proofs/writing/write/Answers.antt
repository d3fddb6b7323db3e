use Rattle.std.proofs.Common.{◌≡◌, length, sym, subst, ap, arith, rules, vec_len}
use Rattle.vpg_written.proofs.Filling.{first_fill, next_written, all_written, too_many}
use Rattle.std.proofs.lemmas.Grind.{common_steps}
use Rattle.vpg_requirement.specs.NormalForms.{NormalForm}
use Rattle.vpg_parts.specs.Symbols.{IsSpelled}
use Rattle.vpg_written.specs.Tasks.{entry_form}
use Rattle.vpg_written.proofs.writing.write.Goals as goal

pub loop-item-init : goal.loop-item-init
loop-item-init c = record {
  short = omega (arith, ap length c.new-symbols.ensures.items);
  filled = λ g terms. first_fill g c.new-symbols.result.items c.in_ok-items.items.items (entry_form g c.args.entry) c.new-symbols.ensures.items (c.in_ok-items.ensures g terms);
}

pub loop-item-preserved : goal.loop-item-preserved
loop-item-preserved c = record {
  short = grind (arith, common_steps);
  filled = λ g terms. next_written g c.loop-item.symbols.items c.loop-item.items.items c.pop.new.self.items c.next.new.items.items c.in-Some.item c.in_ok-symbol.symbol c.add.new.symbols.items (entry_form g c.args.entry) c.in-Some.ensures.items c.in_ok-add.ensures (λ fs fill. c.in_ok-symbol.ensures g fs terms fill) (c.loop-item.invariant.filled g terms);
}

pub returns-then-len-ge-MOST_PARTS-clause-many : goal.returns-then-len-ge-MOST_PARTS-clause-many
returns-then-len-ge-MOST_PARTS-clause-many c = λ same g terms.
    let a : vec_len c.loop-item.symbols ≡ length c.loop-item.symbols.items = search rules in
    let b : vec_len c.pop.new.self ≡ length c.pop.new.self.items = search rules in
    too_many g c.loop-item.symbols.items c.loop-item.items.items c.pop.new.self.items c.in-Some.item (entry_form g c.args.entry) c.in-Some.ensures.items (omega arith) (c.loop-item.invariant.filled g terms)

pub returns-clause-spelled : goal.returns-clause-spelled
returns-clause-spelled c = λ g f terms e.
    subst (λ (h : NormalForm). IsSpelled g.actions h c.loop-item.symbols.items) (sym e) (all_written g c.loop-item.symbols.items c.loop-item.items.items (entry_form g c.args.entry) (grind (arith, common_steps, c.in_default.ensures.cases)) (c.loop-item.invariant.filled g terms))
