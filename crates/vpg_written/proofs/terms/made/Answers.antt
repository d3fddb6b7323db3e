use Rattle.std.proofs.Common.{ℕ, refl, subst}
use Rattle.vpg_written.specs.Terms.{IsSetBy, set_at_end}
use Rattle.vpg_written.proofs.Parsing.{one_more_piece}
use Rattle.vpg_written.proofs.terms.made.Goals as goal

pub returns : goal.returns
returns c = λ actions ts sets stacked. let names = c.args.system.now.actions in
    let m = c.args.mark.now in
    let x = subst (λ (n : ℕ). IsSetBy names m actions n c.set_of-2.result c.set_by_mark.new.sets.items c.in_ok-set.set) c.set_of.ensures (c.in_ok-set.ensures actions sets) in
    let y = subst (λ (n : ℕ). IsSetBy names m actions (set_at_end c.operands.result.0.now) n c.set_by_mark.new.sets.items c.in_ok-set.set) c.set_of-2.ensures x in
    one_more_piece names actions m ts _ _ _ _ _ sets.constants.none (c.operands.ensures.operands names actions ts stacked) y refl refl refl
