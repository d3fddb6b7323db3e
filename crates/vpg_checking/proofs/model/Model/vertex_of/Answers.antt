use Rattle.std.proofs.Common.{length, ◌⊎◌, ◌<◌, ◌≤◌, inl, inr, sym, ◌∙◌, arith}
use Rattle.std.proofs.lemmas.Bool.{cases_lt}
use Rattle.vpg_checking.proofs.Found.{named_here, named_later, named_ends}
use Rattle.vpg_checking.proofs.model.Model.vertex_of.Goals as goal

pub returns-then-is_named : goal.returns-then-is_named
returns-then-is_named c = sym (c.loop-n.invariant ∙ named_here c.args.self.now.requirements.entries.items c.args.self.now.roots.items c.args.name.now c.loop-n.n c.index.result.now c.index-then-is_named.result.now
    (omega (arith, c.loop-n-test.true, c.len.ensures, c.len-2.ensures, c.min-count.ensures)) (omega (arith, c.loop-n-test.true, c.len.ensures, c.len-2.ensures, c.min-count.ensures)) c.index.ensures c.index-then-is_named.ensures
    (sym c.is_named.ensures ∙ c.if-is_named.true))

pub loop-n-preserved : goal.loop-n-preserved
loop-n-preserved c = c.loop-n.invariant ∙ named_later c.args.self.now.requirements.entries.items c.args.self.now.roots.items c.args.name.now c.loop-n.n c.index.result.now
    (omega (arith, c.loop-n-test.true, c.len.ensures, c.len-2.ensures, c.min-count.ensures)) (omega (arith, c.loop-n-test.true, c.len.ensures, c.len-2.ensures, c.min-count.ensures)) c.index.ensures (sym c.is_named.ensures ∙ c.if-is_named.false)

pub returns : goal.returns
returns c = sym (c.loop-n.invariant ∙ named_ends c.args.self.now.requirements.entries.items c.args.self.now.roots.items c.args.name.now c.loop-n.n (decide (cases_lt c.loop-n.n (length c.args.self.now.requirements.entries.items))))
  where
    decide : (c.loop-n.n < length c.args.self.now.requirements.entries.items) ⊎ (length c.args.self.now.requirements.entries.items ≤ c.loop-n.n) →
        (length c.args.self.now.requirements.entries.items ≤ c.loop-n.n) ⊎ (length c.args.self.now.roots.items ≤ c.loop-n.n)
    decide (inl l) = inr (omega (arith, l, c.loop-n-test.false, c.len.ensures, c.len-2.ensures, c.min-count.ensures))
    decide (inr l) = inl l
