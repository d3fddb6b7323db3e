use Rattle.std.proofs.Common.{List, ap, sym, ◌∙◌}
use Rattle.vpg_game.specs.Levels.{top_of}
use Rattle.vpg_game.specs.declared.levels.Level.{Level}
use Rattle.vpg_why.specs.Explained.{choices}
use Rattle.vpg_why.proofs.Beside.{named_one}
use Rattle.vpg_why.proofs.Ahead.{stays_after}
use Rattle.vpg_why.proofs.Distinct.{no_yes, no_unsettled}
use Rattle.vpg_why.proofs.foreseeing.verdict_after.Goals as goal

pub returns-then-get-top-clause-shown : goal.returns-then-get-top-clause-shown
returns-then-get-top-clause-shown c =
    stays_after c.args.order.now c.table.ensures.order c.args.limits c.args.which c.args.vertex c.args.choice c.requires.vertex
    (sym (rw c.table.ensures.table at c.get.ensures) ∙ c.if-get-top.true ∙ c.top.ensures.top ∙ ap (λ (s : List Level). top_of s) c.shape.ensures)

pub returns-then-is_among-clause-shown : goal.returns-then-is_among-clause-shown
returns-then-is_among-clause-shown c = record {
  yes = λ e. absurd (no_yes e);
  no = λ e enough. c.requires.spared c.args.choice (c.is_among.ensures c.if-is_among.true) enough;
  settled = λ s e. no_unsettled e;
}

pub verdict_shown-requires-clause-named : goal.verdict_shown-requires-clause-named
verdict_shown-requires-clause-named c = rw (c.deref.ensures.value, c.in_ok-more.ensures, c.decisions.ensures.decisions)
    (named_one c.args.order.now.diagram.lines (choices c.args.order.now.decisions) c.args.choice c.decisions.ensures.order.named c.requires.feature)

pub returns-clause-shown : goal.returns-clause-shown
returns-clause-shown c = record {
  yes = rw (c.deref.ensures.value, c.in_ok-more.ensures, c.decisions.ensures.decisions) at c.in_ok-shown.ensures.yes;
  no = rw (c.deref.ensures.value, c.in_ok-more.ensures, c.decisions.ensures.decisions) at c.in_ok-shown.ensures.no;
  settled = rw (c.deref.ensures.value, c.in_ok-more.ensures, c.decisions.ensures.decisions) at c.in_ok-shown.ensures.settled;
}
