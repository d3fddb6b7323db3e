use Rattle.std.proofs.Common.{◌≡◌, length, sym, ◌∙◌, arith}
use Rattle.std.proofs.lemmas.List.{length-map}
use Rattle.std.proofs.lemmas.List.Elements.{All-from_recursion}
use Rattle.vpg_texts.proofs.Shown.{on_ok}
use Rattle.vpg_texts.specs.Scene.{scene_of}
use Rattle.vpg_why.specs.Explained.{choices}
use Rattle.vpg_winners.specs.Numbered.{HasItsNumber}
use Rattle.vpg_winners.specs.Winners.{view_of, views}
use Rattle.vpg_looks.specs.Answers.{TellsWinners}
use Rattle.vpg_looks.proofs.Parting.{parts_named, told_winners}
use Rattle.vpg_looks.proofs.Told.{told_done}
use Rattle.vpg_looks.proofs.winners.partition.Goals as goal

pub each-requires-clause-named : goal.each-requires-clause-named
each-requires-clause-named c =
    rw c.deref.ensures.value
    (parts_named c.args.order.now.diagram.lines (choices c.args.order.now.decisions) c.in_ok-parts.parts.items c.in_ok-parts.ensures.«open»)

pub each-requires-clause-numbers : goal.each-requires-clause-numbers
each-requires-clause-numbers c =
    rw c.deref.ensures.value
    (All-from_recursion (HasItsNumber c.args.order.now.diagram.lines (choices c.args.order.now.decisions)) c.in_ok-parts.parts.items c.in_ok-parts.ensures.numbers)

pub returns : goal.returns
returns c =
    let order = c.args.order.now in
    let labels = c.args.labels.now.names in
    let found = c.in_ok-parts.ensures in
    let parts = c.in_ok-parts.parts.items in
    let number : c.len.result ≡ length (views parts) = omega (arith, c.len.ensures, c.in_ok-parts.parts.ok.0) ∙ sym (length-map parts view_of) in
    told_done (TellsWinners (scene_of labels order.game order.diagram) c.args.limits c.args.vertex order.decisions)
    c.totals.result c.done.result c.done.ensures c.args.out.now.items c.totals.new.out.items
    (on_ok c.totals.result _ _
    (told_winners labels order c.args.limits c.args.vertex (views parts) c.args.out.now.items c.each.new.out.items c.totals.new.out.items
    (record {
      partition = found.partition;
      exact = found.exact;
      some = found.some;
      cut_out = found.«open»;
      joined = found.joined;
      rule = found.rule;
      settled = λ r. found.settled (record { hopeful = r.hopeful; dual = r.dual; most = r.most; are_open = r.are_open; trials = r.trials });
    })
    (rw (c.looks_each-looks.ensures, number, c.deref.ensures.value) at c.in_ok-each.ensures))
    (rw (c.identifier-identifier.ensures, c.name.ensures, c.deref-2.ensures.value) at c.totals.ensures))
