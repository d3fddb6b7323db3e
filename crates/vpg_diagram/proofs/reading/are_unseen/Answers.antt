use Rattle.std.proofs.Common.{ℕ, List, [], Bor, is_some, sym, ap, ◌∙◌}
use Rattle.vpg_diagram.proofs.ReadCodeLemmas.{place_is, is_named, is_seen, seen_more, rest_more}
use Rattle.vpg_diagram.proofs.reading.are_unseen.Goals as goal

abbrev no_word : Bor (List ℕ)
no_word = record { ref_ptr = (0, 0); now = [] }

pub returns-then-is_some : goal.returns-then-is_some
returns-then-is_some c =
    is_named c.args.names.now c.args.words.now c.loop-word.word-index no_word c.loop-word-test.true c.loop-word.invariant.rest
    (ap is_some (sym (c.get.ensures.index ∙ place_is c.args.names.now _)) ∙ (sym c.is_some.ensures ∙ c.if-is_some.true))

pub returns-then-not-branch : goal.returns-then-not-branch
returns-then-not-branch c =
    is_seen c.args.names.now c.args.words.now c.loop-word.word-index no_word c.loop-word-test.true c.loop-word.invariant.rest
    c.loop-word.seen.keys c.loop-word.invariant.seen c.in_ok-insert.field-0 c.in_ok-insert.ensures.added c.if-not-branch.true

pub loop-word-preserved : goal.loop-word-preserved
loop-word-preserved c = record {
  seen = seen_more c.args.names.now c.args.words.now c.loop-word.word-index no_word c.loop-word-test.true c.loop-word.invariant.rest
      c.loop-word.seen.keys c.insert.new.self.keys c.loop-word.invariant.seen c.in_ok-insert.field-0 c.in_ok-insert.ensures.added c.if-not-branch.false c.in_ok-insert.ensures.keys;
  rest = rest_more c.args.names.now c.args.words.now c.loop-word.word-index no_word c.loop-word-test.true c.loop-word.invariant.rest
      c.loop-word.seen.keys c.loop-word.invariant.seen c.in_ok-insert.field-0 c.in_ok-insert.ensures.added c.if-not-branch.false
      (ap is_some (sym (c.get.ensures.index ∙ place_is c.args.names.now _)) ∙ (sym c.is_some.ensures ∙ c.if-is_some.false));
}
