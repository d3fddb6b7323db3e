use Rattle.std.proofs.Common.{◌∙◌, List, sym, ap, append-nil}
use Rattle.vpg_trail.specs.Page.{Hopeful, Dual, table_of, Entry as Step}
use Rattle.vpg_trail.proofs.Replays.{table_more, read_below}
use Rattle.vpg_trail.proofs.replay.take_all.Goals as goal

pub loop-entry-init : goal.loop-entry-init
loop-entry-init c = record {
  hopeful_len = c.requires.hopeful_len;
  dual_len = c.requires.dual_len;
  hopeful = λ page e. e ∙ ap (λ (l : List Step). table_of Hopeful l c.args.vertices) (sym (append-nil page));
  dual = λ page e. e ∙ ap (λ (l : List Step). table_of Dual l c.args.vertices) (sym (append-nil page));
}

pub take_in-requires-clause-hopeful : goal.take_in-requires-clause-hopeful
take_in-requires-clause-hopeful c = read_below c.args.entries.now c.loop-entry.entry-index c.args.vertices _ c.entry-item.result c.loop-entry-test.true c.entry-item.is c.requires.below c.loop-entry.invariant.hopeful_len

pub take_in-requires-clause-dual : goal.take_in-requires-clause-dual
take_in-requires-clause-dual c = read_below c.args.entries.now c.loop-entry.entry-index c.args.vertices _ c.entry-item.result c.loop-entry-test.true c.entry-item.is c.requires.below c.loop-entry.invariant.dual_len

pub loop-entry-preserved : goal.loop-entry-preserved
loop-entry-preserved c = record {
  hopeful_len = c.take_in.ensures.hopeful_len ∙ c.loop-entry.invariant.hopeful_len;
  dual_len = c.take_in.ensures.dual_len ∙ c.loop-entry.invariant.dual_len;
  hopeful = λ page e. table_more Hopeful page c.args.entries.now c.loop-entry.entry-index c.args.vertices c.entry-item.result c.loop-entry.hopeful c.take_in.new.hopeful
      c.loop-entry-test.true c.entry-item.is (c.requires.below c.loop-entry.entry-index c.entry-item.result c.loop-entry-test.true) (c.loop-entry.invariant.hopeful page e) c.take_in.ensures.hopeful;
  dual = λ page e. table_more Dual page c.args.entries.now c.loop-entry.entry-index c.args.vertices c.entry-item.result c.loop-entry.dual c.take_in.new.dual
      c.loop-entry-test.true c.entry-item.is (c.requires.below c.loop-entry.entry-index c.entry-item.result c.loop-entry-test.true) (c.loop-entry.invariant.dual page e) c.take_in.ensures.dual;
}
