use Rattle.std.proofs.Common.{List, ℕ, length, sym, ap, subst, ◌∙◌}
use Rattle.vpg_labels.specs.Labels.{labels_from, start_told, SpellsNamed}
use Rattle.vpg_labels.specs.declared.labels.Mode.TheVariants.{Front}
use Rattle.vpg_labels.specs.Labelling.{labelled_text}
use Rattle.vpg_labels.proofs.Labelling.{text_ends, file_is, game_named}
use Rattle.vpg_labels.proofs.labels.with_labels.Goals as goal

pub returns-clause-labelled : goal.returns-clause-labelled
returns-clause-labelled c = λ features file well spelled.
    text_ends c.args.labels.now c.args.is_started c.loop-b.place.mode c.loop-b.place.v c.loop-b.b-index c.args.text.now c.loop-b.out.items _ c.loop-b-test.false c.loop-b.invariant.written
    ∙ ap (labelled_text c.args.labels.now c.args.is_started Front 0) spelled ∙ file_is c.args.labels.now c.args.is_started features file well

pub returns-clause-named : goal.returns-clause-named
returns-clause-named c = λ features game spells.
    subst (λ (t : List ℕ). SpellsNamed features t game (record { names = labels_from c.args.labels.now 0 (length game.vertices); start = start_told c.args.is_started }))
    (sym (text_ends c.args.labels.now c.args.is_started c.loop-b.place.mode c.loop-b.place.v c.loop-b.b-index c.args.text.now c.loop-b.out.items _ c.loop-b-test.false c.loop-b.invariant.written))
    (game_named c.args.labels.now c.args.is_started features c.args.text.now game spells)
