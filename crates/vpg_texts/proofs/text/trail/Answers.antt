use Rattle.std.proofs.Common.{length, ◌++◌, ◌∷◌, [], ℕ, List, map, refl, sym, ap, ◌∙◌, codes}
use Rattle.vpg_texts.proofs.Reading.{read_within}
use Rattle.vpg_texts.proofs.Counted.{three_parts}
use Rattle.std.specs.Prelude.{flat_map}
use Rattle.std.proofs.lemmas.List.{length-map}
use Rattle.vpg_game.specs.Game.{vertex_ids}
use Rattle.vpg_trail.specs.Shown.{entry_of}
use Rattle.vpg_trail.specs.declared.entry.Entry.{Entry}
use Rattle.vpg_texts.specs.Text.{blank_number, entry_line}
use Rattle.vpg_texts.proofs.Pieces.{all_written, behind, piece_more}
use Rattle.vpg_texts.proofs.text.trail.Goals as goal

pub entry-requires : goal.entry-requires
entry-requires c =
    read_within (length c.args.names.now) (length c.args.game.now.vertices) c.args.entries.now c.loop-e.e-index c.e-item.result c.requires c.loop-e-test.true c.e-item.is

pub loop-e-preserved : goal.loop-e-preserved
loop-e-preserved c =
    let line = entry_line c.args.names.now (vertex_ids c.args.game.now.vertices) c.args.labels.now.names in
    piece_more (λ (es : List Entry). flat_map line (map entry_of es)) (λ (e : Entry). line (entry_of e)) refl (λ e es. refl) c.args.entries.now c.loop-e.e-index c.e-item.result
    c.args.out.now.items c.loop-e.out.items c.entry.new.out.items c.loop-e-test.true c.loop-e.invariant
    (c.in_ok-entry.ensures ∙ ap (λ (e : Entry). c.loop-e.out.items ++ line (entry_of e)) c.e-item.is)

pub returns : goal.returns
returns c =
    let line = entry_line c.args.names.now (vertex_ids c.args.game.now.vertices) c.args.labels.now.names in
    let entries = c.args.entries.now in
    let text : List Entry → List ℕ = λ es. flat_map line (map entry_of es) in
    let word = c.extend_from_slice.new.self.items in
    let number = c.blank_number.new.out.items in
    let count : ℕ → List ℕ = λ n. blank_number n in
    behind c.args.out.now.items number c.push.new.self.items (text entries ++ codes "entries" ++ count (length (map entry_of entries))) (10 ∷ [])
    (three_parts c.args.out.now.items c.loop-e.out.items word number (text entries) (codes "entries") (count (length (map entry_of entries)))
    (all_written text entries c.loop-e.e-index c.args.out.now.items c.loop-e.out.items c.loop-e-test.false c.loop-e.invariant) c.in_ok-extend_from_slice.ensures.items
    (c.in_ok-blank_number.ensures ∙ ap (λ (n : ℕ). word ++ count n) (sym (length-map entries entry_of)))) c.in_ok-push.ensures.items
