use Rattle.std.proofs.Common.{◌++◌, ◌∷◌, [], ℕ, List, length, map, codes, sym, ap, ◌∙◌}
use Rattle.std.proofs.lemmas.List.{length-map}
use Rattle.vpg_game.specs.Game.{NamedVertex, vertex_ids}
use Rattle.vpg_game.specs.Levels.{top_of}
use Rattle.vpg_trail.specs.Page.{literal_of}
use Rattle.vpg_texts.specs.Text.{answer_line, choices_text, vertex_lines}
use Rattle.vpg_texts.proofs.Counted.{three_parts}
use Rattle.vpg_texts.proofs.Pieces.{behind}
use Rattle.vpg_texts.proofs.Shown.{on_ok}
use Rattle.vpg_texts.proofs.text.page.Goals as goal

pub vertices-requires-clause-hopeful : goal.vertices-requires-clause-hopeful
vertices-requires-clause-hopeful c = c.requires.hopeful

pub vertices-requires-clause-dual : goal.vertices-requires-clause-dual
vertices-requires-clause-dual c = c.requires.dual

pub decided-requires : goal.decided-requires
decided-requires c = c.requires.decisions

pub returns : goal.returns
returns c =
    let ids = vertex_ids c.args.game.now.vertices in
    let choices = choices_text c.args.names.now (map literal_of c.args.ds.now) in
    let lines : ℕ → List ℕ = λ n. vertex_lines (top_of c.args.games.now.hopeful_levels) (top_of c.args.games.now.dual_levels) ids c.args.labels.now.names c.args.hopeful.now c.args.dual.now n in
    let full = answer_line c.args.full in
    let settled = answer_line c.args.settled in
    let old = c.args.out.now.items in
    let one = c.push.new.self.items in
    let two = c.answer.new.out.items in
    let three = c.answer-2.new.out.items in
    let decided = codes "decisions" ++ choices ++ 10 ∷ [] in
    on_ok c.vertices.result _ _
    (λ last. behind old three c.vertices.new.out.items (decided ++ codes "full" ++ full ++ codes "settled" ++ settled) (lines (length ids))
    (three_parts old two c.extend_from_slice-3.new.self.items three (decided ++ codes "full" ++ full) (codes "settled") settled
    (three_parts old one c.extend_from_slice-2.new.self.items two decided (codes "full") full
    (three_parts old c.extend_from_slice.new.self.items c.decided.new.out.items one (codes "decisions") choices (10 ∷ [])
    c.in_ok-extend_from_slice.ensures.items c.in_ok-decided.ensures c.in_ok-push.ensures.items) c.in_ok-extend_from_slice-2.ensures.items c.in_ok-answer.ensures)
    c.in_ok-extend_from_slice-3.ensures.items c.in_ok-answer-2.ensures)
    (last ∙ ap (λ (n : ℕ). three ++ lines n) (sym (length-map c.args.game.now.vertices (λ (v : NamedVertex). v.id)))))
    c.vertices.ensures
