use Rattle.std.proofs.Common.{rules, ℕ, List, ◌≡◌, ◌++◌, ◌∷◌, [], ◌∙◌, ap, sym, codes, length, refl, subst}
use Rattle.std.specs.Prelude.{slice_index_or, None, count_by, is_some}
use Rattle.std.proofs.lemmas.List.{length-map}
use Rattle.vpg_game.specs.Game.{NamedVertex, vertex_ids}
use Rattle.vpg_texts.specs.Text.{blank_number, plan_line, plan_lines}
use Rattle.vpg_texts.proofs.Counted.{three_parts}
use Rattle.vpg_texts.proofs.Pieces.{behind, line_more, reached}
use Rattle.vpg_texts.proofs.text.plan.Goals as goal

pub loop-v-preserved : goal.loop-v-preserved
loop-v-preserved c =
    let ids = vertex_ids c.args.game.now.vertices in
    let chosen = c.args.chosen.now in
    let v = c.loop-v.v in
    line_more (λ (n : ℕ). plan_lines ids c.args.labels.now.names chosen n) v (plan_line ids c.args.labels.now.names v (slice_index_or chosen v None)) refl c.args.out.now.items c.loop-v.out.items c.plan_line.new.out.items c.loop-v.invariant c.in_ok-plan_line.ensures

pub returns : goal.returns
returns c =
    let ids = vertex_ids c.args.game.now.vertices in
    let chosen = c.args.chosen.now in
    let number = c.blank_number.new.out.items in
    let word = c.extend_from_slice.new.self.items in
    let lines : ℕ → List ℕ = λ n. plan_lines ids c.args.labels.now.names chosen n in
    let numbered : number ≡ word ++ blank_number (count_by is_some chosen) = c.in_ok-blank_number.ensures ∙ ap (λ (n : ℕ). word ++ blank_number n) (search rules) in
    behind c.args.out.now.items number c.push.new.self.items (lines (length ids) ++ codes "plans" ++ blank_number (count_by is_some chosen)) (10 ∷ [])
    (three_parts c.args.out.now.items c.loop-v.out.items word number (lines (length ids)) (codes "plans") (blank_number (count_by is_some chosen))
    (subst (λ (n : ℕ). c.loop-v.out.items ≡ c.args.out.now.items ++ lines n)
    (reached c.loop-v.v c.vertices-count.result (length ids) c.loop-v.auto.v-end c.loop-v-test.false (c.vertices-count.ensures.count ∙ sym (length-map c.args.game.now.vertices (λ (v : NamedVertex). v.id)))) c.loop-v.invariant)
    c.in_ok-extend_from_slice.ensures.items numbered) c.in_ok-push.ensures.items
