use Rattle.std.proofs.Common.{◌≡◌, ◌++◌, ℕ, ap, ◌∙◌, subst}
use Rattle.std.specs.Prelude.{OnOk, codes}
use Rattle.vpg_game.specs.Levels.{top_of}
use Rattle.vpg_texts.specs.Text.{count_lines, state_lines, count_text}
use Rattle.vpg_texts.proofs.Shown.{on_ok}
use Rattle.vpg_texts.proofs.Counted.{three_parts}
use Rattle.vpg_texts.proofs.text.count.Goals as goal

pub returns : goal.returns
returns c =
    let hopeful = c.args.hopeful.now in
    let dual = c.args.dual.now in
    let first = c.top-hopeful_top.result in
    let second = c.top-dual_top.result in
    subst (λ (top : ℕ). OnOk c.state_lines.result (c.state_lines.new.out.items ≡ c.args.out.now.items ++ count_text top (top_of c.args.games.now.dual_levels) c.args.full c.args.settled c.args.mark.now hopeful dual)) (c.top-hopeful_top.ensures.top ∙ ap top_of c.shape.ensures)
    (subst (λ (top : ℕ). OnOk c.state_lines.result (c.state_lines.new.out.items ≡ c.args.out.now.items ++ count_text first top c.args.full c.args.settled c.args.mark.now hopeful dual)) (c.top-dual_top.ensures.top ∙ ap top_of c.shape-2.ensures)
    (on_ok c.state_lines.result _ _ (λ last. three_parts c.args.out.now.items c.count_lines.new.out.items c.count_lines-2.new.out.items c.state_lines.new.out.items
    (count_lines (codes "hopeless") (codes "possible") first hopeful) (count_lines (codes "sure") (codes "unsure") second dual) (state_lines c.args.settled c.args.full c.args.mark.now)
    c.in_ok-count_lines.ensures c.in_ok-count_lines-2.ensures last) c.state_lines.ensures))
