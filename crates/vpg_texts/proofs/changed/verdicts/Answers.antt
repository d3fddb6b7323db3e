use Rattle.std.proofs.Common.{◌≡◌, ◌++◌, ◌∷◌, [], ℕ, List, length, sym, ap₂, ◌∙◌, subst, add-one}
use Rattle.vpg_game.specs.Levels.{top_of}
use Rattle.vpg_sides.specs.declared.verdict.Verdict.{Verdict}
use Rattle.vpg_texts.specs.Changed.{verdicts_below}
use Rattle.vpg_texts.proofs.Pieces.{reached}
use Rattle.vpg_texts.proofs.changed.verdicts.Goals as goal

pub loop-v-preserved : goal.loop-v-preserved
loop-v-preserved c =
    subst (λ (n : ℕ). c.push.new.self.items ≡ verdicts_below (top_of c.args.games.now.hopeful_levels) (top_of c.args.games.now.dual_levels) c.args.hopeful.now c.args.dual.now n) (sym (add-one c.loop-v.v))
    (c.in_ok-push.ensures.items ∙ ap₂ (λ (vs : List Verdict) (v : Verdict). vs ++ v ∷ []) c.loop-v.invariant c.verdict.ensures)

pub returns : goal.returns
returns c =
    subst (λ (n : ℕ). c.loop-v.verdicts.items ≡ verdicts_below (top_of c.args.games.now.hopeful_levels) (top_of c.args.games.now.dual_levels) c.args.hopeful.now c.args.dual.now n)
    (reached c.loop-v.v c.vertices-count.result (length c.args.game.now.vertices) c.loop-v.auto.v-end c.loop-v-test.false c.vertices-count.ensures.count) c.loop-v.invariant
