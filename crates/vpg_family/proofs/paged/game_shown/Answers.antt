use Rattle.std.proofs.Common.{ℕ, ◌<◌, All, sym, subst}
use Rattle.vpg_family.proofs.paged.game_shown.Goals as goal

pub draw_game-requires-clause-decisions : goal.draw_game-requires-clause-decisions
draw_game-requires-clause-decisions c =
    subst (λ (n : ℕ). All (λ d. d.feature < n) c.args.decisions.now) (sym c.requires.features) c.requires.decisions
