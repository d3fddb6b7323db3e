-- No vertex is won by both players, in one product or in each product left; and none is won where no product is left.
use Rattle.std.proofs.Common.{◌≡◌, ◌≢◌, ℕ, Bool, List, refl}
use Rattle.vpg_sides.specs.declared.player.Player.{Player}
use Rattle.vpg_sides.specs.declared.player.Player.TheVariants.{Even, Odd}
use Rattle.vpg_guards.specs.Formula.{truth}
use Rattle.vpg_diagram.specs.declared.clause.Literal.{Literal}
use Rattle.vpg_hope.specs.Hope.{product_game}
use Rattle.vpg_hope.proofs.Both.{not_both}
use Rattle.vpg_texts.specs.Scene.{Scene}
use Rattle.vpg_why.specs.declared.question.Limits.{Limits}
use Rattle.vpg_winners.specs.Decided.{HasRemaining, NoneRemains, WinsEach, WinsProduct}
use Rattle.vpg_looks.specs.Offers.{IsFact, WinsSome}
use Rattle.vpg_looks.specs.declared.offers.Fact.{Fact}
use Rattle.vpg_looks.specs.declared.offers.Fact.TheVariants as facts

module _ (scene : Scene) (chosen : List Literal) (vertex : ℕ) where
  abbrev Each : Player → Type 0
  Each player = WinsEach scene.game scene.lines chosen player vertex

  pub both_win : (set : List Bool) → WinsProduct scene.game Even vertex set → WinsProduct scene.game Odd vertex set → ⊥
  both_win set s t = not_both (product_game (truth set) scene.game) s.0 t.0 vertex s.1 t.1

  pub one_each : HasRemaining scene.lines chosen → Each Even → Each Odd → ⊥
  one_each some even odd = both_win some.0 (even some.0 some.1) (odd some.0 some.1)

  pub no_odd : Each Even → WinsSome scene chosen Odd vertex → ⊥
  no_odd even odd = both_win odd.0 (even odd.0 odd.1) odd.2

  pub no_even : Each Odd → WinsSome scene chosen Even vertex → ⊥
  no_even odd even = both_win even.0 even.2 (odd even.0 even.1)

  pub some_left : HasRemaining scene.lines chosen → NoneRemains scene.lines chosen → ⊥
  some_left some none = none some.0 some.1

  pub wins_left : (player : Player) → WinsSome scene chosen player vertex → NoneRemains scene.lines chosen → ⊥
  wins_left player some none = none some.0 some.1

  -- there is one fact, unless a limit was met
  pub fact_one : (limits others : Limits) (a b : Fact) → IsFact scene limits vertex chosen a → IsFact scene others vertex chosen b →
      a ≢ facts.Unsettled → b ≢ facts.Unsettled → a ≡ b
  fact_one limits others facts.Won facts.Won x y s t = refl
  fact_one limits others facts.Lost facts.Lost x y s t = refl
  fact_one limits others facts.Mixed facts.Mixed x y s t = refl
  fact_one limits others facts.Empty facts.Empty x y s t = refl
  fact_one limits others a b x y s t = absurd (search (one_each, no_odd, no_even, some_left, wins_left Even, wins_left Odd))
