use Rattle.std.proofs.Common.{sym, subst, List, Option, ℕ, ◌<◌, length, All, map}
use Rattle.std.specs.Prelude.{IfSome}
use Rattle.vpg_game.proofs.Graphs.{games_have_graphs}
use Rattle.vpg_sides.specs.declared.which.Which.TheVariants.{Hopeful, Dual}
use Rattle.vpg_partial.specs.Known.{literal_of}
use Rattle.vpg_texts.proofs.Planned.{chosen_count, chosen_within, chosen_are, planned, planned_wins}
use Rattle.vpg_texts.proofs.Settled.{table_of_games}
use Rattle.vpg_texts.proofs.showing.plans.plan.Goals as goal

pub choices-requires-clause-hopeful : goal.choices-requires-clause-hopeful
choices-requires-clause-hopeful c =
    table_of_games c.args.game.now c.args.diagram.now (map literal_of c.args.page.now.decisions) c.args.games.now c.requires.games Hopeful c.args.page.now.hopeful c.requires.hopeful c.requires.hopeful_within

pub choices-requires-clause-dual : goal.choices-requires-clause-dual
choices-requires-clause-dual c =
    table_of_games c.args.game.now c.args.diagram.now (map literal_of c.args.page.now.decisions) c.args.games.now c.requires.games Dual c.args.page.now.dual c.requires.dual c.requires.dual_within

pub plan-requires-clause-len : goal.plan-requires-clause-len
plan-requires-clause-len c =
    let hopeful = c.args.page.now.hopeful in
    let chosen = c.in-Some.chosen.items in
    rw c.deref.ensures.value (chosen_count c.args.game.now c.args.games.now.known hopeful chosen
    (chosen_are c.args.labels.now.names c.args.game.now c.args.diagram.now c.args.page.now.decisions c.args.games.now c.requires.games hopeful chosen (rw c.in-Some.is at c.in_ok-chosen.ensures.chosen)))

pub plan-requires-clause-below : goal.plan-requires-clause-below
plan-requires-clause-below c =
    let game = c.args.game.now in
    let hopeful = c.args.page.now.hopeful in
    let chosen = c.in-Some.chosen.items in
    subst (λ (ws : List (Option ℕ)). All (λ w. IfSome w (λ v. v < length game.vertices)) ws) (sym c.deref.ensures.value)
    (chosen_within game c.args.games.now.known hopeful chosen (chosen_are c.args.labels.now.names game c.args.diagram.now c.args.page.now.decisions c.args.games.now c.requires.games hopeful chosen (rw c.in-Some.is at c.in_ok-chosen.ensures.chosen))
    (games_have_graphs game c.requires.games.is_game).closed)

pub returns-clause-planned : goal.returns-clause-planned
returns-clause-planned c =
    let page = c.args.page.now in (
      c.plan.new.out.items,
      (
        planned c.args.labels.now.names c.args.game.now c.args.diagram.now page.decisions c.args.games.now c.requires.games page.hopeful page.dual c.requires.hopeful c.requires.dual c.requires.hopeful_within c.requires.dual_within
            (rw c.known.ensures at (c.is_full.ensures.known.0 c.if-not-is_full.false)) (rw c.in-Some.is at c.in_ok-chosen.ensures.settled) c.in-Some.chosen.items c.plan.new.out.items
            (rw c.in-Some.is at c.in_ok-chosen.ensures.chosen) (rw (c.new-text.ensures.items, c.deref.ensures.value) at c.in_ok-plan.ensures),
        rw c.deref-2.ensures.value at c.in_ok-extend_from_slice.ensures.items,
      ),
    )

pub returns-clause-wins : goal.returns-clause-wins
returns-clause-wins c =
    let page = c.args.page.now in
    planned_wins c.args.labels.now.names c.args.game.now c.args.diagram.now page.decisions c.args.games.now c.requires.games page.hopeful page.dual c.requires.hopeful c.requires.dual c.requires.hopeful_within c.requires.dual_within
    (rw c.known.ensures at (c.is_full.ensures.known.0 c.if-not-is_full.false)) (rw c.in-Some.is at c.in_ok-chosen.ensures.settled) c.requires.features c.requires.named
