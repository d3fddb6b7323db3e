use Rattle.std.proofs.Common.{◌≡◌, ◌∙◌, true, false, length, refl, sym, replicate}
use Rattle.vpg_measure.specs.Games.{games_arena, games_levels}
use Rattle.vpg_why.proofs.Starts.{moved, moved_below}
use Rattle.vpg_why.proofs.Tops.{low_shown, rounds_settle, settles_from_zeros, top_not_reached, top_refuted, top_shown, value_there, zeros_below, zeros_fit}
use Rattle.vpg_why.proofs.Distinct.{yes_no, yes_unsettled, no_yes, no_unsettled, unsettled_yes, unsettled_no}
use Rattle.vpg_why.proofs.asking.is_top_within.Goals as goal

pub raise-requires : goal.raise-requires
raise-requires c = moved c.shape-shape.result.now (games_levels c.args.which c.args.games.now) c.arena-arena.result.now (games_arena c.args.which c.args.games.now) c.in_ok-table.table c.shape-shape.ensures c.arena-arena.ensures c.in_ok-table.ensures.table

pub get-requires : goal.get-requires
get-requires c =
    value_there c.args.order.now.game c.args.which c.args.games.now.known c.shape-shape.result.now c.arena-arena.result.now (c.shape-shape.ensures ∙ c.requires.games.1.levels c.args.which) (c.arena-arena.ensures ∙ c.requires.games.1.arena c.args.which)
    c.in_ok-table.table (moved c.shape-shape.result.now (games_levels c.args.which c.args.games.now) c.arena-arena.result.now (games_arena c.args.which c.args.games.now) c.in_ok-table.table c.shape-shape.ensures c.arena-arena.ensures c.in_ok-table.ensures.table) c.args.vertex c.requires.vertex

pub get-requires-2 : goal.get-requires-2
get-requires-2 c =
    value_there c.args.order.now.game c.args.which c.args.games.now.known c.shape-shape.result.now c.arena-arena.result.now (c.shape-shape.ensures ∙ c.requires.games.1.levels c.args.which) (c.arena-arena.ensures ∙ c.requires.games.1.arena c.args.which)
    c.raise.new.table c.raise.ensures.table c.args.vertex c.requires.vertex

pub returns-then-get-top-clause-yes : goal.returns-then-get-top-clause-yes
returns-then-get-top-clause-yes c e =
    top_shown c.args.order.now.game c.args.which c.args.games.now.known c.shape-shape.result.now c.arena-arena.result.now (c.shape-shape.ensures ∙ c.requires.games.1.levels c.args.which) (c.arena-arena.ensures ∙ c.requires.games.1.arena c.args.which)
    c.in_ok-table.table (moved c.shape-shape.result.now (games_levels c.args.which c.args.games.now) c.arena-arena.result.now (games_arena c.args.which c.args.games.now) c.in_ok-table.table c.shape-shape.ensures c.arena-arena.ensures c.in_ok-table.ensures.table) c.args.vertex c.requires.vertex
    (moved_below c.shape-shape.result.now (games_levels c.args.which c.args.games.now) c.arena-arena.result.now (games_arena c.args.which c.args.games.now) c.in_ok-table.table c.shape-shape.ensures c.arena-arena.ensures c.in_ok-table.ensures.below)
    (sym c.get.ensures ∙ c.if-get-top.true ∙ c.top.ensures.top)

pub returns-then-get-top-2-clause-yes : goal.returns-then-get-top-2-clause-yes
returns-then-get-top-2-clause-yes c e =
    top_shown c.args.order.now.game c.args.which c.args.games.now.known c.shape-shape.result.now c.arena-arena.result.now (c.shape-shape.ensures ∙ c.requires.games.1.levels c.args.which) (c.arena-arena.ensures ∙ c.requires.games.1.arena c.args.which)
    c.raise.new.table c.raise.ensures.table c.args.vertex c.requires.vertex
    (λ other t p. c.raise.ensures.below other t p (moved_below c.shape-shape.result.now (games_levels c.args.which c.args.games.now) c.arena-arena.result.now (games_arena c.args.which c.args.games.now) c.in_ok-table.table c.shape-shape.ensures c.arena-arena.ensures c.in_ok-table.ensures.below other t p))
    (sym c.get-2.ensures ∙ c.if-get-top-2.true ∙ c.top-2.ensures.top)

pub returns-then-settled-clause-no : goal.returns-then-settled-clause-no
returns-then-settled-clause-no c e =
    top_refuted c.args.order.now.game c.args.which c.args.games.now.known c.shape-shape.result.now c.arena-arena.result.now (c.shape-shape.ensures ∙ c.requires.games.1.levels c.args.which) (c.arena-arena.ensures ∙ c.requires.games.1.arena c.args.which)
    c.raise.new.table c.raise.ensures.table c.args.vertex c.requires.vertex
    (c.in_ok-settled.ensures.settled.0 c.if-settled.true) (λ h. c.if-get-top-2.false (c.get-2.ensures ∙ h ∙ sym c.top-2.ensures.top))

pub returns-then-settled-clause-low : goal.returns-then-settled-clause-low
returns-then-settled-clause-low c e =
    low_shown c.args.order.now.game c.args.which c.args.games.now.known c.shape-shape.result.now c.arena-arena.result.now (c.shape-shape.ensures ∙ c.requires.games.1.levels c.args.which) (c.arena-arena.ensures ∙ c.requires.games.1.arena c.args.which)
    c.raise.new.table c.raise.ensures.table c.args.vertex c.requires.vertex
    (c.in_ok-settled.ensures.settled.0 c.if-settled.true) (λ h. c.if-get-top-2.false (c.get-2.ensures ∙ h ∙ sym c.top-2.ensures.top))

pub returns-then-settled-clause-raised : goal.returns-then-settled-clause-raised
returns-then-settled-clause-raised c h = absurd (top_not_reached c.args.order.now.game c.args.which c.args.games.now.known c.shape-shape.result.now c.arena-arena.result.now (c.shape-shape.ensures ∙ c.requires.games.1.levels c.args.which) (c.arena-arena.ensures ∙ c.requires.games.1.arena c.args.which)
    c.raise.new.table c.raise.ensures.table c.args.vertex c.requires.vertex c.args.limits.rounds c.in_ok-table.table (moved c.shape-shape.result.now (games_levels c.args.which c.args.games.now) c.arena-arena.result.now (games_arena c.args.which c.args.games.now) c.in_ok-table.table c.shape-shape.ensures c.arena-arena.ensures c.in_ok-table.ensures.table) c.in_ok-settled.ensures.above (λ k. c.if-get-top-2.false (c.get-2.ensures ∙ k ∙ sym c.top-2.ensures.top)) h)

pub returns-clause-raised : goal.returns-clause-raised
returns-clause-raised c h = absurd (top_not_reached c.args.order.now.game c.args.which c.args.games.now.known c.shape-shape.result.now c.arena-arena.result.now (c.shape-shape.ensures ∙ c.requires.games.1.levels c.args.which) (c.arena-arena.ensures ∙ c.requires.games.1.arena c.args.which)
    c.raise.new.table c.raise.ensures.table c.args.vertex c.requires.vertex c.args.limits.rounds c.in_ok-table.table (moved c.shape-shape.result.now (games_levels c.args.which c.args.games.now) c.arena-arena.result.now (games_arena c.args.which c.args.games.now) c.in_ok-table.table c.shape-shape.ensures c.arena-arena.ensures c.in_ok-table.ensures.table) c.in_ok-settled.ensures.above (λ k. c.if-get-top-2.false (c.get-2.ensures ∙ k ∙ sym c.top-2.ensures.top)) h)

pub returns-clause-settled : goal.returns-clause-settled
returns-clause-settled c s e = clash (sym (c.in_ok-settled.ensures.rounds
    (rounds_settle c.shape-shape.result.now c.arena-arena.result.now c.args.limits.rounds (replicate (length c.arena-arena.result.now) 0) c.in_ok-table.table (zeros_fit c.shape-shape.result.now c.arena-arena.result.now (replicate (length c.arena-arena.result.now) 0) refl) (moved c.shape-shape.result.now (games_levels c.args.which c.args.games.now) c.arena-arena.result.now (games_arena c.args.which c.args.games.now) c.in_ok-table.table c.shape-shape.ensures c.arena-arena.ensures c.in_ok-table.ensures.table) (zeros_below c.shape-shape.result.now c.arena-arena.result.now c.in_ok-table.table (moved c.shape-shape.result.now (games_levels c.args.which c.args.games.now) c.arena-arena.result.now (games_arena c.args.which c.args.games.now) c.in_ok-table.table c.shape-shape.ensures c.arena-arena.ensures c.in_ok-table.ensures.table))
    (λ other t p above. moved_below c.shape-shape.result.now (games_levels c.args.which c.args.games.now) c.arena-arena.result.now (games_arena c.args.which c.args.games.now) c.in_ok-table.table c.shape-shape.ensures c.arena-arena.ensures c.in_ok-table.ensures.below other t p)
    (settles_from_zeros c.args.limits.rounds c.args.order.now.game c.args.which c.args.games.now.known c.shape-shape.result.now c.arena-arena.result.now (c.shape-shape.ensures ∙ c.requires.games.1.levels c.args.which) (c.arena-arena.ensures ∙ c.requires.games.1.arena c.args.which) s))) ∙ c.if-settled.false)
  where
    clash : true ≡ false → ⊥
    clash x = cc

pub returns-clause-yes : goal.returns-clause-yes
returns-clause-yes c e = absurd (unsettled_yes e)

pub returns-then-settled-clause-yes : goal.returns-then-settled-clause-yes
returns-then-settled-clause-yes c e = absurd (no_yes e)

pub returns-clause-no : goal.returns-clause-no
returns-clause-no c e = absurd (unsettled_no e)

pub returns-then-settled-clause-settled : goal.returns-then-settled-clause-settled
returns-then-settled-clause-settled c s e = no_unsettled e

pub returns-then-get-top-clause-no : goal.returns-then-get-top-clause-no
returns-then-get-top-clause-no c e = absurd (yes_no e)

pub returns-then-get-top-clause-settled : goal.returns-then-get-top-clause-settled
returns-then-get-top-clause-settled c s e = yes_unsettled e

pub returns-clause-low : goal.returns-clause-low
returns-clause-low c e = absurd (unsettled_no e)

pub returns-then-get-top-clause-low : goal.returns-then-get-top-clause-low
returns-then-get-top-clause-low c e = absurd (yes_no e)

pub returns-then-get-top-2-clause-no : goal.returns-then-get-top-2-clause-no
returns-then-get-top-2-clause-no c e = absurd (yes_no e)

pub returns-then-get-top-2-clause-settled : goal.returns-then-get-top-2-clause-settled
returns-then-get-top-2-clause-settled c s e = yes_unsettled e

pub returns-then-get-top-2-clause-low : goal.returns-then-get-top-2-clause-low
returns-then-get-top-2-clause-low c e = absurd (yes_no e)
