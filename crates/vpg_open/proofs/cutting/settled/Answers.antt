use Rattle.std.proofs.Common.{length, sym, ap, ◌∙◌, subst}
use Rattle.vpg_game.specs.Game.{NamedGame, AreSound, IsAtLimit, graph_of}
use Rattle.vpg_game.proofs.Graphs.{same_count}
use Rattle.vpg_open.specs.SettledGames.{HasSameWinners}
use Rattle.vpg_open.proofs.Entries.{settled_limited, settled_sound, is_settled, same_graph_length, settled_low}
use Rattle.vpg_open.proofs.SameWinners.{same_winners}
use Rattle.vpg_open.proofs.cutting.settled.Goals as goal

pub entries-requires : goal.entries-requires
entries-requires c = c.requires.length ∙ same_count c.args.game.now

pub of-requires : goal.of-requires
of-requires c =
    rw (c.features.ensures, c.in_ok-entries.ensures)
    (settled_limited c.args.game.now c.args.winners.now c.vertices-count.ensures.game c.requires.limit)

pub unreachable-requires : goal.unreachable-requires
unreachable-requires c =
    c.in_default.not-Memory (c.in-Err.ensures.only (subst AreSound (sym c.in_ok-entries.ensures)
    (settled_sound c.args.game.now c.args.winners.now c.vertices-count.ensures.game)))

pub returns-in-Ok-clause-made : goal.returns-in-Ok-clause-made
returns-in-Ok-clause-made c =
    is_settled c.args.game.now c.args.winners.now c.vertices-count.ensures.game c.in-Ok.made c.features.result
    c.in_ok-entries.entries.items c.features.ensures c.in_ok-entries.ensures c.in-Ok.ensures.made

pub returns-in-Ok-clause-vertices : goal.returns-in-Ok-clause-vertices
returns-in-Ok-clause-vertices c =
    ap (λ (g : NamedGame). length (graph_of g)) (returns-in-Ok-clause-made c)
    ∙ same_graph_length c.args.game.now c.args.winners.now

pub returns-in-Ok-clause-wins : goal.returns-in-Ok-clause-wins
returns-in-Ok-clause-wins c p right =
    subst (λ (g : NamedGame). HasSameWinners (graph_of c.args.game.now) (graph_of g) p)
    (sym (returns-in-Ok-clause-made c))
    (same_winners c.args.game.now c.args.winners.now p c.vertices-count.ensures.game
    (c.requires.length ∙ same_count c.args.game.now) right)

pub returns-in-Ok-clause-limit : goal.returns-in-Ok-clause-limit
returns-in-Ok-clause-limit c =
    subst (λ (g : NamedGame). IsAtLimit g → ⊥) (sym (returns-in-Ok-clause-made c))
    (settled_low c.args.game.now c.args.winners.now c.requires.limit)
