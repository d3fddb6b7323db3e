use Rattle.std.proofs.Common.{map, sym, subst, arith}
use Rattle.std.proofs.lemmas.List.{length-map}
use Rattle.vpg_game.specs.Game.{NamedGame, graph_of, vertex_ids, priorities_of}
use Rattle.vpg_model.specs.Pairs.{pair_for, IsPairGame, AreNumbered, AreWithin}
use Rattle.vpg_model.proofs.Made.{are_entries, made, game_refused, game_numbered, game_within}
use Rattle.vpg_model.proofs.Situated.{game_of_parts}
use Rattle.vpg_model.proofs.Search.{none_distinct, roots_refused, refused_more, start_are}
use Rattle.std.proofs.lemmas.Result.{err_from_is_err_and}
use Rattle.vpg_model.proofs.building.build.Goals as goal

pub entries-requires-clause-small : goal.entries-requires-clause-small
entries-requires-clause-small c = c.in_ok-roots.ensures.placed.room (omega (arith, c.new-pairs.ensures.len))

pub entries-requires-clause-distinct : goal.entries-requires-clause-distinct
entries-requires-clause-distinct c = c.in_ok-roots.ensures.placed.grown.distinct (none_distinct _ c.new-pairs.ensures.len)

pub returns-in_err-roots-clause-refused : goal.returns-in_err-roots-clause-refused
returns-in_err-roots-clause-refused c =
    let p = err_from_is_err_and c.from_residual.result c.from_residual.ensures.1 in
    rw (p.1, p.2) (roots_refused c.args.source.now.states.items c.args.source.now.sets.items c.args.source.now.parts.items _ _ _ c.in_err-roots.field-0.0 c.new-pairs.ensures.len c.in_err-roots.ensures.refused)

pub returns-in_err-entries-clause-refused : goal.returns-in_err-entries-clause-refused
returns-in_err-entries-clause-refused c =
    let p = err_from_is_err_and c.from_residual-in_err-entries.result c.from_residual-in_err-entries.ensures.1 in
    rw (p.1, p.2) (refused_more c.args.source.now.states.items c.args.source.now.sets.items c.args.source.now.parts.items _ _ c.in_err-entries.field-0.0
    (start_are _ _ _ c.new-pairs.ensures.len c.in_ok-roots.ensures.placed.grown) c.in_err-entries.ensures.refused)

pub game_of-requires : goal.game_of-requires
game_of-requires c = are_entries c.args.source.now.states.items c.args.source.now.sets.items c.args.source.now.parts.items c.args.source.now.features c.requires.few_features c.requires.guards _ _ _ _ _ _ _
    (omega (arith, c.requires.some, length-map c.args.roots.now (pair_for c.args.source.now.parts.items c.args.first)))
    c.in_ok-roots.ensures.placed c.in_ok-entries.ensures.searched c.in_ok-entries.ensures.all c.in_ok-entries.ensures.few

pub returns-in_err-game-clause-refused : goal.returns-in_err-game-clause-refused
returns-in_err-game-clause-refused c =
    let p = err_from_is_err_and c.from_residual-in_err-game.result c.from_residual-in_err-game.ensures.1 in
    rw (p.1, p.2) (game_refused c.args.source.now.states.items c.args.source.now.sets.items c.args.source.now.parts.items _ c.new-pairs.ensures.len _ _ _ _ _ _ c.in_err-game.field-0.0
    c.in_ok-roots.ensures.placed c.in_ok-entries.ensures.searched c.in_ok-entries.ensures.all c.in_err-game.ensures.refused)

pub returns-clause-pairs : goal.returns-clause-pairs
returns-clause-pairs c =
    subst (λ (game : NamedGame). IsPairGame c.args.source.now.states.items c.args.source.now.sets.items c.args.source.now.parts.items (map (pair_for c.args.source.now.parts.items c.args.first) c.args.roots.now) c.entries.new.pairs.keys
    c.in_ok-roots.roots.items (graph_of game))
    (sym c.in_ok-game.ensures.made)
    (made c.args.source.now.states.items c.args.source.now.sets.items c.args.source.now.parts.items c.args.source.now.features _ c.new-pairs.ensures.len _ _ _ _ _ _ c.in_ok-roots.ensures.placed c.in_ok-entries.ensures.searched c.in_ok-entries.ensures.all)

pub returns-clause-game : goal.returns-clause-game
returns-clause-game c = game_of_parts c.args.source.now.states.items c.args.source.now.sets.items c.args.source.now.parts.items c.args.first c.args.roots.now c.entries.new.pairs.keys c.in_ok-roots.roots.items (graph_of c.in_ok-game.game)
    (returns-clause-pairs c)

pub returns-clause-numbered : goal.returns-clause-numbered
returns-clause-numbered c = subst (λ (game : NamedGame). AreNumbered (vertex_ids game.vertices)) (sym c.in_ok-game.ensures.made) (game_numbered c.args.source.now.features c.in_ok-entries.entries.items c.in_ok-entries.ensures.searched.numbered)

pub returns-clause-within : goal.returns-clause-within
returns-clause-within c = subst (λ (game : NamedGame). AreWithin (priorities_of game.vertices)) (sym c.in_ok-game.ensures.made) (game_within c.args.source.now.features c.in_ok-entries.entries.items c.in_ok-game.ensures.within)
