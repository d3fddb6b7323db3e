use Rattle.std.proofs.Common.{◌≡◌, ℕ, sym, subst, ap, ◌∙◌}
use Rattle.vpg_game.specs.Building.{IsLimited}
use Rattle.vpg_game.specs.Game.{NamedGame, graph_of, game_of, vertex_ids, priorities_of}
use Rattle.vpg_model.specs.Sharpening.{IsSameGame, AreSharp}
use Rattle.vpg_model.proofs.SharpGames.{are_limited, same_game, sharp_game, ids_kept, priorities_kept}
use Rattle.vpg_model.proofs.sharpening.sharpened.Goals as goal

pub of-requires : goal.of-requires
of-requires c =
    subst (λ (n : ℕ). IsLimited n c.in_ok-entries.entries.items) (sym c.features-features.ensures)
    (are_limited c.args.game c.in_ok-entries.entries.items c.vertices-count.ensures.game c.requires.numbered c.in_ok-entries.ensures c.requires.within)

pub returns-in-Ok-clause-same : goal.returns-in-Ok-clause-same
returns-in-Ok-clause-same c =
    let entries = c.in_ok-entries.entries.items in
    let is : c.in-Ok.made ≡ game_of c.args.game.features entries = c.in-Ok.ensures.made ∙ ap (λ (n : ℕ). game_of n entries) c.features-features.ensures in
    subst (λ (g : NamedGame). IsSameGame (graph_of c.args.game) (graph_of g)) (sym is) (same_game c.args.game entries c.vertices-count.ensures.game c.requires.numbered c.in_ok-entries.ensures)

pub returns-in-Ok-clause-ids : goal.returns-in-Ok-clause-ids
returns-in-Ok-clause-ids c =
    let entries = c.in_ok-entries.entries.items in
    let is : c.in-Ok.made ≡ game_of c.args.game.features entries = c.in-Ok.ensures.made ∙ ap (λ (n : ℕ). game_of n entries) c.features-features.ensures in
    ap (λ (g : NamedGame). vertex_ids g.vertices) is ∙ ids_kept c.args.game entries c.vertices-count.ensures.game c.requires.numbered c.in_ok-entries.ensures

pub returns-in-Ok-clause-priorities : goal.returns-in-Ok-clause-priorities
returns-in-Ok-clause-priorities c =
    let entries = c.in_ok-entries.entries.items in
    let is : c.in-Ok.made ≡ game_of c.args.game.features entries = c.in-Ok.ensures.made ∙ ap (λ (n : ℕ). game_of n entries) c.features-features.ensures in
    ap (λ (g : NamedGame). priorities_of g.vertices) is ∙ priorities_kept c.args.game entries c.vertices-count.ensures.game c.requires.numbered c.in_ok-entries.ensures

pub returns-in-Ok-clause-sharp : goal.returns-in-Ok-clause-sharp
returns-in-Ok-clause-sharp c =
    let entries = c.in_ok-entries.entries.items in
    let is : c.in-Ok.made ≡ game_of c.args.game.features entries = c.in-Ok.ensures.made ∙ ap (λ (n : ℕ). game_of n entries) c.features-features.ensures in
    subst (λ (g : NamedGame). AreSharp c.args.game.features (graph_of g)) (sym is) (sharp_game c.args.game entries c.vertices-count.ensures.game c.requires.numbered c.in_ok-entries.ensures)
