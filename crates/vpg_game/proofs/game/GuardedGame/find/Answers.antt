use Rattle.std.proofs.Common.{arith, ℕ, List, Some, slice_get, sym, ap, subst, ◌∙◌, ◌≡◌}
use Rattle.std.proofs.lemmas.Grind.{common_steps}
use Rattle.vpg_game.specs.Game.{NamedGame, vertex_ids, AreDistinct}
use Rattle.vpg_game.proofs.Build.{place_found, place_held}
use Rattle.vpg_game.proofs.game.GuardedGame.find.Goals as goal

pub returns-in-Some-clause-found : goal.returns-in-Some-clause-found
returns-in-Some-clause-found c =
    let keys = c.self.invariant.1 ∙ ap (λ (g : NamedGame). vertex_ids g.vertices) c.self.view_is in
    subst (λ (ks : List ℕ). slice_get ks c.in-Some.v ≡ Some c.args.id) keys (place_found c.args.id c.self.inside.ids.keys c.in-Some.v c.in-Some.ensures.index)

pub returns-in-Some-clause-held : goal.returns-in-Some-clause-held
returns-in-Some-clause-held c v e =
    let keys = c.self.invariant.1 ∙ ap (λ (g : NamedGame). vertex_ids g.vertices) c.self.view_is in
    c.in-Some.ensures.index ∙ place_held c.args.id c.self.inside.ids.keys v (subst AreDistinct (sym c.self.invariant.1) c.self.invariant.0.distinct) (subst (λ (ks : List ℕ). slice_get ks v ≡ Some c.args.id) (sym keys) e)

pub returns-in-None-clause-held : goal.returns-in-None-clause-held
returns-in-None-clause-held c v e =
    let keys = c.self.invariant.1 ∙ ap (λ (g : NamedGame). vertex_ids g.vertices) c.self.view_is in
    c.in-None.ensures.index ∙ place_held c.args.id c.self.inside.ids.keys v (subst AreDistinct (sym c.self.invariant.1) c.self.invariant.0.distinct) (subst (λ (ks : List ℕ). slice_get ks v ≡ Some c.args.id) (sym keys) e)

pub overflow_cast-result : goal.overflow_cast-result
overflow_cast-result c = grind (arith, common_steps)
