use Rattle.std.proofs.Common.{refl, sym, subst, ℕ, ◌<◌}
use Rattle.vpg_texts.specs.Scene.{TellsFeature, scene_of}
use Rattle.vpg_looks.proofs.Told.{told_done}
use Rattle.vpg_answers.proofs.Told.{known_here}
use Rattle.vpg_answers.proofs.looking.of_feature.Goals as goal

pub put_known-requires-clause-known : goal.put_known-requires-clause-known
put_known-requires-clause-known c = c.requires.games.known.length_is

pub put_known-requires-clause-feature : goal.put_known-requires-clause-feature
put_known-requires-clause-feature c = subst (λ (n : ℕ). c.args.feature < n) (sym c.requires.games.is_diagram.each_named) c.requires.feature

pub returns : goal.returns
returns c = λ names limits.
    let page = c.args.page.now in
    rw c.in-Known.is
    (told_done (TellsFeature (scene_of names c.args.game.now c.args.diagram.now) page.decisions c.args.feature) c.put_known.result c.done.result c.done.ensures c.args.out.now.items c.put_known.new.out.items
    (known_here names c.args.game.now c.args.diagram.now _ page.decisions c.args.games.now _ refl refl c.requires.games c.put_known.result c.args.out.now.items c.put_known.new.out.items c.args.feature c.put_known.ensures.known))
