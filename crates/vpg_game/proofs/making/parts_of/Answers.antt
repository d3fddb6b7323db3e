use Rattle.std.proofs.Common.{arith, ◌≡◌, ◌<◌, ℕ, List, All, length, map, get_or, sym, ap, subst, ◌∙◌}
use Rattle.std.proofs.lemmas.Grind.{common_steps}
use Rattle.vpg_game.specs.Spelled.{SpelledEntry}
use Rattle.vpg_game.specs.Game.{NamedVertex, IsGame, vertex_of, entry_ids, AreDistinct, AllFound, AreSound}
use Rattle.vpg_game.specs.Naming.{features_named, IsNaming}
use Rattle.vpg_game.proofs.NamingSteps.{vertices_below}
use Rattle.vpg_game.proofs.Made.{limited_at, is_made, some_is, none_not, made_sound}
use Rattle.vpg_game.proofs.making.parts_of.Goals as goal

pub tops-requires : goal.tops-requires
tops-requires c i e lt is =
    limited_at c.args.features c.args.entries.items i e c.requires.limited.each (subst (λ (es : List SpelledEntry). i < length es) c.deref.ensures.value lt) (subst (λ (es : List SpelledEntry). e ≡ get_or es i e) c.deref.ensures.value is)

pub returns-in_default-tops-clause-err : goal.returns-in_default-tops-clause-err
returns-in_default-tops-clause-err c = record {
  distinct = subst AreDistinct c.requires.ids c.requires.distinct;
  found = subst (λ (ks : List ℕ). AllFound ks c.args.entries.items) c.requires.ids c.in_ok-vertices.ensures.found;
  wide = none_not _ _ _ c.in_default-tops.is (rw c.deref.ensures.value at c.in-Ok.ensures);
}

pub naming_of-requires : goal.naming_of-requires
naming_of-requires c =
    let es : List SpelledEntry = c.args.entries.items in
    let tops = some_is _ c.in-Some.tops _ _ c.in-Some.is (rw c.deref.ensures.value at c.in-Ok.ensures) in
    let sound : AreSound es = made_sound es c.args.ids.now.keys c.requires.ids c.requires.distinct c.in_ok-vertices.ensures.found tops.0 in
    let vertices : c.in_ok-vertices.vertices.items ≡ map (vertex_of (entry_ids es)) es = c.in_ok-vertices.ensures.ok ∙ ap (λ (ks : List ℕ). map (vertex_of ks) es) c.requires.ids in
    let is : IsGame (record { vertices = c.in_ok-vertices.vertices.items; features = c.args.features }) =
    subst (λ (vs : List NamedVertex). IsGame (record { vertices = vs; features = c.args.features })) (sym vertices) (is_made c.args.features es c.requires.limited sound) in
    subst (λ (vs : List NamedVertex). All (λ v. All (λ f. f < c.args.features) (features_named v.edges)) vs) (sym c.deref-2.ensures.value)
    (vertices_below (length c.in_ok-vertices.vertices.items) c.args.features c.in_ok-vertices.vertices.items is.each)

pub returns-clause-vertices : goal.returns-clause-vertices
returns-clause-vertices c = c.in_ok-vertices.ensures.ok ∙ ap (λ (ks : List ℕ). map (vertex_of ks) c.args.entries.items) c.requires.ids

pub returns-clause-sound : goal.returns-clause-sound
returns-clause-sound c =
    let tops = some_is _ c.in-Some.tops _ _ c.in-Some.is (rw c.deref.ensures.value at c.in-Ok.ensures) in
    made_sound c.args.entries.items c.args.ids.now.keys c.requires.ids c.requires.distinct c.in_ok-vertices.ensures.found tops.0

pub returns-clause-tops : goal.returns-clause-tops
returns-clause-tops c =
    let tops = some_is _ c.in-Some.tops _ _ c.in-Some.is (rw c.deref.ensures.value at c.in-Ok.ensures) in
    tops.1

pub returns-clause-naming : goal.returns-clause-naming
returns-clause-naming c = subst (λ (vs : List NamedVertex). IsNaming c.args.features vs c.in-Ok-naming_of.naming) c.deref-2.ensures.value c.in-Ok-naming_of.ensures

pub resolved-requires : goal.resolved-requires
resolved-requires c = grind (arith, common_steps)
