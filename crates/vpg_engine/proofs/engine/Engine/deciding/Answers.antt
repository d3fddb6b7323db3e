use Rattle.std.proofs.Common.{◌≡◌, ℕ, List, Option, Some, None, sym, ap, ◌∙◌, subst}
use Rattle.std.specs.Prelude.{slice_get}
use Rattle.std.proofs.lemmas.Option.{slice_get_within}
use Rattle.vpg_features.specs.Names.{index_of}
use Rattle.vpg_desk.specs.Book.{Decide}
use Rattle.vpg_engine.specs.Answers.{NoFeature, call_or}
use Rattle.vpg_engine.specs.Engine.{scene_at}
use Rattle.vpg_engine.proofs.Asked.{named_first}
use Rattle.vpg_engine.proofs.engine.Engine.deciding.Goals as goal

pub returns-in-Some-clause-first : goal.returns-in-Some-clause-first
returns-in-Some-clause-first g c =
    let now = c.args.self.now in
    let found : index_of now.client.desk.diagram.names c.args.name.now ≡ Some c.in-Some.feature =
    ap (λ (ns : List (List ℕ)). index_of ns c.args.name.now) (sym c.names.ensures) ∙ sym c.get.ensures.index ∙ c.in-Some.is in
    sym (named_first (scene_at now) now.held c.args.value c.args.name.now ∙ ap (λ (x : Option ℕ). call_or NoFeature (λ f. Decide f c.args.value) x) found)

pub returns-in-Some-clause-named : goal.returns-in-Some-clause-named
returns-in-Some-clause-named g c =
    slice_get_within c.args.self.now.client.desk.diagram.names c.in-Some.feature c.args.name.now
    (subst (λ (ns : List (List ℕ)). slice_get ns c.in-Some.feature ≡ Some c.args.name.now) c.names.ensures c.in-Some.ensures.found)

pub returns-in-None-clause-first : goal.returns-in-None-clause-first
returns-in-None-clause-first g c =
    let now = c.args.self.now in
    let none : index_of now.client.desk.diagram.names c.args.name.now ≡ None =
    ap (λ (ns : List (List ℕ)). index_of ns c.args.name.now) (sym c.names.ensures) ∙ sym c.get.ensures.index ∙ c.in-None.is in
    sym (named_first (scene_at now) now.held c.args.value c.args.name.now ∙ ap (λ (x : Option ℕ). call_or NoFeature (λ f. Decide f c.args.value) x) none)
