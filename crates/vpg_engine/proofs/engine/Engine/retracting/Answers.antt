use Rattle.std.proofs.Common.{◌≡◌, ℕ, List, Option, Some, None, sym, ap, ◌∙◌}
use Rattle.vpg_features.specs.Names.{index_of}
use Rattle.vpg_desk.specs.Book.{Retract}
use Rattle.vpg_engine.specs.Answers.{NoFeature, call_or}
use Rattle.vpg_engine.proofs.engine.Engine.retracting.Goals as goal

pub returns-in-Some : goal.returns-in-Some
returns-in-Some g c =
    let found : index_of c.args.self.now.client.desk.diagram.names c.args.name.now ≡ Some c.in-Some.feature =
    ap (λ (ns : List (List ℕ)). index_of ns c.args.name.now) (sym c.names.ensures) ∙ sym c.get.ensures.index ∙ c.in-Some.is in
    sym (ap (λ (x : Option ℕ). call_or NoFeature Retract x) found)

pub returns-in-None : goal.returns-in-None
returns-in-None g c =
    let none : index_of c.args.self.now.client.desk.diagram.names c.args.name.now ≡ None =
    ap (λ (ns : List (List ℕ)). index_of ns c.args.name.now) (sym c.names.ensures) ∙ sym c.get.ensures.index ∙ c.in-None.is in
    sym (ap (λ (x : Option ℕ). call_or NoFeature Retract x) none)
