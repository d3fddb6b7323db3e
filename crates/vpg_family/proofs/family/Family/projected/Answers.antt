use Rattle.std.proofs.Common.{◌≡◌, ℕ, List, ◌++◌, Bool, Err, sym, ap, subst, ◌∙◌}
use Rattle.std.specs.Arc.{arc_value}
use Rattle.std.proofs.lemmas.Result.{err_from_is_err_and}
use Rattle.vpg_diagram.specs.DiagramText.{NamedDiagram}
use Rattle.vpg_diagram.specs.FeatureDiagram.{IsProduct}
use Rattle.vpg_game.specs.Game.{NamedGame}
use Rattle.vpg_hope.specs.Plain.{projection, plain_text}
use Rattle.vpg_family.specs.Families.{IsNamedSet, TellsUnknown}
use Rattle.vpg_family.proofs.Naming.{texts, unknown_product, no_product, projected}
use Rattle.vpg_family.proofs.family.Family.projected.Goals as goal
use Rattle.vpg_family.proofs.family.Family.projected.Goals.{After-names, After-features_named}

-- the names are those of the family's diagram
names : (c : After-names) → c.names.result.now ≡ (arc_value c.args.self.diagram).names
names c = c.names.ensures.names ∙ ap (λ (d : NamedDiagram). d.names) c.deref.ensures

pub returns-in_err-set-clause-refused : goal.returns-in_err-set-clause-refused
returns-in_err-set-clause-refused c =
    let p = err_from_is_err_and c.from_residual.result c.from_residual.ensures.1 in
    rw (p.1, p.2)
    (unknown_product (arc_value c.args.self.diagram) (texts c.args.words.now) c.in_err-set.field-0.0
    (subst (λ (ns : List (List ℕ)). TellsUnknown ns (texts c.args.words.now) c.in_err-set.field-0.0) (names (goal.at.returns-in_err-set-clause-refused c).After-names) c.in_err-set.ensures.unknown))

pub returns-in-Ok-clause-text : goal.returns-in-Ok-clause-text
returns-in-Ok-clause-text c =
    projected (arc_value c.args.self.diagram) (arc_value c.args.self.game) (texts c.args.words.now) c.in_ok-set.set.items c.write.new.out.items
    (subst (λ (ns : List (List ℕ)). IsNamedSet ns (texts c.args.words.now) c.in_ok-set.set.items) (names (goal.at.returns-in-Ok-clause-text c).After-names) c.in_ok-set.ensures.set)
    (subst (λ (s : List Bool). IsProduct (arc_value c.args.self.diagram).lines s) c.deref-4.ensures.value
    (subst (λ (d : NamedDiagram). IsProduct d.lines c.deref-4.result.now) c.deref-3.ensures c.in-Ok.ensures.product))
    (c.in_ok-write-in-Ok.ensures.ok ∙ ap (λ (l : List ℕ). l ++ plain_text c.in-Ok.plain) c.new-text.ensures.items ∙ ap plain_text c.in-Ok.ensures.game
    ∙ ap (λ (s : List Bool). plain_text (projection s c.deref-2.result.now)) c.deref-4.ensures.value
    ∙ ap (λ (x : NamedGame). plain_text (projection c.in_ok-set.set.items x)) c.deref-2.ensures)

pub returns-in-Err-NotAProduct-clause-refused : goal.returns-in-Err-NotAProduct-clause-refused
returns-in-Err-NotAProduct-clause-refused c =
    no_product (arc_value c.args.self.diagram) (texts c.args.words.now) c.in_ok-set.set.items
    (subst (λ (ns : List (List ℕ)). IsNamedSet ns (texts c.args.words.now) c.in_ok-set.set.items) (names (goal.at.returns-in-Err-NotAProduct-clause-refused c).After-names) c.in_ok-set.ensures.set)
    (λ product. c.in-Err-NotAProduct.ensures.refused.0 (ap (λ f. Err f) c.in-Err-NotAProduct.field-0-is)
    (subst (λ (d : NamedDiagram). IsProduct d.lines c.deref-4.result.now) (sym c.deref-3.ensures)
    (subst (λ (s : List Bool). IsProduct (arc_value c.args.self.diagram).lines s) (sym c.deref-4.ensures.value) product)))
