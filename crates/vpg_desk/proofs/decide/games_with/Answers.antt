use Rattle.std.proofs.Common.{◌≡◌, ◌∙◌, ◌<◌, ◌++◌, ◌∷◌, [], Err, List, map, refl, sym, ap, subst}
use Rattle.std.specs.List.{AllByRecursion}
use Rattle.vpg_diagram.proofs.Lists.{All-map}
use Rattle.vpg_diagram.specs.Clauses.{clauses_of, counts_of}
use Rattle.vpg_diagram.specs.FeatureDiagram.{feature_count}
use Rattle.vpg_measure.specs.Games.{GamesView, ArePageGames}
use Rattle.vpg_partial.specs.Known.{NamesConflict}
use Rattle.vpg_trail.specs.Page.{Literal, Decision, Decided, literal_of, decisions_of, choices_of}
use Rattle.vpg_trail.specs.Shown.{entry_of}
use Rattle.vpg_trail.proofs.PageLemmas.{decisions_of-append}
use Rattle.vpg_desk.proofs.decide.games_with.Goals as goal
use Rattle.vpg_desk.proofs.decide.games_with.Goals.{After-deref}

told : (c : After-deref) → c.deref.result.now ≡ decisions_of (map entry_of c.args.entries.now) ++ c.args.decision ∷ []
told c =
    let pushed : c.push.new.self.items ≡ c.in_ok-decisions.decisions.items ++ c.args.decision ∷ [] = c.in_ok-push.ensures.items in
    c.deref.ensures.value ∙ pushed ∙ ap (λ (l : List Decision). l ++ c.args.decision ∷ []) c.in_ok-decisions.ensures

choices : (c : After-deref) → map literal_of c.deref.result.now ≡ choices_of (map entry_of c.args.entries.now ++ Decided c.args.decision ∷ [])
choices c = ap (map literal_of) (told c ∙ sym (decisions_of-append (map entry_of c.args.entries.now) (Decided c.args.decision ∷ [])))

pub updated-requires-clause-named : goal.updated-requires-clause-named
updated-requires-clause-named c =
    All-map (λ (l : Literal). l.feature < feature_count c.args.diagram.now.lines) literal_of c.deref.result.now
    (subst (AllByRecursion (λ (x : Decision). x.feature < feature_count c.args.diagram.now.lines)) (sym (told c)) c.requires.inside)

pub returns-in-Ok-clause-games : goal.returns-in-Ok-clause-games
returns-in-Ok-clause-games c =
    subst (λ (games : GamesView). ArePageGames c.args.game.now c.args.diagram.now (choices_of (map entry_of c.args.entries.now ++ Decided c.args.decision ∷ [])) games) (sym c.in_ok-share-in-Ok.ensures)
    (subst (λ (l : List Literal). ArePageGames c.args.game.now c.args.diagram.now l c.in-Ok.games) (choices (goal.at.returns-in-Ok-clause-games c).After-deref) c.in-Ok.ensures.games)

pub returns-in-Err-Conflict-clause-fault : goal.returns-in-Err-Conflict-clause-fault
returns-in-Err-Conflict-clause-fault c = (
  refl,
  (
    c.in-Err-Conflict.field-0-0,
    subst (λ (l : List Literal). NamesConflict (clauses_of c.args.diagram.now.lines) (counts_of c.args.diagram.now.lines) l c.in-Err-Conflict.field-0-0) (choices (goal.at.returns-in-Err-Conflict-clause-fault c).After-deref)
        (c.in-Err-Conflict.ensures.conflict c.in-Err-Conflict.field-0-0 (ap Err c.in-Err-Conflict.field-0-is)),
  ),
)
