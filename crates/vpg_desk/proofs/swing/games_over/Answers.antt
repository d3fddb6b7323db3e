use Rattle.std.proofs.Common.{◌≡◌, ◌∙◌, ◌++◌, ◌-◌, ◌∷◌, IfOk, Result, Ok, Err, Global, List, length, map, take, sym, ap, subst, arith}
use Rattle.std.proofs.lemmas.List.{take-map, length-map, length-take}
use Rattle.std.specs.Arc.{arc_value}
use Rattle.std.specs.declared.sync.Arc.{Arc}
use Rattle.std.specs.Option.{option_copied}
use Rattle.vpg_measure.specs.Games.{GamesView, ArePageGames}
use Rattle.vpg_trail.specs.Page.{Entry as Step, choices_of}
use Rattle.vpg_trail.specs.Shown.{entry_of}
use Rattle.vpg_desk.specs.Cuts.{cut_of, cuts_of}
use Rattle.vpg_desk.specs.Setting.{HasConflict}
use Rattle.vpg_desk.specs.State.{setting_between}
use Rattle.vpg_desk.specs.Trail.{Cut as Saved, spliced}
use Rattle.vpg_desk.specs.declared.cuts.Cut.{Cut}
use Rattle.vpg_desk.proofs.Stacks.{cuts_of-last, nearest_fits, nearest_page, nearest_cut}
use Rattle.vpg_desk.proofs.swing.games_over.Goals as goal
use Rattle.vpg_desk.proofs.swing.games_over.Goals.{After-deref}

page : (c : After-deref) → spliced c.args.trail.now.entries c.unwrap-cut.result.now.place (map entry_of c.unwrap-cut.result.now.suffix.items) ≡ map entry_of (take c.unwrap-cut.result.now.place c.entries.result.now) ++ map entry_of c.deref.result.now
page c =
    ap (λ (l : List Step). spliced l c.unwrap-cut.result.now.place (map entry_of c.unwrap-cut.result.now.suffix.items)) (sym c.entries.ensures.entries)
    ∙ ap (λ (l : List Step). l ++ map entry_of c.unwrap-cut.result.now.suffix.items) (take-map entry_of c.unwrap-cut.result.now.place c.entries.result.now)
    ∙ ap (λ l. map entry_of (take c.unwrap-cut.result.now.place c.entries.result.now) ++ map entry_of l) (sym c.deref.ensures.value)

top : (c : After-deref) → cuts_of c.args.cuts.now ≡ cut_of c.unwrap-cut.result.now ∷ cuts_of (take (length c.args.cuts.now - 1) c.args.cuts.now)
top c = cuts_of-last c.args.cuts.now c.unwrap-cut.result.now (sym c.last.ensures.value ∙ ap option_copied c.unwrap-cut.ensures)

-- what is so of the nearest page, by whichever cut is the first
are_if_ok : {E : Type 0} (P : List Step → GamesView → Type 0) (entries : List Step) (cuts : List Cut) (cut : Cut) (rest : List Saved) → cuts_of cuts ≡ cut_of cut ∷ rest → (nearest : List Step) → spliced entries cut.place (map entry_of cut.suffix.items) ≡ nearest → (r : Result (Arc GamesView Global) E) → IfOk r (λ s. P nearest (arc_value s)) →
    IfOk r (λ s. (first : Saved) (further : List Saved) → cuts_of cuts ≡ first ∷ further → P (spliced entries first.place first.suffix) (arc_value s))
are_if_ok P entries cuts cut rest e nearest is (Ok s) p = λ first further f.
    subst (λ (l : List Step). P l (arc_value s)) (sym is ∙ ap (λ (x : Saved). spliced entries x.place x.suffix) (nearest_cut entries cuts cut rest e first further f)) p
are_if_ok P entries cuts cut rest e nearest is (Err x) p = tt

pub slice_bounds-before-end : goal.slice_bounds-before-end
slice_bounds-before-end c =
    let fits = nearest_fits c.args.trail.now.entries c.args.cuts.now c.unwrap-cut.result.now (cuts_of (take (length c.args.cuts.now - 1) c.args.cuts.now))
    (cuts_of-last c.args.cuts.now c.unwrap-cut.result.now (sym c.last.ensures.value ∙ ap option_copied c.unwrap-cut.ensures)) c.requires.fits in
    omega (arith, fits, length-map c.entries.result.now entry_of, ap length c.entries.ensures.entries, length-take c.unwrap-cut.result.now.place c.entries.result.now)

pub games_of_page-requires-clause-consistent : goal.games_of_page-requires-clause-consistent
games_of_page-requires-clause-consistent c =
    let at = (goal.at.games_of_page-requires-clause-consistent c).After-deref in
    subst (λ (l : List Step). ¬ (HasConflict (setting_between c.args.game.now c.args.diagram.now) (choices_of l))) (page at)
    (nearest_page c.args.trail.now.entries c.args.cuts.now c.unwrap-cut.result.now (cuts_of (take (length c.args.cuts.now - 1) c.args.cuts.now)) (top at) (λ l. ¬ (HasConflict (setting_between c.args.game.now c.args.diagram.now) (choices_of l))) c.requires.consistent)

pub returns : goal.returns
returns c =
    let at = (goal.at.returns c).After-deref in
    are_if_ok (λ l. ArePageGames c.args.game.now c.args.diagram.now (choices_of l)) c.args.trail.now.entries c.args.cuts.now c.unwrap-cut.result.now (cuts_of (take (length c.args.cuts.now - 1) c.args.cuts.now)) (top at) (map entry_of (take c.unwrap-cut.result.now.place c.entries.result.now) ++ map entry_of c.deref.result.now) (page at) c.games_of_page.result
    c.games_of_page.ensures
