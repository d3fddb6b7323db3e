use Rattle.std.proofs.Common.{length, None, refl, sym, ap, ◌∙◌}
use Rattle.vpg_game.specs.Game.{graph_of}
use Rattle.vpg_measure.specs.Games.{ArePageGames}
use Rattle.vpg_trail.specs.Page.{Hopeful, Dual, choices_of, decisions_of, table_of}
use Rattle.vpg_desk.specs.Headline.{Tells}
use Rattle.vpg_desk.specs.Lawful.{PageIsBelow}
use Rattle.vpg_desk.specs.Setting.{IsSetting}
use Rattle.vpg_desk.specs.State.{IsReached, setting_between}
use Rattle.vpg_office.specs.Fronts.{family_between}
use Rattle.vpg_desk.specs.Book as book
use Rattle.vpg_desk.specs.Book.{Book}
use Rattle.vpg_office.proofs.Calling.{last_leaves, page_is}
use Rattle.vpg_office.proofs.looks.PageCallCall.carry_out.Goals as goal

pub returns-in-Ok-page-clause-replies : goal.returns-in-Ok-page-clause-replies
returns-in-Ok-page-clause-replies g c = λ front.
    let same = page_is c.args.desk.now c.in-Ok-page.page.entries c.in-Ok-page.ensures.reply in
    λ k. book.PageIs ((sym same) k)

pub returns-in-Ok-page-clause-gives : goal.returns-in-Ok-page-clause-gives
returns-in-Ok-page-clause-gives g c = λ front last.
    let of = c.requires.of in
    let is = c.in-Ok-page.ensures in
    let desk = c.args.desk.now in
    let same = page_is desk c.in-Ok-page.page.entries is.reply in
    let here = sym same in
    let stays = sym (last_leaves last refl) in
    record {
      present = same ∙ ap (λ (b : Book). b.present) stays;
      decided = is.decisions ∙ ap decisions_of here;
      hopeful_is = is.hopeful ∙ (λ k. table_of Hopeful (here k) (length (graph_of (of.0 k))));
      dual_is = is.dual ∙ (λ k. table_of Dual (here k) (length (graph_of (of.0 k))));
      are_games = coe 0 1 (k. ArePageGames (of.0 k) (of.1 k) (choices_of (here k)) ((sym c.in-Ok.ensures.cases) k)) c.games.ensures;
      below = coe 0 1 (k. PageIsBelow (family_between (of.0 k) (of.1 k)) (here k)) is.below;
      tells = coe 0 1 (k. Tells (setting_between (of.0 k) (of.1 k)) (here k)) is.tells;
      is_setting = coe 0 1 (k. IsSetting (setting_between (of.0 k) (of.1 k))) is.setting;
      reached = coe 0 1 (k. IsReached (setting_between (of.0 k) (of.1 k)) (stays k)) is.reached;
    }

pub returns-in-Ok-page-clause-made : goal.returns-in-Ok-page-clause-made
returns-in-Ok-page-clause-made g c = record { step = record { step = ((None, (refl, refl)), refl); game = refl; diagram = refl }; hands = tt; named = tt }
