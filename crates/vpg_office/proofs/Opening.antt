-- The log of an office that was just opened.
use Rattle.std.proofs.Common.{◌≡◌, ◌↔◌, ℕ, ◌≤◌, Bool, true, false, true≢false, List, [], length, sym, ap, ◌∙◌, subst, arith}
use Rattle.std.specs.Bool.{Decides}
use Rattle.boxcar.specs.Table.{Shelves}
use Rattle.vpg_diagram.specs.DiagramText.{NamedDiagram}
use Rattle.vpg_game.specs.Game.{NamedGame}
use Rattle.vpg_desk.specs.Book.{Book, opened}
use Rattle.vpg_desk.specs.History.{Event, book_after}
use Rattle.vpg_desk.specs.State.{DeskState, IsOpened}
use Rattle.vpg_faults.specs.declared.fault.OpenFault.{OpenFault}
use Rattle.vpg_faults.specs.declared.fault.OpenFault.TheVariants.{AtLimit, Memory}
use Rattle.vpg_office.specs.Fronts.{family_between}
use Rattle.vpg_office.specs.Kept.{AreGiven, IsChronicle, NoneIsLeftOut, ShowsEach, lines_of}
use Rattle.vpg_office.specs.Locked.{IsLog}
use Rattle.vpg_office.specs.Story.{IsStory, events_of}
use Rattle.vpg_office.specs.declared.asked.LoggedCall.{LoggedCall}
use Rattle.vpg_office.specs.declared.chronicle.Chronicle.{Chronicle}
use Rattle.vpg_office.proofs.Given.{given_none}
use Rattle.vpg_office.proofs.Places.{shows_none}
use Rattle.vpg_office.proofs.Serials.{none_left_at_first}
use Rattle.vpg_office.proofs.Sheets.{prefix_none}

no_story : (game : NamedGame) (diagram : NamedDiagram) → IsOpened game diagram → IsStory game diagram []
no_story game diagram opens = record { history = record { legal = tt; lawful = tt }; named = tt; opens = opens }

no_calls : (row : Shelves) (game : NamedGame) (diagram : NamedDiagram) (c : Chronicle) (newest : List Event) → c.places.items ≡ [] → c.told.items ≡ [] → c.given.items ≡ [] → newest ≡ [] → IsOpened game diagram →
    IsChronicle row game diagram c newest
no_calls row game diagram c newest places told given none opens = record {
  shows = coe 0 1 (k. ShowsEach row ((sym places) k) (lines_of ((sym told) k))) (shows_none row);
  is_story = subst (λ (ts : List LoggedCall). IsStory game diagram (lines_of ts)) (sym told) (no_story game diagram opens);
  newest_is = none ∙ ap (λ (ts : List LoggedCall). events_of (family_between game diagram) (lines_of ts)) (sym told);
  are_given = coe 0 1 (k. AreGiven ((sym none) k) ((sym given) k)) given_none;
  none_left = coe 0 1 (k. NoneIsLeftOut ((sym none) k) ((sym given) k)) none_left_at_first;
  counted = ap length given ∙ ap (λ (l : List Event). (book_after (family_between game diagram) opened l).changes) (sym none);
}

pub first_log : {row : Shelves} {game : NamedGame} {diagram : NamedDiagram} {limit : ℕ} (c : Chronicle) (newest : List Event) (desk : DeskState) (room total left : ℕ) (shown : List Event) → c.places.items ≡ [] → c.told.items ≡ [] →
    c.given.items ≡ [] → newest ≡ [] → IsOpened game diagram → desk.game ≡ game → desk.diagram ≡ diagram → desk.book ≡ opened → room ≡ limit → room ≤ 1048576 → total ≡ 0 → left ≡ 1048577 → shown ≡ [] →
    IsLog row game diagram limit c newest desk room total left shown
first_log {row} {game} {diagram} {limit} c newest desk room total left shown places told given none opens g d b most few t all empty = record {
  replay = record {
    kept = no_calls row game diagram c newest places told given none opens;
    of_game = g;
    of_diagram = d;
    book = b ∙ ap (book_after (family_between game diagram) opened) (sym none);
    most = most;
    few = few;
  };
  counted = t ∙ ap (λ (x : Book). x.tokens) (sym b);
  untaken = omega (arith, all, ap length none);
  published = prefix_none shown newest empty;
}

-- where there is no memory, the fault tells whether the game is at the limit
pub tells_limit : {P : Type 0} (is : Bool) (fault : OpenFault) → Decides is P → is ≡ true → fault ≡ AtLimit → (fault ≡ AtLimit) ↔ P
tells_limit is fault decides it told = (λ _. decides.0 it, λ _. told)

pub tells_memory : {P : Type 0} (is : Bool) (fault : OpenFault) → Decides is P → is ≡ false → fault ≡ Memory → (fault ≡ AtLimit) ↔ P
tells_memory is fault decides isnt told = (λ limit. absurd (cc (limit, told)), λ p. absurd (true≢false (sym (decides.1 p) ∙ isnt)))
