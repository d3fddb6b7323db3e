-- What calls that append leave, and what is told of two texts, by what their parts tell.
use Rattle.std.proofs.Common.{◌≡◌, ℕ, List, ◌++◌, Result, Ok, Err, is_ok, IfErr, OnOk, ap, sym, subst, ◌∙◌, append_assoc, ◌⊎◌, inl, inr}
use Rattle.std.specs.Prelude.{if◌then◌else◌}
use Rattle.vpg_diagram.specs.DiagramText.{NamedDiagram, IsTextOf}
use Rattle.vpg_game.specs.Game.{NamedGame}
use Rattle.vpg_family.specs.Families.{IsDiagramFault, IsGameFault, IsFamilyFault, IsModelFault, IsUnread, IsOfModel, IsOfPaths, SpellsFamily}
use Rattle.vpg_family.specs.Pictures.{IsUndrawn, TellsContradiction}
use Rattle.vpg_family.specs.declared.fault.Fault.{Fault}
use Rattle.vpg_family.specs.declared.fault.Fault.TheVariants as told
use Rattle.vpg_family.specs.declared.files.GamePaths.{GamePaths}
use Rattle.vpg_family.specs.declared.files.GamePaths.TheVariants as paths

-- a text is appended behind another
pub appended : {A E : Type 0} (r : Result A E) (new mid old front back : List ℕ) → mid ≡ old ++ front → OnOk r (new ≡ mid ++ back) → OnOk r (new ≡ (old ++ front) ++ back)
appended (Ok x) new mid old front back m e = e ∙ ap (λ l. l ++ back) m
appended (Err x) new mid old front back m e = tt

-- the text of two parts is appended
pub told_parts : {A E : Type 0} (r : Result A E) (new old front back text : List ℕ) → text ≡ front ++ back → OnOk r (new ≡ (old ++ front) ++ back) → OnOk r (new ≡ old ++ text)
told_parts (Ok x) new old front back text is e = e ∙ append_assoc old front back ∙ ap (λ l. old ++ l) (sym is)
told_parts (Err x) new old front back text is e = tt

-- this text is appended
pub told_as : {A E : Type 0} (r : Result A E) (new old front text : List ℕ) → text ≡ front → new ≡ (if is_ok r then old ++ front else old) → OnOk r (new ≡ old ++ text)
told_as (Ok x) new old front text is e = e ∙ ap (λ l. old ++ l) (sym is)
told_as (Err x) new old front text is e = tt

pub if_err_to : {A E : Type 0} (P Q : E → Type 0) (r : Result A E) → ((e : E) → P e → Q e) → IfErr r P → IfErr r Q
if_err_to P Q (Ok x) f h = tt
if_err_to P Q (Err e) f h = f e h

-- ---- what is told of two texts

pub family_of_game : (diagram_text game_text : List ℕ) (diagram : NamedDiagram) (fault : Fault) → IsTextOf diagram_text diagram → IsGameFault diagram.names game_text fault → IsFamilyFault diagram_text game_text fault
family_of_game diagram_text game_text diagram (told.Game fault) is h = (diagram, (is, h))
family_of_game diagram_text game_text diagram told.Memory is h = tt
family_of_game diagram_text game_text diagram _ is h = absurd h

pub undrawn_of_game : (diagram_text game_text : List ℕ) (diagram : NamedDiagram) (fault : Fault) → IsTextOf diagram_text diagram → IsGameFault diagram.names game_text fault → IsUndrawn diagram_text game_text fault
undrawn_of_game diagram_text game_text diagram (told.Game fault) is h = (diagram, (is, h))
undrawn_of_game diagram_text game_text diagram told.Memory is h = tt
undrawn_of_game diagram_text game_text diagram _ is h = absurd h

pub undrawn_contradiction : (diagram_text game_text : List ℕ) (diagram : NamedDiagram) (game : NamedGame) (fault : Fault) → SpellsFamily diagram_text game_text diagram game → TellsContradiction diagram fault → IsUndrawn diagram_text game_text fault
undrawn_contradiction diagram_text game_text diagram game (told.Conflict name) is h = (diagram, game, is, h)
undrawn_contradiction diagram_text game_text diagram game told.Memory is h = tt
undrawn_contradiction diagram_text game_text diagram game _ is h = absurd h

module _ (diagram_text game_text system_text requirements_text : List ℕ) where
  pub unread_family : (fault : Fault) → IsFamilyFault diagram_text game_text fault → IsUnread diagram_text game_text system_text requirements_text fault
  unread_family (told.Game fault) h = h
  unread_family (told.Diagram fault) h = h
  unread_family told.Memory h = tt
  unread_family _ h = absurd h

  pub unread_diagram : (fault : Fault) → IsDiagramFault diagram_text fault → IsUnread diagram_text game_text system_text requirements_text fault
  unread_diagram (told.Diagram fault) h = h
  unread_diagram told.Memory h = tt
  unread_diagram _ h = absurd h

  -- out of memory, or a fault that is told of files
  pub unread_as : (fault other : Fault) → IsUnread diagram_text game_text system_text requirements_text other → (fault ≡ told.Memory) ⊎ (fault ≡ other) → IsUnread diagram_text game_text system_text requirements_text fault
  unread_as fault other h (inl e) = subst (IsUnread diagram_text game_text system_text requirements_text) (sym e) tt
  unread_as fault other h (inr e) = subst (IsUnread diagram_text game_text system_text requirements_text) (sym e) h

-- ---- the files that faults are of

pub of_diagram : (files : GamePaths) (text : List ℕ) (fault : Fault) → IsDiagramFault text fault → IsOfPaths files fault
of_diagram (paths.Game path) text (told.Diagram fault) h = tt
of_diagram _ text (told.Diagram fault) h = tt
of_diagram (paths.Game path) text told.Memory h = tt
of_diagram _ text told.Memory h = tt
of_diagram files text _ h = absurd h

pub of_family : (files : GamePaths) (diagram_text game_text : List ℕ) (fault : Fault) → IsFamilyFault diagram_text game_text fault → IsOfPaths files fault
of_family (paths.Game path) diagram_text game_text (told.Game fault) h = tt
of_family _ diagram_text game_text (told.Game fault) h = tt
of_family files diagram_text game_text (told.Diagram fault) h = of_diagram files diagram_text (told.Diagram fault) h
of_family files diagram_text game_text told.Memory h = of_diagram files diagram_text told.Memory h
of_family files diagram_text game_text _ h = absurd h

pub of_model : (diagram : NamedDiagram) (system_text requirements_text : List ℕ) (fault : Fault) → IsModelFault diagram system_text requirements_text fault → IsOfModel fault
of_model diagram system_text requirements_text (told.System fault) h = tt
of_model diagram system_text requirements_text (told.Requirements fault) h = tt
of_model diagram system_text requirements_text (told.TooManyParts name) h = tt
of_model diagram system_text requirements_text (told.Model fault) h = tt
of_model diagram system_text requirements_text told.Memory h = tt
of_model diagram system_text requirements_text _ h = absurd h
