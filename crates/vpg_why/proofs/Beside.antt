-- Searches beside literals that are forced.
use Rattle.std.proofs.Common.{◌≡◌, ℕ, ◌+◌, ◌<◌, List, [], ◌∷◌, ◌++◌, length, take, get_or, Contains, sym, ap, ◌∙◌, subst, append_assoc}
use Rattle.std.proofs.lemmas.List.{map-append, take_more}
use Rattle.std.proofs.lemmas.List.Elements.{Contains-append_left}
use Rattle.vpg_diagram.specs.DiagramText.{NamedDiagram, IsNamedDiagram}
use Rattle.vpg_diagram.specs.FeatureDiagram.{Line, feature_count}
use Rattle.vpg_diagram.specs.Clauses.{IsTrueIn}
use Rattle.vpg_diagram.specs.declared.clause.Literal.{Literal}
use Rattle.vpg_diagram.proofs.Lists.{All-append, All-front, All-from_contained}
use Rattle.vpg_game.specs.Game.{NamedGame}
use Rattle.vpg_partial.specs.Known.{literal_of}
use Rattle.vpg_partial.specs.TableLaws.{AreChoicesOf}
use Rattle.vpg_partial.specs.declared.decision.Decision.{Decision}
use Rattle.vpg_why.specs.Explained.{choices}
use Rattle.vpg_why.specs.declared.question.Aim.{Aim}
use Rattle.vpg_why.specs.declared.question.Limits.{Limits}
use Rattle.vpg_why.specs.declared.question.Question.TheVariants as asks
use Rattle.vpg_why.specs.declared.searching.Found.{Found}
use Rattle.vpg_why.specs.declared.searching.Found.TheVariants as founds
use Rattle.vpg_why.specs.Found.{IsSought}
use Rattle.vpg_why.specs.Products.{IsForced}
use Rattle.vpg_why.specs.Suffices.{AimSettlesUnder, IsSettled}
use Rattle.vpg_why.proofs.Rooms.{open_stays}

pub pushed : (lines : List Literal) (base : List Literal) (i : ℕ) (d : Literal) (old new : List Decision) (x : Decision) → i < length lines → literal_of x ≡ get_or lines i d → new ≡ old ++ x ∷ [] →
    choices old ≡ base ++ take i lines → choices new ≡ base ++ take (i + 1) lines
pushed lines base i d old new x less is step so_far =
    ap (λ (ds : List Decision). choices ds) step ∙ map-append literal_of old (x ∷ []) ∙ ap (λ (ls : List Literal). ls ++ literal_of x ∷ []) so_far
    ∙ append_assoc base (take i lines) (literal_of x ∷ []) ∙ ap (λ (l : Literal). base ++ (take i lines ++ l ∷ [])) is ∙ ap (λ (ls : List Literal). base ++ ls) (sym (take_more lines i d less))

module _ (game : NamedGame) (diagram : NamedDiagram) (aim : Aim) (base : List Literal) (c : Literal) (forced : List Literal)
    (are : (l : Literal) → Contains forced l → IsForced game diagram aim base l) where
  pub sought_beside : (found : Found) → IsSought game diagram aim ((base ++ c ∷ []) ++ forced) found → IsSought game diagram aim (base ++ c ∷ []) found
  sought_beside (founds.Product example) s = (
    record { product = s.0.product; agrees = All-front (λ d. IsTrueIn example.features.items d) (base ++ c ∷ []) forced s.0.agrees },
    s.1,
  )
  sought_beside founds.Nothing lost = λ set r m. lost set (record {
    product = r.product;
    agrees = All-append (λ d. IsTrueIn set d) (base ++ c ∷ []) forced r.agrees (All-from_contained (λ d. IsTrueIn set d) forced
        (λ l h. are l h set (record { product = r.product; agrees = All-front (λ d. IsTrueIn set d) base (c ∷ []) r.agrees }) m));
  }) m
  sought_beside founds.Unsettled s = tt

pub settled_beside : (game : NamedGame) (diagram : NamedDiagram) (limits : Limits) (aim : Aim) (base forced : List Literal) → IsNamedDiagram diagram → AreChoicesOf diagram.lines base →
    IsSettled game diagram limits (asks.Lost aim) base → IsSettled game diagram limits (asks.Lost aim) (base ++ forced)
settled_beside game diagram limits aim base forced is named s = (
  (λ more. subst (λ (cs : List Literal). AimSettlesUnder limits.rounds game diagram aim cs) (sym (append_assoc base forced more)) (s.0 (forced ++ more))),
  record {
    most = s.1.most;
    are_open = open_stays diagram.lines base (base ++ forced) s.1.most is.diagram named (λ x h. Contains-append_left base forced x h) s.1.are_open;
    enough = s.1.enough;
  },
)

pub named_one : (lines : List Line) (base : List Literal) (c : Literal) → AreChoicesOf lines base → c.feature < feature_count lines → AreChoicesOf lines (base ++ c ∷ [])
named_one lines base c named less = All-append (λ (l : Literal). l.feature < feature_count lines) base (c ∷ []) named (less, tt)

pub named_beside : (lines : List Line) (base : List Literal) (c : Literal) (forced : List Literal) → AreChoicesOf lines base → c.feature < feature_count lines → AreChoicesOf lines forced → AreChoicesOf lines ((base ++ c ∷ []) ++ forced)
named_beside lines base c forced named less others = All-append (λ (l : Literal). l.feature < feature_count lines) (base ++ c ∷ []) forced
    (named_one lines base c named less) others
