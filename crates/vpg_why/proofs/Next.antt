-- The steps of listing, over decisions.
use Rattle.std.proofs.Common.{◌≡◌, ℕ, zero, suc, ◌+◌, ◌<◌, ◌&&◌, Bool, true, false, List, [], ◌∷◌, ◌++◌, length, take, drop, get_or, IsTrue, refl, sym, subst, arith}
use Rattle.std.proofs.lemmas.List.{length-map}
use Rattle.vpg_diagram.specs.FeatureDiagram.{feature_count}
use Rattle.vpg_diagram.specs.DiagramText.{NamedDiagram, IsNamedDiagram}
use Rattle.vpg_diagram.specs.declared.clause.Literal.{Literal}
use Rattle.vpg_game.specs.Game.{NamedGame, graph_of}
use Rattle.vpg_partial.specs.Known.{literal_of}
use Rattle.vpg_partial.specs.TableLaws.{AreAmong, AreChoicesOf}
use Rattle.vpg_partial.specs.declared.decision.Decision.{Decision}
use Rattle.vpg_why.specs.declared.question.Limits.{Limits}
use Rattle.vpg_why.specs.declared.question.Question.{Question}
use Rattle.vpg_why.specs.Suffices.{Suffice, SufficeIn, EachIsSettled, IsSettled}
use Rattle.vpg_why.specs.Explained.{choices, front_with, IsLast, AreNeededInTurn, Explains, OfFronts}
use Rattle.vpg_why.proofs.Fronts.{choices_with, front_among, pool_named}
use Rattle.vpg_why.proofs.Listing.{IsListing, among_named, begun, ended, taken}
use Rattle.vpg_why.proofs.InTurn.{shorter, one_more, none_yet, one_list, weaker}
use Rattle.vpg_why.proofs.Monotone.{more_choices_suffice}
use Rattle.vpg_why.specs.Laws.{ExplanationsAreOne}

pub choice_at : (ds : List Decision) (i : ℕ) (x : Decision) (l : Literal) → i < length ds → get_or (choices ds) i l ≡ literal_of (get_or ds i x)
choice_at [] i x l less = absurd (omega (arith, less))
choice_at (d ∷ ds) zero x l less = refl
choice_at (d ∷ ds) (suc i) x l less = choice_at ds i x l (omega (arith, less))

-- what listing keeps, of choices and of decisions
pub record IsListed (Suffices : List Literal → Type 0) (Settles : Type 0) (decisions kept : List Decision) (most : ℕ) (exact : Bool) : Type 0 where
  pub listing : IsListing Suffices (choices decisions) (choices kept) most exact
  pub in_turn : AreNeededInTurn Suffices exact (take most decisions) (drop most decisions) kept
  pub settled : Settles → IsTrue exact

-- each of two that hold
pub both_hold : (a b : Bool) → IsTrue (a && b) → IsTrue a × IsTrue b
both_hold true b h = (refl, h)
both_hold false b h = absurd (clash h)
  where
    clash : false ≡ true → ⊥
    clash e = cc

both_true : (a b : Bool) → IsTrue a → IsTrue b → IsTrue (a && b)
both_true true b h k = k
both_true false b h k = h

module _ (game : NamedGame) (diagram : NamedDiagram) (limits : Limits) (question : Question) (decisions : List Decision) (small : Bool) (is_diagram : IsNamedDiagram diagram) (named : AreChoicesOf diagram.lines (choices decisions)) where
  moved : (most : ℕ) (kept : List Decision) → Suffice game diagram question (choices (front_with most decisions kept)) → Suffice game diagram question (take most (choices decisions) ++ choices kept)
  moved most kept h = subst (λ (cs : List Literal). Suffice game diagram question cs) (choices_with most decisions kept) h

  back : (most : ℕ) (kept : List Decision) → Suffice game diagram question (take most (choices decisions) ++ choices kept) → Suffice game diagram question (choices (front_with most decisions kept))
  back most kept h = subst (λ (cs : List Literal). Suffice game diagram question cs) (sym (choices_with most decisions kept)) h

  first_listing : (kept : List Decision) → kept ≡ [] → Suffice game diagram question (choices decisions) → IsListing (Suffice game diagram question) (choices decisions) (choices kept) (length decisions) true
  first_listing kept e h = subst (λ (n : ℕ). IsListing (Suffice game diagram question) (choices decisions) (choices kept) n true) (length-map decisions literal_of)
      (subst (λ (ds : List Decision). IsListing (Suffice game diagram question) (choices decisions) (choices ds) (length (choices decisions)) true) (sym e) (begun (Suffice game diagram question) (choices decisions) h))

  pub first_listed : (kept : List Decision) → kept ≡ [] → Suffice game diagram question (choices decisions) → IsListed (Suffice game diagram question) (IsTrue small × EachIsSettled game diagram limits question (choices decisions)) decisions kept (length decisions) true
  first_listed kept e h = record {
    listing = first_listing kept e h;
    in_turn = subst (λ (ds : List Decision). AreNeededInTurn (Suffice game diagram question) true (take (length decisions) decisions) (drop (length decisions) decisions) ds) (sym e) (none_yet (Suffice game diagram question) true decisions);
    settled = λ s. refl;
  }

  module _ (kept new : List Decision) (most place : ℕ) (exact also : Bool) (x : Decision) (is : IsListed (Suffice game diagram question) (IsTrue small × EachIsSettled game diagram limits question (choices decisions)) decisions kept most exact)
      (last : IsLast (Suffice game diagram question) decisions kept most place also) (so : IsTrue small → OfFronts (IsSettled game diagram limits question) decisions kept → IsTrue also) (e : new ≡ get_or decisions place x ∷ kept) where
    inside : place < length decisions
    inside = let w = is.listing.within in omega (arith, w, last.within, length-map decisions literal_of)

    more : (few : List Literal) → AreAmong few (take place (choices decisions) ++ choices kept) → Suffice game diagram question few → Suffice game diagram question (take place (choices decisions) ++ choices kept)
    more few among h = more_choices_suffice (graph_of game) diagram.lines question few (take place (choices decisions) ++ choices kept) is_diagram.diagram
        (among_named diagram.lines few (take place (choices decisions) ++ choices kept) among (pool_named diagram.lines place (choices decisions) (choices kept) named (among_named diagram.lines (choices kept) (choices decisions) is.listing.among named))) among h

    next_listing : IsListing (Suffice game diagram question) (choices decisions) (choices new) place (exact && also)
    next_listing = subst (λ (ds : List Decision). IsListing (Suffice game diagram question) (choices decisions) (choices ds) place (exact && also)) (sym e)
        (taken (Suffice game diagram question) (choices decisions) (choices kept) most place exact also is.listing last.within (literal_of (get_or decisions place x)) (choice_at decisions place x (literal_of (get_or decisions place x)) inside) (moved (place + 1) kept last.enough) (λ t h. last.short t (back place kept h)) more)

    pub next_listed : IsListed (Suffice game diagram question) (IsTrue small × EachIsSettled game diagram limits question (choices decisions)) decisions new place (exact && also)
    next_listed = record {
      listing = next_listing;
      in_turn = subst (λ (ds : List Decision). AreNeededInTurn (Suffice game diagram question) (exact && also) (take place decisions) (drop place decisions) ds) (sym e)
          (one_more (Suffice game diagram question) (exact && also) decisions kept place most x last.within inside (λ t. last.short (both_hold exact also t).1)
          (weaker (Suffice game diagram question) exact (exact && also) (λ t. (both_hold exact also t).0) is.in_turn));
      settled = λ s. both_true exact also (is.settled s) (so s.0 (λ n. s.1 (choices (front_with n decisions kept)) (front_among n decisions kept is.listing.among)));
    }

  pub last_listed : (kept : List Decision) (most : ℕ) (exact : Bool) → IsListed (Suffice game diagram question) (IsTrue small × EachIsSettled game diagram limits question (choices decisions)) decisions kept most exact → Suffice game diagram question (choices (front_with 0 decisions kept)) →
      IsListed (Suffice game diagram question) (IsTrue small × EachIsSettled game diagram limits question (choices decisions)) decisions kept 0 exact
  last_listed kept most exact is h = record {
    listing = ended (Suffice game diagram question) (choices decisions) (choices kept) most exact is.listing (moved 0 kept h);
    in_turn = shorter (Suffice game diagram question) exact decisions kept 0 most (omega arith) is.in_turn;
    settled = is.settled;
  }

  pub explained : (kept : List Decision) (most : ℕ) (exact : Bool) → most ≡ 0 → IsListed (Suffice game diagram question) (IsTrue small × EachIsSettled game diagram limits question (choices decisions)) decisions kept most exact → Explains (Suffice game diagram question) decisions kept exact
  explained kept most exact e is = record {
    among = at_end.listing.among;
    enough = at_end.listing.enough;
    needed = at_end.listing.needed;
    in_turn = at_end.in_turn;
  }
    where
      at_end : IsListed (Suffice game diagram question) (IsTrue small × EachIsSettled game diagram limits question (choices decisions)) decisions kept 0 exact
      at_end = subst (λ (n : ℕ). IsListed (Suffice game diagram question) (IsTrue small × EachIsSettled game diagram limits question (choices decisions)) decisions kept n exact) e is

pub explanations_are_one : ExplanationsAreOne
explanations_are_one game lines question decisions one other is named a b =
    one_list (SufficeIn game lines question) (λ c. c.feature < feature_count lines) (λ few many within among h. more_choices_suffice game lines question few many is within among h)
    a.in_turn tt named (among_named lines (choices one) (choices decisions) a.among named) other b.in_turn (among_named lines (choices other) (choices decisions) b.among named) a.enough b.enough
