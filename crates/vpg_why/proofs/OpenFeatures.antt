-- What is forced, feature by feature.
use Rattle.std.proofs.Common.{◌≡◌, ℕ, ◌+◌, ◌<◌, ◌⊎◌, inl, inr, Bool, true, false, not, List, [], ◌∷◌, ◌++◌, slice_index_or, IsTrue, Contains, refl, sym, ap, ◌∙◌, subst, arith}
use Rattle.std.proofs.lemmas.Bool.{cases_order}
use Rattle.std.proofs.lemmas.List.Elements.{Contains-append_left, Contains-append_right, Contains-append_cases}
use Rattle.vpg_guards.specs.declared.tri.Tri.{Tri}
use Rattle.vpg_guards.specs.declared.tri.Tri.TheVariants.{No, Unknown, Yes}
use Rattle.vpg_guards.specs.Known.{Agrees}
use Rattle.vpg_diagram.specs.DiagramText.{NamedDiagram, IsNamedDiagram}
use Rattle.vpg_diagram.specs.FeatureDiagram.{feature_count}
use Rattle.vpg_diagram.specs.Clauses.{IsTrueIn}
use Rattle.vpg_diagram.specs.declared.clause.Literal.{Literal}
use Rattle.vpg_diagram.proofs.Lists.{All-append, All-front, All-back, All-from_contained, Contains-cons, Contains-here, Contains-nil}
use Rattle.vpg_game.specs.Game.{NamedGame}
use Rattle.vpg_partial.specs.KnownTable.{is_known_as}
use Rattle.vpg_partial.specs.KnownLaws.{IsRemaining, IsKnownOf}
use Rattle.vpg_partial.specs.TableLaws.{IsKnownTable}
use Rattle.vpg_partial.proofs.Tables.{remaining_products_complete}
use Rattle.vpg_why.specs.declared.question.Aim.{Aim}
use Rattle.vpg_why.specs.Products.{Meets, NoneMeets, IsForced, AreInOrder, AreNeeds}
use Rattle.vpg_why.specs.Suffices.{choice}
use Rattle.vpg_why.proofs.InOrder.{one_behind}

-- a product has the one value of a feature or the other
pub either_value : (set : List Bool) (f : ℕ) (value : Bool) → IsTrueIn set (choice f value) ⊎ IsTrueIn set (choice f (not value))
either_value set f value = of value (slice_index_or set f false) refl
  where
    of : (v b : Bool) → slice_index_or set f false ≡ b → IsTrueIn set (choice f v) ⊎ IsTrueIn set (choice f (not v))
    of true true e = inl e
    of true false e = inr e
    of false true e = inr e
    of false false e = inl e

not_both : (a b : Bool) → a ≡ b → a ≡ not b → ⊥
not_both a true e f = clash (sym e ∙ f)
  where
    clash : true ≡ false → ⊥
    clash x = cc
not_both a false e f = clash (sym e ∙ f)
  where
    clash : false ≡ true → ⊥
    clash x = cc

no_value : (t : Tri) (value : Bool) → t ≡ Unknown → IsTrue (is_known_as t value) → ⊥
no_value No value same e = cc same
no_value Unknown value same e = clash e
  where
    clash : false ≡ true → ⊥
    clash x = cc
no_value Yes value same e = cc same

known_value : (t : Tri) (a value : Bool) → (t ≡ Unknown → ⊥) → Agrees t a → a ≡ value → IsTrue (is_known_as t value)
known_value No a true known agrees e = absurd (not_both a true e agrees)
known_value No a false known agrees e = refl
known_value Unknown a value known agrees e = absurd (known refl)
known_value Yes a true known agrees e = refl
known_value Yes a false known agrees e = absurd (not_both a false e agrees)

-- What is listed of the features before one.
pub record IsForcing (Settles : Type 0) (game : NamedGame) (diagram : NamedDiagram) (aim : Aim) (choices listed : List Literal) (feature : ℕ) (exact : Bool) : Type 0 where
  pub below : (l : Literal) → Contains listed l → l.feature < feature
  pub in_order : AreInOrder listed
  pub not_known : (l : Literal) → Contains listed l → ¬ (IsKnownOf diagram.lines choices l)
  pub forced : (l : Literal) → Contains listed l → IsForced game diagram aim choices l
  pub complete : IsTrue exact → (l : Literal) → l.feature < feature → IsForced game diagram aim choices l → IsKnownOf diagram.lines choices l ⊎ Contains listed l
  pub settled : Settles → IsTrue exact

module _ (Settles : Type 0) (game : NamedGame) (diagram : NamedDiagram) (aim : Aim) (choices : List Literal) where
  with_choice : (l : Literal) (set : List Bool) → IsRemaining diagram.lines choices set → IsTrueIn set l → IsRemaining diagram.lines (choices ++ l ∷ []) set
  with_choice l set remains e = record { product = remains.product; agrees = All-append (λ d. IsTrueIn set d) choices (l ∷ []) remains.agrees (e, tt) }

  -- where none meets the aim with a choice, its opposite is forced
  opposite_forced : (f : ℕ) (value : Bool) → NoneMeets game diagram aim (choices ++ choice f (not value) ∷ []) → IsForced game diagram aim choices (choice f value)
  opposite_forced f value lost set remains meets = of (either_value set f value)
    where
      of : IsTrueIn set (choice f value) ⊎ IsTrueIn set (choice f (not value)) → IsTrueIn set (choice f value)
      of (inl e) = e
      of (inr e) = absurd (lost set (with_choice (choice f (not value)) set remains e) meets)

  -- and the other way round
  forced_bars : (f : ℕ) (value : Bool) → IsForced game diagram aim choices (choice f value) → NoneMeets game diagram aim (choices ++ choice f (not value) ∷ [])
  forced_bars f value forced set remains meets = not_both (slice_index_or set f false) value
      (forced set (record { product = remains.product; agrees = All-front (λ d. IsTrueIn set d) choices (choice f (not value) ∷ []) remains.agrees }) meets)
      ((All-back (λ d. IsTrueIn set d) choices (choice f (not value) ∷ []) remains.agrees).0)

  pub none_forced : IsForcing Settles game diagram aim choices [] 0 true
  none_forced = record {
    below = λ l h. absurd (Contains-nil l h);
    in_order = tt;
    not_known = λ l h. absurd (Contains-nil l h);
    forced = λ l h. absurd (Contains-nil l h);
    complete = λ t l less. absurd (omega (arith, less));
    settled = λ s. refl;
  }

  module _ (product : List Bool) (remaining : IsRemaining diagram.lines choices product) (meets : Meets game aim product) (listed : List Literal) (feature : ℕ) (exact : Bool)
      (is : IsForcing Settles game diagram aim choices listed feature exact) where
    abbrev here : Bool
    here = slice_index_or product feature false

    lower : (l : Literal) → Contains listed l → l.feature < feature + 1
    lower l h = let less = is.below l h in omega (arith, less)

    -- the feature itself, or one before it
    further : (more : List Literal) → ((l : Literal) → Contains listed l → Contains more l) → (IsTrue exact → IsForced game diagram aim choices (choice feature here) → IsKnownOf diagram.lines choices (choice feature here) ⊎ Contains more (choice feature here)) →
        IsTrue exact → (l : Literal) → l.feature < feature + 1 → IsForced game diagram aim choices l → IsKnownOf diagram.lines choices l ⊎ Contains more l
    further more wider own t l less forced = of (cases_order l.feature feature)
      where
        earlier : IsKnownOf diagram.lines choices l ⊎ Contains listed l → IsKnownOf diagram.lines choices l ⊎ Contains more l
        earlier (inl k) = inl k
        earlier (inr k) = inr (wider l k)

        same : l.feature ≡ feature → l ≡ choice feature here
        same e = both l feature e (sym (forced product remaining meets) ∙ ap (λ n. slice_index_or product n false) e)
          where
            both : (l : Literal) (f : ℕ) → l.feature ≡ f → l.value ≡ here → l ≡ choice f here
            both l f e v = subst (λ n. l ≡ choice n here) e (subst (λ (b : Bool). l ≡ choice l.feature b) v refl)

        of : (l.feature ≡ feature) ⊎ ((l.feature < feature) ⊎ (feature < l.feature)) → IsKnownOf diagram.lines choices l ⊎ Contains more l
        of (inl e) = subst (λ (x : Literal). IsKnownOf diagram.lines choices x ⊎ Contains more x) (sym (same e)) (own t (subst (λ (x : Literal). IsForced game diagram aim choices x) (same e) forced))
        of (inr (inl k)) = earlier (is.complete t l k forced)
        of (inr (inr k)) = absurd (omega (arith, less, k))

    -- the feature is known
    pub known_next : (known : List Tri) → IsNamedDiagram diagram → IsKnownTable diagram.lines choices known → (slice_index_or known feature Unknown ≡ Unknown → ⊥) → IsForcing Settles game diagram aim choices listed (feature + 1) exact
    known_next known is_diagram t not_open = record {
      below = lower;
      in_order = is.in_order;
      not_known = is.not_known;
      forced = is.forced;
      complete = further listed (λ l h. h) (λ e forced. inl (t.known_only (choice feature here)
          (known_value (slice_index_or known feature Unknown) here here not_open (remaining_products_complete diagram.lines choices known product is_diagram.diagram t remaining feature) refl)));
      settled = is.settled;
    }

    -- it is forced
    pub forced_next : (known : List Tri) → IsKnownTable diagram.lines choices known → slice_index_or known feature Unknown ≡ Unknown → (more : List Literal) → more ≡ listed ++ choice feature here ∷ [] →
        NoneMeets game diagram aim (choices ++ choice feature (not here) ∷ []) → IsForcing Settles game diagram aim choices more (feature + 1) exact
    forced_next known t unknown more e lost = subst (λ (ls : List Literal). IsForcing Settles game diagram aim choices ls (feature + 1) exact) (sym e) (record {
      below = all (λ l. l.feature < feature + 1) lower (omega arith);
      in_order = one_behind listed (choice feature here) is.in_order is.below;
      not_known = all (λ l. ¬ (IsKnownOf diagram.lines choices l)) is.not_known (λ k. no_value (slice_index_or known feature Unknown) here unknown (t.all_known (choice feature here) k));
      forced = all (λ l. IsForced game diagram aim choices l) is.forced (opposite_forced feature here lost);
      complete = further (listed ++ choice feature here ∷ []) (λ l h. Contains-append_left listed (choice feature here ∷ []) l h)
          (λ t forced. inr (Contains-append_right listed (choice feature here ∷ []) (choice feature here) (Contains-here (choice feature here) [])));
      settled = is.settled;
    })
      where
        -- what holds of those listed, and of this one
        all : (Q : Literal → Type 0) → ((l : Literal) → Contains listed l → Q l) → Q (choice feature here) → (l : Literal) → Contains (listed ++ choice feature here ∷ []) l → Q l
        all Q before this l h = of (Contains-append_cases listed (choice feature here ∷ []) l h)
          where
            one : (choice feature here ≡ l) ⊎ Contains [] l → Q l
            one (inl same) = subst (λ (x : Literal). Q x) same this
            one (inr none) = absurd (Contains-nil l none)

            of : Contains listed l ⊎ Contains (choice feature here ∷ []) l → Q l
            of (inl k) = before l k
            of (inr k) = one (Contains-cons (choice feature here) [] l k)

    -- it is not
    pub free_next : (NoneMeets game diagram aim (choices ++ choice feature (not here) ∷ []) → ⊥) → IsForcing Settles game diagram aim choices listed (feature + 1) exact
    free_next free = record {
      below = lower;
      in_order = is.in_order;
      not_known = is.not_known;
      forced = is.forced;
      complete = further listed (λ l h. h) (λ t forced. absurd (free (forced_bars feature here forced)));
      settled = is.settled;
    }

    -- it was not shown
    pub unshown_next : (Settles → ⊥) → IsForcing Settles game diagram aim choices listed (feature + 1) false
    unshown_next unsettled = record {
      below = lower;
      in_order = is.in_order;
      not_known = is.not_known;
      forced = is.forced;
      complete = λ t. absurd (clash t);
      settled = λ s. absurd (unsettled s);
    }
      where
        clash : false ≡ true → ⊥
        clash x = cc

  pub all_forced : (listed : List Literal) (feature : ℕ) (exact : Bool) → feature ≡ feature_count diagram.lines → IsForcing Settles game diagram aim choices listed feature exact → AreNeeds game diagram aim choices listed exact
  all_forced listed feature exact e is = record {
    named = All-from_contained (λ c. c.feature < feature_count diagram.lines) listed (λ l h. subst (λ n. l.feature < n) e (is.below l h));
    in_order = is.in_order;
    not_known = is.not_known;
    forced = is.forced;
    complete = λ t l less. is.complete t l (subst (λ n. l.feature < n) (sym e) less);
  }
