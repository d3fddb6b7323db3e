-- What the searches of a line found, and what one more choice brings.
use Rattle.std.proofs.Common.{◌≡◌, ◌≢◌, ℕ, ◌<◌, ◌⊎◌, inl, inr, Bool, true, false, not, List, [], ◌∷◌, ◌++◌, Contains, length, slice_index, slice_index_or, refl, sym, subst}
use Rattle.std.specs.Prelude.{◌||◌, if◌then◌else◌}
use Rattle.std.specs.List.{list_any}
use Rattle.std.proofs.lemmas.List.Elements.{Contains-append_left, Contains-append_cases}
use Rattle.vpg_diagram.specs.DiagramText.{NamedDiagram, IsNamedDiagram}
use Rattle.vpg_diagram.specs.FeatureDiagram.{feature_count}
use Rattle.vpg_diagram.specs.Clauses.{IsTrueIn, is_true_in}
use Rattle.vpg_diagram.specs.declared.clause.Literal.{Literal}
use Rattle.vpg_diagram.proofs.Lists.{All-append, All-front, Contains-nil, Contains-only}
use Rattle.vpg_game.specs.Game.{NamedGame, IsGame, graph_of}
use Rattle.vpg_partial.specs.KnownLaws.{IsRemaining}
use Rattle.vpg_partial.specs.TableLaws.{AreChoicesOf}
use Rattle.vpg_measure.specs.Orders.{OrderView, IsOrder, order_table}
use Rattle.vpg_measure.specs.TwoGames.{top_for}
use Rattle.vpg_sides.specs.declared.which.Which.{Which}
use Rattle.vpg_why.specs.declared.foreseeing.Findings.{Findings}
use Rattle.vpg_why.specs.declared.foreseeing.Side.{Side}
use Rattle.vpg_why.specs.declared.question.Aim.{Aim}
use Rattle.vpg_why.specs.declared.question.Aim.TheVariants as aims
use Rattle.vpg_why.specs.declared.question.Limits.{Limits}
use Rattle.vpg_why.specs.declared.question.Question.TheVariants as asks
use Rattle.vpg_why.specs.declared.question.Shown.{Shown}
use Rattle.vpg_why.specs.declared.question.Shown.TheVariants as shown
use Rattle.vpg_why.specs.declared.searching.Example.{Example}
use Rattle.vpg_why.specs.declared.searching.Found.{Found}
use Rattle.vpg_why.specs.declared.searching.Found.TheVariants as founds
use Rattle.vpg_why.specs.Eased.{IsEased}
use Rattle.vpg_why.specs.Explained.{choices}
use Rattle.vpg_why.specs.Foreseen.{AreFindings, IsSide, SomeMeets}
use Rattle.vpg_why.specs.Found.{AllMeet, IsSought}
use Rattle.vpg_why.specs.Offered.{IsShown}
use Rattle.vpg_why.specs.Products.{IsForced, NoneMeets}
use Rattle.vpg_why.specs.Suffices.{choice, IsSettled}
use Rattle.vpg_why.proofs.Distinct.{yes_no, yes_unsettled, no_yes, no_unsettled}
use Rattle.vpg_why.proofs.Eased.{eased_settles}
use Rattle.vpg_why.proofs.Losing.{sufficient_choices_lose}
use Rattle.vpg_why.proofs.Monotone.{more_choices_suffice}
use Rattle.vpg_why.proofs.OpenFeatures.{either_value}
use Rattle.vpg_why.proofs.Ordered.{made}
use Rattle.vpg_why.proofs.Sought.{one_more}

clash : false ≡ true → ⊥
clash e = cc

-- a literal that passes its test is true
passed : (v c : Bool) → (if v then c else not c) ≡ true → c ≡ v
passed true c e = e
passed false true e = cc
passed false false e = refl

pub only_conflict : (x : Shown) → (x ≡ shown.No → ⊥) → x ≢ shown.Unsettled → x ≡ shown.Yes
only_conflict shown.Yes a b = refl
only_conflict shown.No a b = absurd (a refl)
only_conflict shown.Unsettled a b = absurd (b refl)

module _ (game : NamedGame) (diagram : NamedDiagram) (aim : Aim) (own : List Literal) where
  more_remains : (c : Literal) (set : List Bool) → IsRemaining diagram.lines own set → IsTrueIn set c → IsRemaining diagram.lines (own ++ c ∷ []) set
  more_remains c set remains e = record { product = remains.product; agrees = All-append (λ d. IsTrueIn set d) own (c ∷ []) remains.agrees (e, tt) }

  fewer_remains : (c : Literal) (set : List Bool) → IsRemaining diagram.lines (own ++ c ∷ []) set → IsRemaining diagram.lines own set
  fewer_remains c set left = record { product = left.product; agrees = All-front (λ d. IsTrueIn set d) own (c ∷ []) left.agrees }

  -- ---- findings

  pub none_found : (findings : Findings) → findings.met.items ≡ [] → findings.forced.items ≡ [] → AreFindings game diagram aim own findings
  none_found findings no_met no_forced = record {
    met = subst (λ (es : List Example). AllMeet game diagram aim own es) (sym no_met) tt;
    named = subst (λ (ls : List Literal). AreChoicesOf diagram.lines ls) (sym no_forced) tt;
    forced = λ l h. absurd (Contains-nil l (subst (λ (ls : List Literal). Contains ls l) no_forced h));
  }

  -- the first product has the literal, or a further one has
  found_here : (c : Literal) (e : Example) (rest : List Example) (b : Bool) → is_true_in e.features.items c ≡ b → AllMeet game diagram aim own (e ∷ rest) →
      (list_any (λ x. is_true_in x.features.items c) rest ≡ true → SomeMeets game diagram aim (own ++ c ∷ [])) →
      (b || list_any (λ x. is_true_in x.features.items c) rest) ≡ true → SomeMeets game diagram aim (own ++ c ∷ [])
  found_here c e rest true t are further k = (e.features.items, more_remains c e.features.items are.0.0 (passed c.value (slice_index_or e.features.items c.feature false) t), are.0.1)
  found_here c e rest false t are further k = further k

  -- one of the products has the literal
  pub found_with : (c : Literal) (met : List Example) → AllMeet game diagram aim own met → list_any (λ e. is_true_in e.features.items c) met ≡ true → SomeMeets game diagram aim (own ++ c ∷ [])
  found_with c [] are h = absurd (clash h)
  found_with c (e ∷ rest) are h = found_here c e rest (is_true_in e.features.items c) refl are (λ k. found_with c rest are.1 k) h

  -- a product that is found with the choice is left without it
  sought_without : (c : Literal) (e : Example) → IsSought game diagram aim (own ++ c ∷ []) (founds.Product e) → IsSought game diagram aim own (founds.Product e)
  sought_without c e (left, meets) = (fewer_remains c e.features.items left, meets)

  pub product_learned : (c : Literal) (old new : Findings) (e : Example) → new.met.items ≡ old.met.items ++ e ∷ [] → new.forced.items ≡ old.forced.items →
      IsSought game diagram aim (own ++ c ∷ []) (founds.Product e) → AreFindings game diagram aim own old → AreFindings game diagram aim own new
  product_learned c old new e more same sought are = record {
    met = subst (λ (es : List Example). AllMeet game diagram aim own es) (sym more) (one_more game diagram aim own old.met.items e are.met (sought_without c e sought));
    named = subst (λ (ls : List Literal). AreChoicesOf diagram.lines ls) (sym same) are.named;
    forced = λ l h. are.forced l (subst (λ (ls : List Literal). Contains ls l) same h);
  }

  -- where no product with the choice meets the aim, each that meets it has the opposite literal
  other_forced : (c : Literal) → NoneMeets game diagram aim (own ++ c ∷ []) → IsForced game diagram aim own (choice c.feature (not c.value))
  other_forced c lost set remains meets = of (either_value set c.feature c.value)
    where
      of : IsTrueIn set (choice c.feature c.value) ⊎ IsTrueIn set (choice c.feature (not c.value)) → IsTrueIn set (choice c.feature (not c.value))
      of (inl e) = absurd (lost set (more_remains c set remains e) meets)
      of (inr e) = e

  pub loss_learned : (c : Literal) (old new : Findings) → new.met.items ≡ old.met.items → new.forced.items ≡ old.forced.items ++ choice c.feature (not c.value) ∷ [] →
      c.feature < feature_count diagram.lines → NoneMeets game diagram aim (own ++ c ∷ []) → AreFindings game diagram aim own old → AreFindings game diagram aim own new
  loss_learned c old new same more less lost are = record {
    met = subst (λ (es : List Example). AllMeet game diagram aim own es) (sym same) are.met;
    named = subst (λ (ls : List Literal). AreChoicesOf diagram.lines ls) (sym more)
        (All-append (λ (l : Literal). l.feature < feature_count diagram.lines) old.forced.items (choice c.feature (not c.value) ∷ []) are.named (less, tt));
    forced = λ l h. of l (Contains-append_cases old.forced.items (choice c.feature (not c.value) ∷ []) l (subst (λ (ls : List Literal). Contains ls l) more h));
  }
    where
      of : (l : Literal) → Contains old.forced.items l ⊎ Contains (choice c.feature (not c.value) ∷ []) l → IsForced game diagram aim own l
      of l (inl k) = are.forced l k
      of l (inr k) = subst (λ (x : Literal). IsForced game diagram aim own x) (Contains-only (choice c.feature (not c.value)) l k) (other_forced c lost)

  -- ---- the easier aim

  pub sought_eased : (eased : Aim) (c : Literal) (found : Found) → IsEased game diagram own aim eased → IsSought game diagram eased (own ++ c ∷ []) found → IsSought game diagram aim (own ++ c ∷ []) found
  sought_eased aims.Any c (founds.Product e) each (left, meets) = (left, each e.features.items (fewer_remains c e.features.items left))
  sought_eased aims.Any c founds.Nothing each lost = λ set remains meets. lost set remains tt
  sought_eased aims.Any c founds.Unsettled each s = tt
  sought_eased (aims.Won which vertex) c found same s = subst (λ (a : Aim). IsSought game diagram a (own ++ c ∷ []) found) (sym same) s

  pub forced_eased : (eased : Aim) (l : Literal) → IsEased game diagram own aim eased → IsForced game diagram aim own l → IsForced game diagram eased own l
  forced_eased aims.Any l each forced = λ set remains meets. forced set remains (each set remains)
  forced_eased (aims.Won which vertex) l same forced = subst (λ (a : Aim). IsForced game diagram a own l) same forced

  pub room_eased : (eased : Aim) (limits : Limits) (c : Literal) → IsEased game diagram own aim eased → IsSettled game diagram limits (asks.Lost aim) (own ++ c ∷ []) →
      IsSettled game diagram limits (asks.Lost eased) (own ++ c ∷ [])
  room_eased eased limits c e s = (eased_settles game diagram own aim eased limits.rounds (own ++ c ∷ []) e s.0, s.1)

-- ---- a vertex

module _ (game : NamedGame) (diagram : NamedDiagram) (limits : Limits) (vertex : ℕ) (which : Which) (own : List Literal) (is : IsGame game) (is_diagram : IsNamedDiagram diagram)
    (named : AreChoicesOf diagram.lines own) (inside : vertex < length game.vertices) where
  -- a verdict that is made bars the products
  pub barred : (verdict : Shown) → verdict ≡ shown.Yes → IsShown limits.rounds game diagram vertex own which verdict → NoneMeets game diagram (aims.Won which vertex) own
  barred verdict e so = sufficient_choices_lose game diagram which vertex own is is_diagram named inside (so.yes e)

  -- and a product shows that it is not
  pub side_met : SomeMeets game diagram (aims.Won which vertex) own → (side : Side) → side.verdict ≡ shown.No → side.met ≡ shown.Yes → IsSide limits game diagram vertex own which side
  side_met some side is_no is_yes = record {
    verdict = record {
      yes = λ e. absurd (no_yes (subst (λ (x : Shown). x ≡ shown.Yes) is_no e));
      no = λ e enough. sufficient_choices_lose game diagram which vertex own is is_diagram named inside enough some.0 some.1 some.2;
      settled = λ s e. no_unsettled (subst (λ (x : Shown). x ≡ shown.Unsettled) is_no e);
    };
    yes = λ e. some;
    no = λ e. absurd (yes_no (subst (λ (x : Shown). x ≡ shown.No) is_yes e));
    settled = λ s e. yes_unsettled (subst (λ (x : Shown). x ≡ shown.Unsettled) is_yes e);
  }

-- what a search found is the side's
pub side_found : (game : NamedGame) (diagram : NamedDiagram) (limits : Limits) (vertex : ℕ) (which : Which) (own : List Literal) (found : Found) (side : Side) →
    IsShown limits.rounds game diagram vertex own which side.verdict → IsSought game diagram (aims.Won which vertex) own found →
    (IsSettled game diagram limits (asks.Lost (aims.Won which vertex)) own → found ≢ founds.Unsettled) →
    (side.met ≡ shown.Yes → SomeMeets game diagram (aims.Won which vertex) own) → (side.met ≡ shown.No → found ≡ founds.Nothing) →
    (found ≢ founds.Unsettled → side.met ≢ shown.Unsettled) → IsSide limits game diagram vertex own which side
side_found game diagram limits vertex which own found side verdict sought settled when_yes when_no told = record {
  verdict = verdict;
  yes = when_yes;
  no = λ e. subst (λ (f : Found). IsSought game diagram (aims.Won which vertex) own f) (when_no e) sought;
  settled = λ s. told (settled s);
}

-- the page's verdict stays after one more choice
pub stays_after : (order : OrderView) (is : IsOrder order) (limits : Limits) (which : Which) (vertex : ℕ) (c : Literal) → vertex < length order.game.vertices →
    slice_index (order_table which order) vertex ≡ top_for which (graph_of order.game) → IsShown limits.rounds order.game order.diagram vertex (choices order.decisions ++ c ∷ []) which shown.Yes
stays_after order is limits which vertex c inside high = record {
  yes = λ e. more_choices_suffice (graph_of order.game) order.diagram.lines (asks.Verdict which vertex) (choices order.decisions) (choices order.decisions ++ c ∷ []) is.diagram.diagram is.named
      (λ x h. Contains-append_left (choices order.decisions) (c ∷ []) x h) (made order is which vertex inside high);
  no = λ e. absurd (yes_no e);
  settled = λ s e. yes_unsettled e;
}
