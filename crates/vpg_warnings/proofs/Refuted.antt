-- Guards that are refuted are true in no product.
use Rattle.std.proofs.Common.{◌≡◌, ℕ, suc, ◌<◌, ◌≤◌, ◌⊎◌, inl, inr, Bool, true, false, List, [], ◌∷◌, ◌++◌, length, get_or, Contains, All, refl, sym, ap, ◌∙◌, subst, arith}
use Rattle.std.specs.Prelude.{Result, Ok, Err, IfOk}
use Rattle.std.specs.declared.alloc.AllocError.{AllocError}
use Rattle.std.proofs.lemmas.List.{length-map, get_or-map}
use Rattle.std.proofs.lemmas.List.Elements.{All-contains, Contains-append_left, Contains-push, Contains-push_cases}
use Rattle.vpg_features.proofs.Noted.{any_default}
use Rattle.vpg_guards.specs.declared.tri.Tri.{Tri}
use Rattle.vpg_guards.specs.declared.tri.Tri.TheVariants.{No, Unknown, Yes}
use Rattle.vpg_guards.specs.Formula.{Formula, truth, named, IsBelow}
use Rattle.vpg_guards.specs.Known.{kleene, Agrees}
use Rattle.vpg_guards.proofs.Kleene.{known_values_hold}
use Rattle.vpg_guards.proofs.Named.{named_below}
use Rattle.vpg_diagram.specs.declared.clause.Literal.{Literal}
use Rattle.vpg_diagram.specs.Clauses.{clauses_of, counts_of, IsTrueIn}
use Rattle.vpg_diagram.specs.FeatureDiagram.{Line, IsDiagram, chosen, feature_count}
use Rattle.vpg_diagram.proofs.ProductLemmas.{lines_from_product}
use Rattle.vpg_diagram.proofs.FormulaLemmas.{formula_from_lines}
use Rattle.vpg_diagram.proofs.Lists.{All-append, Contains-nil}
use Rattle.vpg_partial.specs.Known.{NamesConflict}
use Rattle.vpg_partial.specs.KnownLaws.{IsRemaining}
use Rattle.vpg_partial.specs.TableLaws.{AreChoicesOf, IsKnownTable}
use Rattle.vpg_partial.proofs.KnownLemmas.{no_set_with_conflict, conflict_named}
use Rattle.vpg_partial.proofs.Tables.{remaining_products_complete}
use Rattle.vpg_system.specs.SystemText.{Transition, NamedSystem}
use Rattle.vpg_system.specs.SystemView.{transition_of, transitions_of}
use Rattle.vpg_system.specs.System.{IsSystem, IsTransition}
use Rattle.vpg_system.specs.declared.transition.Transition as kept
use Rattle.vpg_guards.specs.View.{formula_of}
use Rattle.vpg_system_draw.specs.Arrows.{no_transition}
use Rattle.vpg_warnings.specs.Guards.{IsRefuted, IsOpen, IsFound, IsNo, IsJudged, AreTriedOf, IsNoted, decided, contradicted, known_false, both_ways, left, choose}

module _ (lines : List Line) (guard : Formula) (is : IsDiagram lines) (set : List Bool) where
  none_with : (choices : List Literal) (f : ℕ) → NamesConflict (clauses_of lines) (counts_of lines) choices f → IsRemaining lines choices set → ⊥
  none_with choices f names r =
      no_set_with_conflict (clauses_of lines) (counts_of lines) choices set (formula_from_lines lines set (lines_from_product lines set is r.product)) r.agrees
      (conflict_named (clauses_of lines) (counts_of lines) choices f names)

  no_value : (value : Tri) (b : Bool) → value ≡ No → Agrees value b → b ≡ false
  no_value No b e a = a
  no_value Unknown b e a = absurd cc
  no_value Yes b e a = absurd cc

  one_more : (choices : List Literal) (f : ℕ) (value : Bool) → IsRemaining lines choices set → chosen set f ≡ value → IsRemaining lines (choices ++ decided f value ∷ []) set
  one_more choices f value r e = record {
    product = r.product;
    agrees = All-append (λ (d : Literal). IsTrueIn set d) choices (decided f value ∷ []) r.agrees (e, tt);
  }

  cases : (b : Bool) → (b ≡ true → truth set guard ≡ false) → (b ≡ false → truth set guard ≡ false) → truth set guard ≡ false
  cases true h k = h refl
  cases false h k = k refl

  pub refuted : (features : List ℕ) (choices : List Literal) → IsRefuted lines guard features choices → IsRemaining lines choices set → truth set guard ≡ false
  refuted features choices (contradicted f names) r = absurd (none_with choices f names r)
  refuted features choices (known_false known table untrue) r =
      no_value (kleene known guard) (truth set guard) untrue (known_values_hold known set guard (remaining_products_complete lines choices known set is table r))
  refuted (f ∷ features) choices (both_ways within without) r =
      cases (chosen set f)
      (λ e. refuted features (choices ++ decided f true ∷ []) within (one_more choices f true r e))
      (λ e. refuted features (choices ++ decided f false ∷ []) without (one_more choices f false r e))

pub judged : (lines : List Line) (guard : Formula) (features : List ℕ) (b : Bool) → IsDiagram lines → AreTriedOf (named guard) features →
    IsFound lines guard features [] b → IsJudged lines guard b
judged lines guard features true is tried found = λ set product. refuted lines guard is set features [] found (record { product = product; agrees = tt })
judged lines guard features false is tried found = record { features = features; tried = tried.each; is_open = found }

pub judged_by : (lines : List Line) (guard : Formula) (features : List ℕ) (r : Result Bool AllocError) → IsDiagram lines → AreTriedOf (named guard) features →
    IfOk r (IsFound lines guard features []) → IfOk r (IsJudged lines guard)
judged_by lines guard features (Ok b) is tried found = judged lines guard features b is tried found
judged_by lines guard features (Err fault) is tried found = tt

-- what is tried is below what the guard is below
pub tried_below : (n : ℕ) (guard : Formula) (features : List ℕ) → IsBelow n guard → AreTriedOf (named guard) features → All (λ f. f < n) features
tried_below n guard features below tried k d less =
    let f : ℕ = get_or features k d in
    let its : Contains features f = (k, less, any_default features k f d less) in
    let in_named : Contains (named guard) f = tried.only f its in
    All-contains (λ (g : ℕ). g < n) (named guard) f (named_below n guard below) in_named

-- ---- the search

module _ (lines : List Line) (guard : Formula) where
  pub found_value : (choices : List Literal) (known : List Tri) (b : Bool) → IsKnownTable lines choices known → IsNo (kleene known guard) b → IsFound lines guard [] choices b
  found_value choices known true table value = known_false known table value
  found_value choices known false table value = left known table value

  pub closed_any : (features : List ℕ) (choices : List Literal) → IsRefuted lines guard [] choices → IsRefuted lines guard features choices
  closed_any features choices (contradicted f names) = contradicted f names
  closed_any features choices (known_false known table untrue) = known_false known table untrue

  pub found_closed : (features : List ℕ) (choices : List Literal) (b : Bool) → b ≡ true → IsFound lines guard [] choices b → IsRefuted lines guard features choices
  found_closed features choices true e h = closed_any features choices h
  found_closed features choices false e h = absurd cc

  pub found_none : (features : List ℕ) (choices : List Literal) (b : Bool) → length features ≡ 0 → IsFound lines guard [] choices b → IsFound lines guard features choices b
  found_none [] choices b e h = h
  found_none (f ∷ features) choices b e h = absurd (omega (arith, e))

  pub found_open : (f : ℕ) (rest features : List ℕ) (choices more : List Literal) (b : Bool) → features ≡ f ∷ rest → more ≡ choices ++ decided f true ∷ [] → b ≡ false →
      IsFound lines guard rest more b → IsOpen lines guard features choices
  found_open f rest features choices more true e d n h = absurd cc
  found_open f rest features choices more false e d n h =
      subst (λ (fs : List ℕ). IsOpen lines guard fs choices) (sym e) (choose true (subst (λ (cs : List Literal). IsOpen lines guard rest cs) d h))

  found_last : (f : ℕ) (rest : List ℕ) (choices : List Literal) (b : Bool) → IsRefuted lines guard rest (choices ++ decided f true ∷ []) →
      IsFound lines guard rest (choices ++ decided f false ∷ []) b → IsFound lines guard (f ∷ rest) choices b
  found_last f rest choices true within h = both_ways within h
  found_last f rest choices false within h = choose false h

  refuted_by : (features : List ℕ) (choices : List Literal) (b : Bool) → b ≡ true → IsFound lines guard features choices b → IsRefuted lines guard features choices
  refuted_by features choices true e h = h
  refuted_by features choices false e h = absurd cc

  pub found_by_last : (f : ℕ) (rest features : List ℕ) (choices more others : List Literal) (b : Bool) (r : Result Bool AllocError) → features ≡ f ∷ rest →
      more ≡ choices ++ decided f true ∷ [] → others ≡ choices ++ decided f false ∷ [] → b ≡ true →
      IsFound lines guard rest more b → IfOk r (IsFound lines guard rest others) → IfOk r (IsFound lines guard features choices)
  found_by_last f rest features choices more others b (Ok x) e d o n within h =
      subst (λ (fs : List ℕ). IsFound lines guard fs choices x) (sym e)
      (found_last f rest choices x (subst (λ (cs : List Literal). IsRefuted lines guard rest cs) d (refuted_by rest more b n within)) (subst (λ (cs : List Literal). IsFound lines guard rest cs x) o h))
  found_by_last f rest features choices more others b (Err fault) e d o n within h = tt

-- one choice more
pub more_choices : (lines : List Line) (f : ℕ) (rest features : List ℕ) (value : Bool) (choices more : List Literal) → features ≡ f ∷ rest → All (λ g. g < feature_count lines) features →
    more ≡ choices ++ decided f value ∷ [] → AreChoicesOf lines choices → AreChoicesOf lines more
more_choices lines f rest features value choices more e below d are =
    subst (AreChoicesOf lines) (sym d) (All-append (λ (c : Literal). c.feature < feature_count lines) choices (decided f value ∷ []) are (first, tt))
  where
    first : f < feature_count lines
    first = (subst (λ (fs : List ℕ). All (λ g. g < feature_count lines) fs) e below) 0 0 (omega arith)

pub rest_below : (n f : ℕ) (rest features : List ℕ) → features ≡ f ∷ rest → All (λ g. g < n) features → All (λ g. g < n) rest
rest_below n f rest features e below k d less = (subst (λ (fs : List ℕ). All (λ g. g < n) fs) e below) (suc k) d (omega (arith, less))

-- ---- features that are noted

pub tried_none : AreTriedOf [] []
tried_none = record { each = λ f c. absurd (Contains-nil f c); only = λ f c. c }

module _ (names front next features later : List ℕ) (f : ℕ) (are : next ≡ front ++ f ∷ []) (tried : AreTriedOf front features) (noted : IsNoted features f later) where
  pub tried_next : AreTriedOf next later
  tried_next = record {
    each = λ g c. each g (Contains-push_cases front f g (subst (λ (xs : List ℕ). Contains xs g) are c));
    only = λ g c. only g (noted.only g c);
  }
    where
      had : (g : ℕ) → Contains features g ⊎ (6 ≤ length features) → Contains later g ⊎ (6 ≤ length later)
      had g (inl c) = inl (noted.kept g c)
      had g (inr full) = inr (omega (arith, full, noted.longer))

      each : (g : ℕ) → Contains front g ⊎ (f ≡ g) → Contains later g ⊎ (6 ≤ length later)
      each g (inl c) = had g (tried.each g c)
      each g (inr e) = subst (λ (k : ℕ). Contains later k ⊎ (6 ≤ length later)) e noted.noted

      only : (g : ℕ) → Contains features g ⊎ (g ≡ f) → Contains next g
      only g (inl c) = subst (λ (xs : List ℕ). Contains xs g) (sym are) (Contains-append_left front (f ∷ []) g (tried.only g c))
      only g (inr e) = subst (λ (xs : List ℕ). Contains xs g) (sym are) (subst (λ (k : ℕ). Contains (front ++ f ∷ []) k) (sym e) (Contains-push front f))

-- ---- transitions

count_is : (ts : List kept.Transition) (system : NamedSystem) → transitions_of ts ≡ system.transitions → length ts ≡ length system.transitions
count_is ts system are = sym (length-map ts transition_of) ∙ ap length are

pub guard_below : (ts : List kept.Transition) (system : NamedSystem) (at : ℕ) (t : kept.Transition) → transitions_of ts ≡ system.transitions → at < length system.transitions → t ≡ get_or ts at t →
    IsSystem system → IsBelow system.features (formula_of (get_or ts at t).guard)
guard_below ts system at t are less is sound =
    subst (λ (u : kept.Transition). IsBelow system.features (formula_of u.guard)) is
    (subst (IsTransition system.features system.states (length system.actions)) (sym transition_is) (sound.transitions_are at no_transition less)).guard_is.below
  where
    transition_is : transition_of t ≡ get_or system.transitions at no_transition
    transition_is = ap transition_of is
        ∙ (sym (get_or-map transition_of ts at t no_transition (subst (λ (n : ℕ). at < n) (sym (count_is ts system are)) less))
        ∙ ap (λ (us : List Transition). get_or us at no_transition) are)
