-- What is known grows, and no product is lost.
use Rattle.std.proofs.Common.{◌≡◌, ◌≢◌, ℕ, zero, suc, ◌+◌, ◌<◌, ◌⊎◌, inl, inr, Option, Bool, true, false, IsTrue, List, [], ◌∷◌, ◌++◌, length, map, slice_index_or, get_or, take, refl, sym, ap, ◌∙◌, subst, arith}
use Rattle.std.specs.List.{AllByRecursion}
use Rattle.std.specs.Option.{option_map}
use Rattle.std.proofs.Math.ListN.{set, length-set}
use Rattle.std.proofs.lemmas.Bool.{cases_eq}
use Rattle.std.proofs.lemmas.List.{get_or-set_same, get_or-set_other, map-append, take-map, take_more}
use Rattle.std.proofs.lemmas.Option.{slice_get-get_or, slice_get-map}
use Rattle.vpg_guards.specs.declared.tri.Tri.{Tri}
use Rattle.vpg_guards.specs.declared.tri.Tri.TheVariants.{No, Unknown, Yes}
use Rattle.vpg_guards.specs.Known.{Agrees, IsCompletion, IsFiner, IsFinerValue}
use Rattle.vpg_diagram.specs.FeatureDiagram.{Line, IsDiagram, IsProduct, feature_count, chosen}
use Rattle.vpg_diagram.specs.Clauses.{IsTrueIn, MeetsAll, clauses_of, counts_of}
use Rattle.vpg_diagram.specs.declared.clause.Literal.{Literal}
use Rattle.vpg_diagram.specs.Tally.{Tally}
use Rattle.vpg_diagram.proofs.Lists.{All-at, All-front, All-back}
use Rattle.vpg_diagram.proofs.ProductLemmas.{lines_from_product}
use Rattle.vpg_diagram.proofs.FormulaLemmas.{formula_from_lines}
use Rattle.vpg_partial.specs.Known.{AgreesWithChoices, literal_of}
use Rattle.vpg_partial.specs.declared.decision.Decision.{Decision}
use Rattle.vpg_products.specs.Growing.{GrowsBy, GrowsWith, LeavesNone, AreRefuted, tri_of}
use Rattle.vpg_products.specs.Stepping.{IsAdded, IsStep}
use Rattle.vpg_products.specs.declared.stepping.Step.{Step}
use Rattle.vpg_products.specs.declared.stepping.Step.TheVariants as steps

pub finer_same : (t : Tri) → IsFinerValue t t
finer_same No = refl
finer_same Unknown = tt
finer_same Yes = refl

finer_more : (t u v : Tri) → IsFinerValue t u → IsFinerValue u v → IsFinerValue t v
finer_more No u v h k = subst (λ (x : Tri). IsFinerValue x v) h k
finer_more Unknown u v h k = tt
finer_more Yes u v h k = subst (λ (x : Tri). IsFinerValue x v) h k

agrees_with : (v b : Bool) → b ≡ v → Agrees (tri_of v) b
agrees_with true b e = e
agrees_with false b e = e

pub meets_all : (lines : List Line) (features : List Bool) → IsDiagram lines → IsProduct lines features → MeetsAll (clauses_of lines) (counts_of lines) features
meets_all lines features is p = formula_from_lines lines features (lines_from_product lines features is p)

all_take : {X : Type 0} (P : X → Type 0) (n : ℕ) (xs : List X) → AllByRecursion P xs → AllByRecursion P (take n xs)
all_take P zero xs a = tt
all_take P (suc n) [] a = tt
all_take P (suc n) (x ∷ xs) a = (a.0, all_take P n xs a.1)

module _ (lines : List Line) where
  pub grows_none : (known : List Tri) → GrowsBy lines known known
  grows_none known = record { same_length = refl; finer = λ f. finer_same (slice_index_or known f Unknown); kept = λ features p comp. comp }

  pub grows_more : (old mid new : List Tri) → GrowsBy lines old mid → GrowsBy lines mid new → GrowsBy lines old new
  grows_more old mid new g h = record {
    same_length = h.same_length ∙ g.same_length;
    finer = λ f. finer_more (slice_index_or old f Unknown) (slice_index_or mid f Unknown) (slice_index_or new f Unknown) (g.finer f) (h.finer f);
    kept = λ features p comp. h.kept features p (g.kept features p comp);
  }

  pub none_before : (old new : List Tri) → GrowsBy lines old new → LeavesNone lines new → LeavesNone lines old
  none_before old new g none features p comp = none features p (g.kept features p comp)

  -- one more value
  module _ (known : List Tri) (l : Literal) (below : l.feature < length known) where
    abbrev more : List Tri
    more = set known l.feature (tri_of l.value)

    at : (f : ℕ) → (f ≡ l.feature) ⊎ (f ≡ l.feature → ⊥)
    at f = cases_eq f l.feature

    value_here : slice_index_or more l.feature Unknown ≡ tri_of l.value
    value_here = get_or-set_same known l.feature (tri_of l.value) Unknown below

    value_else : (f : ℕ) → (f ≡ l.feature → ⊥) → slice_index_or more f Unknown ≡ slice_index_or known f Unknown
    value_else f n = get_or-set_other known l.feature f (tri_of l.value) Unknown n

    pub set_with : GrowsWith lines l known (set known l.feature (tri_of l.value))
    set_with features p has comp f = of (at f)
      where
        of : (f ≡ l.feature) ⊎ (f ≡ l.feature → ⊥) → Agrees (slice_index_or more f Unknown) (slice_index_or features f false)
        of (inl e) = subst (λ (g : ℕ). Agrees (slice_index_or more g Unknown) (slice_index_or features g false)) (sym e)
            (subst (λ (t : Tri). Agrees t (slice_index_or features l.feature false)) (sym value_here) (agrees_with l.value (slice_index_or features l.feature false) has))
        of (inr n) = subst (λ (t : Tri). Agrees t (slice_index_or features f false)) (sym (value_else f n)) (comp f)

    pub set_finer : slice_index_or known l.feature Unknown ≡ Unknown → IsFiner known (set known l.feature (tri_of l.value))
    set_finer was f = of (at f)
      where
        of : (f ≡ l.feature) ⊎ (f ≡ l.feature → ⊥) → IsFinerValue (slice_index_or known f Unknown) (slice_index_or more f Unknown)
        of (inl e) = subst (λ (t : Tri). IsFinerValue t (slice_index_or more f Unknown)) (sym (ap (λ (g : ℕ). slice_index_or known g Unknown) e ∙ was)) tt
        of (inr n) = subst (λ (t : Tri). IsFinerValue (slice_index_or known f Unknown) t) (sym (value_else f n)) (finer_same (slice_index_or known f Unknown))

  -- what a rule adds
  pub adds_grows : (known new : List Tri) (l : Literal) → IsDiagram lines → IsAdded (MeetsAll (clauses_of lines) (counts_of lines)) known l →
      new ≡ set known l.feature (tri_of l.value) → GrowsBy lines known new
  adds_grows known new l is a e = subst (λ (ts : List Tri). GrowsBy lines known ts) (sym e) (record {
    same_length = length-set known l.feature (tri_of l.value);
    finer = set_finer known l a.below a.unknown;
    kept = λ features p comp. set_with known l a.below features p (a.follows features (meets_all lines features is p) comp) comp;
  })

  pub fails_none : (known : List Tri) → IsDiagram lines → IsStep (MeetsAll (clauses_of lines) (counts_of lines)) known steps.Fails → LeavesNone lines known
  fails_none known is none features p comp = none features (meets_all lines features is p) comp

  -- what a step says of the diagram's rules
  module _ (clauses : List (List Literal)) (counts : List Tally) (known : List Tri) (step : Step) (is : IsDiagram lines) (same : clauses ≡ clauses_of lines) (same_counts : counts ≡ counts_of lines)
      (says : IsStep (MeetsAll clauses counts) known step) where
    of_lines : IsStep (MeetsAll (clauses_of lines) (counts_of lines)) known step
    of_lines = subst (λ (cs : List (List Literal)). IsStep (MeetsAll cs (counts_of lines)) known step) same
        (subst (λ (ns : List Tally). IsStep (MeetsAll clauses ns) known step) same_counts says)

    pub step_adds : (new : List Tri) (l : Literal) (value : Tri) → step ≡ steps.Adds l → value ≡ tri_of l.value → new ≡ set known l.feature value → GrowsBy lines known new
    step_adds new l value e v n = adds_grows known new l is (subst (λ (s : Step). IsStep (MeetsAll (clauses_of lines) (counts_of lines)) known s) e of_lines) (n ∙ ap (λ (t : Tri). set known l.feature t) v)

    pub step_fails : step ≡ steps.Fails → LeavesNone lines known
    step_fails e = fails_none known is (subst (λ (s : Step). IsStep (MeetsAll (clauses_of lines) (counts_of lines)) known s) e of_lines)

  -- ---- decisions

  -- what was added for some choices
  abbrev pub GrewWith : (choices : List Literal) (old new : List Tri) → Type 0
  GrewWith choices old new = (features : List Bool) → IsProduct lines features → AgreesWithChoices features choices → IsCompletion old features → IsCompletion new features

  pub grew_none : (old new : List Tri) → new ≡ old → GrewWith [] old new
  grew_none old new e features p a comp = subst (λ (ts : List Tri). IsCompletion ts features) (sym e) comp

  all_front : (features : List Bool) (choices : List Literal) (l : Literal) → AgreesWithChoices features (choices ++ l ∷ []) → AgreesWithChoices features choices
  all_front features choices l a = All-front (λ d. IsTrueIn features d) choices (l ∷ []) a

  last : (features : List Bool) (choices : List Literal) (l : Literal) → AgreesWithChoices features (choices ++ l ∷ []) → IsTrueIn features l
  last features choices l a = (All-back (λ d. IsTrueIn features d) choices (l ∷ []) a).0

  pub grew_more : (choices : List Literal) (l : Literal) (old mid new : List Tri) → GrewWith choices old mid → GrowsWith lines l mid new → GrewWith (choices ++ l ∷ []) old new
  grew_more choices l old mid new g h features p a comp = h features p (last features choices l a) (g features p (all_front features choices l a) comp)

  pub refuted_more : (choices : List Literal) (l : Literal) (old mid : List Tri) → GrewWith choices old mid → AreRefuted lines mid (l ∷ []) → AreRefuted lines old (choices ++ l ∷ [])
  refuted_more choices l old mid g r features p comp a = r features p (g features p (all_front features choices l a) comp) (last features choices l a, tt)

  -- of decisions in turn
  choices_next : (ds : List Decision) (i : ℕ) (d e : Decision) → i < length ds → get_or ds i d ≡ e → map literal_of (take (i + 1) ds) ≡ map literal_of (take i ds) ++ literal_of e ∷ []
  choices_next ds i d e less is = ap (λ (xs : List Decision). map literal_of xs) (take_more ds i d less ∙ ap (λ (x : Decision). take i ds ++ x ∷ []) is) ∙ map-append literal_of (take i ds) (e ∷ [])

  pub grew_next : (ds : List Decision) (i : ℕ) (d e : Decision) (old mid new : List Tri) → i < length ds → get_or ds i d ≡ e → GrewWith (map literal_of (take i ds)) old mid → GrowsWith lines (literal_of e) mid new →
      GrewWith (map literal_of (take (i + 1) ds)) old new
  grew_next ds i d e old mid new less is g h = subst (λ (cs : List Literal). GrewWith cs old new) (sym (choices_next ds i d e less is)) (grew_more (map literal_of (take i ds)) (literal_of e) old mid new g h)

  pub refuted_here : (ds : List Decision) (i : ℕ) (d e : Decision) (old mid : List Tri) → i < length ds → get_or ds i d ≡ e → GrewWith (map literal_of (take i ds)) old mid → AreRefuted lines mid (literal_of e ∷ []) →
      AreRefuted lines old (map literal_of ds)
  refuted_here ds i d e old mid less is g r features p comp agrees =
      subst (λ (cs : List Literal). AreRefuted lines old cs) (sym (choices_next ds i d e less is)) (refuted_more (map literal_of (take i ds)) (literal_of e) old mid g r) features p comp
      (subst (λ (cs : List Literal). AgreesWithChoices features cs) (take-map literal_of (i + 1) ds) (all_take (λ d. IsTrueIn features d) (i + 1) (map literal_of ds) agrees))

pub decision_below : (ds : List Decision) (n i : ℕ) (d : Decision) → i < length ds → AllByRecursion (λ (l : Literal). l.feature < n) (map literal_of ds) → (get_or ds i d).feature < n
decision_below ds n i d less all = All-at (λ (l : Literal). l.feature < n) (map literal_of ds) i (literal_of (get_or ds i d)) all
    (slice_get-map literal_of ds i ∙ ap (λ (o : Option Decision). option_map literal_of o) (slice_get-get_or ds i d less))
