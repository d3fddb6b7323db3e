-- The text of a tree within the limits is read.
use Rattle.std.proofs.Common.{◌≡◌, ℕ, zero, suc, ◌+◌, ◌<◌, ◌≤◌, List, [], ◌∷◌, ◌++◌, length, map, Option, Some, None, Ok, flat_map, sum_by, ◌⊎◌, inl, inr, refl, sym, ap, ap₂, ◌∙◌, subst, arith, append_assoc, append-nil}
use Rattle.std.specs.Prelude.{slice_get, IsSomeAnd, Contains}
use Rattle.std.specs.List.{AllByRecursion}
use Rattle.std.proofs.lemmas.List.{map-append, length-map}
use Rattle.std.proofs.lemmas.List.Sums.{sum_by-cons}
use Rattle.std.proofs.lemmas.List.Elements.{Contains-append_left, Contains-append_right}
use Rattle.vpg_rules.specs.Constraint.{Constraint, Parts, always, never, feature, negation, all, any, implication, equivalence, no_parts, part, renamed, each_renamed, features_in, all_features, IsBelow, AreBelow}
use Rattle.vpg_rules.proofs.Features.{count_renamed}
use Rattle.vpg_tree.specs.declared.group.Group.{Group}
use Rattle.vpg_tree.specs.declared.group.Kind.{Kind}
use Rattle.vpg_tree.specs.declared.group.Kind.TheVariants as kinds
use Rattle.vpg_tree.specs.Tree.{Tree, members_from}
use Rattle.vpg_tree.specs.Lines as tree
use Rattle.vpg_tree.specs.Lines.{mandatory, optional, alternative, or, group, requires_line, excludes_line, rule, group_lines, lines_from, constraint_line, lines_of}
use Rattle.vpg_tree.specs.DiagramText.{name_of, line_text, diagram_text}
use Rattle.vpg_features.specs.Names.{AreNames}
use Rattle.vpg_diagram.specs.DiagramText.{Form, RootLine, NamedDiagram, IsTextOf}
use Rattle.vpg_diagram.specs.TextFaults.{new_names, rules_in, earlier_names}
use Rattle.vpg_diagram.specs.DiagramReading.{with_root, after_root, read_root, read_lines, reading}
use Rattle.vpg_diagram.proofs.Lists.{Contains-here, All-append}
use Rattle.vpg_diagram.proofs.NameLemmas.{AreApart}
use Rattle.vpg_diagram.proofs.FormLemmas.{form_complete}
use Rattle.vpg_diagram.proofs.TextLemmas.{text_from_reading}
use Rattle.vpg_tree.specs.InOrder.{ComesBefore, AreInOrder, IsInOrder}
use Rattle.vpg_tree_diagram.specs.Standing.{order_of, rules_of, IsLineWithin, IsWithinLimits}
use Rattle.vpg_tree_diagram.specs.Laws.{TreesWithinLimitsAreRead}
use Rattle.vpg_tree_diagram.proofs.Forms.{form_in, IsSpelled, spelled, written_line}
use Rattle.vpg_tree_diagram.proofs.Lines.{root_text, each_spelled, root_spelled, lines_are}
use Rattle.vpg_tree_diagram.proofs.Order.{added_group, added_groups, names_by_tree}
use Rattle.vpg_tree_diagram.proofs.Joining.{contains_mapped, in_members, in_order, order_below}
use Rattle.vpg_tree_diagram.proofs.Once.{order_once, apart_names, groups_few}
use Rattle.vpg_tree_diagram.proofs.Reading.{IsWithin, AreKnown, AreSpelled, forms_read}

known_joined : (ns : List (List ℕ)) (fs gs : List Form) → AreKnown ns fs → AreKnown (ns ++ flat_map new_names fs) gs → AreKnown ns (fs ++ gs)
known_joined ns [] gs h k = subst (λ (xs : List (List ℕ)). AreKnown xs gs) (append-nil ns) k
known_joined ns (f ∷ fs) gs h k =
    (h.0, known_joined (ns ++ new_names f) fs gs h.1 (subst (λ (xs : List (List ℕ)). AreKnown xs gs) (sym (append_assoc ns (new_names f) (flat_map new_names fs))) k))

module _ (names : List (List ℕ)) where
  known_mandatory : (ns : List (List ℕ)) (p : ℕ) (cs : List ℕ) → Contains ns (name_of names p) → AreKnown ns (map (form_in names) (map (mandatory p) cs))
  known_mandatory ns p [] h = tt
  known_mandatory ns p (c ∷ cs) h =
      ((h, tt), known_mandatory (ns ++ name_of names c ∷ []) p cs (Contains-append_left ns (name_of names c ∷ []) (name_of names p) h))

  known_optional : (ns : List (List ℕ)) (p : ℕ) (cs : List ℕ) → Contains ns (name_of names p) → AreKnown ns (map (form_in names) (map (optional p) cs))
  known_optional ns p [] h = tt
  known_optional ns p (c ∷ cs) h =
      ((h, tt), known_optional (ns ++ name_of names c ∷ []) p cs (Contains-append_left ns (name_of names c ∷ []) (name_of names p) h))

  known_group : (ns : List (List ℕ)) (kind : Kind) (p : ℕ) (cs : List ℕ) → Contains ns (name_of names p) → AreKnown ns (map (form_in names) (group_lines kind p cs))
  known_group ns kinds.Mandatory p cs h = known_mandatory ns p cs h
  known_group ns kinds.Optional p cs h = known_optional ns p cs h
  known_group ns kinds.Alternative p cs h = ((h, tt), tt)
  known_group ns kinds.Or p cs h = ((h, tt), tt)
  known_group ns (kinds.Cardinality low high) p cs h = ((h, tt), tt)

  -- the root and the members of the groups before a number are among the names
  record HasBefore (places : List ℕ) (first : ℕ) (ns : List (List ℕ)) : Type 0 where
    root : Contains ns (name_of names 0)
    members : (k f : ℕ) → k < first → Contains (members_from 1 places k) f → Contains ns (name_of names f)

  parent_known : (places : List ℕ) (first : ℕ) (ns : List (List ℕ)) (p : ℕ) → HasBefore places first ns → ComesBefore places first p → Contains ns (name_of names p)
  parent_known places first ns zero h before = h.root
  parent_known places first ns (suc j) h before = go (slice_get places j) refl before
    where
      go : (o : Option ℕ) → slice_get places j ≡ o → IsSomeAnd o (λ place. place < first) → Contains ns (name_of names (suc j))
      go None e b = absurd b
      go (Some place) e b =
          let next : 1 + j ≡ suc j = omega arith in
          h.members place (suc j) b (subst (Contains (members_from 1 places place)) next (in_members 1 places j place e))

  before_next : (places : List ℕ) (first : ℕ) (ns : List (List ℕ)) → HasBefore places first ns → HasBefore places (suc first) (ns ++ map (name_of names) (members_from 1 places first))
  before_next places first ns h =
      let here = map (name_of names) (members_from 1 places first) in
      record {
        root = Contains-append_left ns here (name_of names 0) h.root;
        members = λ k f lt c. go k f c (either k lt);
      }
    where
      either : (k : ℕ) → k < suc first → (k < first) ⊎ (k ≡ first)
      either k lt = grind arith

      go : (k f : ℕ) → Contains (members_from 1 places k) f → (k < first) ⊎ (k ≡ first) → Contains (ns ++ map (name_of names) (members_from 1 places first)) (name_of names f)
      go k f c (inl l) = Contains-append_left ns (map (name_of names) (members_from 1 places first)) (name_of names f) (h.members k f l c)
      go k f c (inr e) =
          Contains-append_right ns (map (name_of names) (members_from 1 places first)) (name_of names f)
          (contains_mapped (name_of names) (members_from 1 places first) f (subst (λ (x : ℕ). Contains (members_from 1 places x) f) e c))

  known_groups : (first : ℕ) (gs : List Group) (places : List ℕ) (ns : List (List ℕ)) → HasBefore places first ns → AreInOrder first gs places → AreKnown ns (map (form_in names) (lines_from first gs places))
  known_groups first [] places ns h order = tt
  known_groups first (g ∷ gs) places ns h order =
      let cs = members_from 1 places first in
      let here = group_lines g.kind g.parent cs in
      let later = lines_from (suc first) gs places in
      subst (AreKnown ns) (sym (map-append (form_in names) here later))
      (known_joined ns (map (form_in names) here) (map (form_in names) later)
      (known_group ns g.kind g.parent cs (parent_known places first ns g.parent h order.0))
      (subst (λ (xs : List (List ℕ)). AreKnown (ns ++ xs) (map (form_in names) later)) (sym (added_group names g.kind g.parent cs))
      (known_groups (suc first) gs places (ns ++ map (name_of names) cs) (before_next places first ns h) order.2)))

  -- ---- constraints

  abbrev HasAll : List (List ℕ) → Type 0
  HasAll ns = (f : ℕ) → f < length names → Contains ns (name_of names f)

  mutual
    known_features : (ns : List (List ℕ)) → HasAll ns → (c : Constraint ℕ) → IsBelow (length names) c → AllByRecursion (Contains ns) (features_in (renamed (name_of names) c))
    known_features ns h always below = tt
    known_features ns h never below = tt
    known_features ns h (feature f) below = (h f below, tt)
    known_features ns h (negation c) below = known_features ns h c below
    known_features ns h (all cs) below = known_parts ns h cs below
    known_features ns h (any cs) below = known_parts ns h cs below
    known_features ns h (implication c d) below =
        All-append (Contains ns) (features_in (renamed (name_of names) c)) (features_in (renamed (name_of names) d)) (known_features ns h c below.0) (known_features ns h d below.1)
    known_features ns h (equivalence c d) below =
        All-append (Contains ns) (features_in (renamed (name_of names) c)) (features_in (renamed (name_of names) d)) (known_features ns h c below.0) (known_features ns h d below.1)

    known_parts : (ns : List (List ℕ)) → HasAll ns → (cs : Parts ℕ) → AreBelow (length names) cs → AllByRecursion (Contains ns) (all_features (each_renamed (name_of names) cs))
    known_parts ns h no_parts below = tt
    known_parts ns h (part c cs) below =
        All-append (Contains ns) (features_in (renamed (name_of names) c)) (all_features (each_renamed (name_of names) cs)) (known_features ns h c below.0) (known_parts ns h cs below.1)

  known_constraint : (ns : List (List ℕ)) → HasAll ns → (c : Constraint ℕ) → IsBelow (length names) c → AllByRecursion (Contains ns) (earlier_names (form_in names (constraint_line c)))
  known_constraint ns h (implication (feature a) (feature b)) below = (h a below.0, (h b below.1, tt))
  known_constraint ns h (implication (feature a) (negation (feature b))) below = (h a below.0, (h b below.1, tt))
  known_constraint ns h c below = known_features ns h c below

  known_constraints : (ns : List (List ℕ)) → HasAll ns → (cs : List (Constraint ℕ)) → AllByRecursion (IsBelow (length names)) cs → AreKnown ns (map (form_in names) (map constraint_line cs))
  known_constraints ns h [] below = tt
  known_constraints ns h (c ∷ cs) below =
      let new = new_names (form_in names (constraint_line c)) in
      (known_constraint ns h c below.0, known_constraints (ns ++ new) (λ f lt. Contains-append_left ns new (name_of names f) (h f lt)) cs below.1)

  -- ---- limits

  form_within : (l : tree.Line) → IsSpelled names l → IsLineWithin l → IsWithin (form_in names l)
  form_within (mandatory p c) s h = tt
  form_within (optional p c) s h = tt
  form_within (alternative p cs) s h = tt
  form_within (or p cs) s h = tt
  form_within (group p low high cs) s h = (h, let k = s.3 in omega (arith, k, length-map cs (name_of names)))
  form_within (requires_line a b) s h = tt
  form_within (excludes_line a b) s h = tt
  form_within (rule c) s h = subst (λ (k : ℕ). k ≤ 64) (sym (count_renamed (name_of names) c)) h

  forms_within : (ls : List tree.Line) → AllByRecursion (IsSpelled names) ls → AllByRecursion IsLineWithin ls → AllByRecursion IsWithin (map (form_in names) ls)
  forms_within [] s h = tt
  forms_within (l ∷ ls) s h = (form_within l s.0 h.0, forms_within ls s.1 h.1)

  line_rules : (l : tree.Line) → ◌≡◌ {A = ℕ} (rules_in (form_in names l)) (rules_of l)
  line_rules (mandatory p c) = refl
  line_rules (optional p c) = refl
  line_rules (alternative p cs) = refl
  line_rules (or p cs) = refl
  line_rules (group p low high cs) = refl
  line_rules (requires_line a b) = refl
  line_rules (excludes_line a b) = refl
  line_rules (rule c) = count_renamed (name_of names) c

  all_rules : (ls : List tree.Line) → ◌≡◌ {A = ℕ} (sum_by rules_in (map (form_in names) ls)) (sum_by rules_of ls)
  all_rules [] = refl
  all_rules (l ∷ ls) =
      sum_by-cons rules_in (form_in names l) (map (form_in names) ls)
      ∙ ap₂ (λ (x y : ℕ). x + y) (line_rules l) (all_rules ls)
      ∙ sym (sum_by-cons rules_of l ls)

  lines_spelled : AreNames names → (ls : List tree.Line) → AllByRecursion (IsSpelled names) ls → AreSpelled (map (line_text names) ls) (map (form_in names) ls)
  lines_spelled are [] s = tt
  lines_spelled are (l ∷ ls) s = (spelled names are l s.0, written_line names l, lines_spelled are ls s.1)

-- ---- the text of a tree

module _ (t : Tree) (w : IsInOrder t) (limits : IsWithinLimits t) where
  abbrev pub forms : List Form
  forms = map (form_in t.names) (lines_of t)

  abbrev pub first : List (List ℕ)
  first = name_of t.names 0 ∷ []

  begins : HasBefore t.names t.places 0 first
  begins = record {
    root = Contains-here (name_of t.names 0) [];
    members = λ k f lt c. absurd (omega (arith, lt));
  }

  after_groups : HasAll t.names (first ++ flat_map new_names (map (form_in t.names) (lines_from 0 t.groups t.places)))
  after_groups = λ f lt.
      subst (λ (xs : List (List ℕ)). Contains (name_of t.names 0 ∷ xs) (name_of t.names f)) (sym (added_groups t.names 0 t.groups t.places))
      (contains_mapped (name_of t.names) (order_of t) f (in_order t w f lt))

  known : AreKnown first forms
  known =
      subst (AreKnown first) (sym (map-append (form_in t.names) (lines_from 0 t.groups t.places) (map constraint_line t.constraints)))
      (known_joined first (map (form_in t.names) (lines_from 0 t.groups t.places)) (map (form_in t.names) (map constraint_line t.constraints))
      (known_groups t.names 0 t.groups t.places first begins w.groups)
      (known_constraints t.names (first ++ flat_map new_names (map (form_in t.names) (lines_from 0 t.groups t.places))) after_groups t.constraints w.is_tree.constraints))

  in_all : map (name_of t.names) (order_of t) ≡ first ++ flat_map new_names forms
  in_all = ap (λ (xs : List (List ℕ)). name_of t.names 0 ∷ xs) (sym (names_by_tree t))

  apart : AreApart (first ++ flat_map new_names forms)
  apart = subst AreApart in_all (apart_names t.names w.is_tree.names (order_of t) (order_below t w) (order_once t.groups t.places))

  few : length (first ++ flat_map new_names forms) ≤ 512
  few =
      let m = groups_few t.groups t.places in
      let a : length (order_of t) ≤ length t.names = omega (arith, m, w.is_tree.each_placed) in
      let b : length (map (name_of t.names) (order_of t)) ≡ length (order_of t) = length-map (order_of t) (name_of t.names) in
      let c : length (map (name_of t.names) (order_of t)) ≡ length (first ++ flat_map new_names forms) = ap length in_all in
      omega (arith, a, b, c, w.is_tree.names.few)

  pub behind : (d : NamedDiagram) × (read_lines (1 + 1) (map (line_text t.names) (lines_of t)) first 0 ≡ Ok d)
  behind =
      forms_read (1 + 1) (map (line_text t.names) (lines_of t)) forms first 0 (lines_spelled t.names w.is_tree.names (lines_of t) (each_spelled t w)) apart few known
      (forms_within t.names (lines_of t) (each_spelled t w) limits.lines) (let e = all_rules t.names (lines_of t) in let r = limits.few_rules in omega (arith, e, r))

  abbrev pub whole : NamedDiagram
  whole = record { names = name_of t.names 0 ∷ behind.0.names; lines = behind.0.lines }

  read : reading (diagram_text t) ≡ Ok whole
  read =
      ap (read_root 1) (lines_are t w)
      ∙ ap (λ o. after_root 1 o (map (line_text t.names) (lines_of t))) (form_complete (root_text t) (RootLine (name_of t.names 0)) (root_spelled t w))
      ∙ ap (with_root (name_of t.names 0)) behind.1

  pub is_read : IsTextOf (diagram_text t) whole
  is_read = text_from_reading (diagram_text t) whole read

pub trees_within_limits_are_read : TreesWithinLimitsAreRead
trees_within_limits_are_read t w limits = (whole t w limits, is_read t w limits)
