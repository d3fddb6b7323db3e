-- The lines that are written for a tree are spelled, and its text has them after the root's.
use Rattle.std.proofs.Common.{◌≡◌, ℕ, suc, ◌+◌, ◌<◌, ◌≤◌, ◌^◌, min, Bool, true, false, ◌==◌, cond, codes, List, [], ◌∷◌, ◌++◌, length, map, filter, Option, Some, None, refl, ap, ◌∙◌, arith, append_assoc}
use Rattle.std.specs.List.{AllByRecursion}
use Rattle.std.specs.Str.Lines.{lines}
use Rattle.vpg_features.specs.Names.{IsFeatureName, AreNames}
use Rattle.vpg_rules.specs.Constraint.{Constraint, feature, negation, implication, IsBelow}
use Rattle.vpg_tree.specs.declared.group.Group.{Group}
use Rattle.vpg_tree.specs.declared.group.Kind.{Kind}
use Rattle.vpg_tree.specs.declared.group.Kind.TheVariants as kinds
use Rattle.vpg_tree.specs.Tree.{Tree, members_from}
use Rattle.vpg_tree.specs.Laws.{JoinsTwo, open_signs}
use Rattle.vpg_tree.specs.Lines.{Line, mandatory, optional, at_most, group_lines, lines_from, constraint_line, lines_of}
use Rattle.vpg_tree.specs.DiagramText.{name_of, line_text, lines_text, diagram_text}
use Rattle.vpg_tree.proofs.Trees.{all_append}
use Rattle.vpg_tree.proofs.Grouped.{members_below}
use Rattle.vpg_diagram.specs.DiagramText.{is_nonempty, words, RootLine, SpellsForm, kept_lines}
use Rattle.vpg_tree.specs.InOrder.{HasMembers, AreInOrder, HasShortBounds, IsInOrder}
use Rattle.vpg_tree_diagram.proofs.Texts.{name_is_solid, name_is_fine, name_is_some, words_last, line_first}
use Rattle.vpg_tree_diagram.proofs.Forms.{AreNamed, IsSpelled, is_named, fine_line, written_line}

either_as_long : (f : ℕ) (xs : List ℕ) (b : Bool) (n : ℕ) → length xs ≤ n → length (cond b (f ∷ xs) xs) ≤ suc n
either_as_long f xs true n le = omega (arith, le)
either_as_long f xs false n le = omega (arith, le)

-- no more members than places
pub members_few : (f : ℕ) (places : List ℕ) (k : ℕ) → length (members_from f places k) ≤ length places
members_few f [] k = omega arith
members_few f (p ∷ places) k = either_as_long f (members_from (suc f) places k) (p == k) (length places) (members_few (suc f) places k)

module _ (names : List (List ℕ)) (are : AreNames names) where
  named_below : (fs : List ℕ) → AllByRecursion (λ f. f < length names) fs → AreNamed names fs
  named_below [] h = tt
  named_below (f ∷ fs) h = (is_named names f are h.0, named_below fs h.1)

  each_mandatory : (p : ℕ) (cs : List ℕ) → IsFeatureName (name_of names p) → AreNamed names cs → AllByRecursion (IsSpelled names) (map (mandatory p) cs)
  each_mandatory p [] is h = tt
  each_mandatory p (c ∷ cs) is h = ((is, h.0), each_mandatory p cs is h.1)

  each_optional : (p : ℕ) (cs : List ℕ) → IsFeatureName (name_of names p) → AreNamed names cs → AllByRecursion (IsSpelled names) (map (optional p) cs)
  each_optional p [] is h = tt
  each_optional p (c ∷ cs) is h = ((is, h.0), each_optional p cs is h.1)

  short_bound : (high : Option ℕ) (n : ℕ) → n ≤ 512 → at_most high n < 2 ^ 64
  short_bound None n le = omega (arith, le)
  short_bound (Some high) n le = let k : min high n ≤ n = omega arith in omega (arith, k, le)

  within_all : (high : Option ℕ) (n : ℕ) → at_most high n ≤ n
  within_all None n = omega arith
  within_all (Some high) n = omega arith

  spelled_group : (kind : Kind) (p : ℕ) (cs : List ℕ) → IsFeatureName (name_of names p) → AreNamed names cs → HasMembers kind cs → HasShortBounds kind → length cs ≤ 512 → AllByRecursion (IsSpelled names) (group_lines kind p cs)
  spelled_group kinds.Mandatory p cs is h some short few = each_mandatory p cs is h
  spelled_group kinds.Optional p cs is h some short few = each_optional p cs is h
  spelled_group kinds.Alternative p cs is h some short few = (record { parent = is; some = some; members = h }, tt)
  spelled_group kinds.Or p cs is h some short few = (record { parent = is; some = some; members = h }, tt)
  spelled_group (kinds.Cardinality low high) p cs is h some short few =
      ((record { parent = is; some = some; members = h }, short, short_bound high (length cs) few, within_all high (length cs)), tt)

  spelled_groups : (first : ℕ) (gs : List Group) (places : List ℕ) → length names ≡ length places + 1 → AllByRecursion (λ g. g.parent < length names) gs → AreInOrder first gs places → AllByRecursion (λ g. HasShortBounds g.kind) gs
      → AllByRecursion (IsSpelled names) (lines_from first gs places)
  spelled_groups first [] places e parents order bounds = tt
  spelled_groups first (g ∷ gs) places e parents order bounds =
      let cs = members_from 1 places first in
      let below = members_below (length names) 1 places first (omega (arith, e)) in
      let few : length cs ≤ 512 = omega (arith, members_few 1 places first, e, are.few) in
      all_append (IsSpelled names) (group_lines g.kind g.parent cs) (lines_from (suc first) gs places)
      (spelled_group g.kind g.parent cs (is_named names g.parent are parents.0) (named_below cs below) order.1 bounds.0 few)
      (spelled_groups (suc first) gs places e parents.1 order.2 bounds.1)

  spelled_constraint : (c : Constraint ℕ) → IsBelow (length names) c → JoinsTwo c → open_signs c ≤ 64 → IsSpelled names (constraint_line c)
  spelled_constraint (implication (feature a) (feature b)) below joins few = (is_named names a are below.0, is_named names b are below.1)
  spelled_constraint (implication (feature a) (negation (feature b))) below joins few = (is_named names a are below.0, is_named names b are below.1)
  spelled_constraint c below joins few = (below, joins, few)

  spelled_constraints : (cs : List (Constraint ℕ)) → AllByRecursion (IsBelow (length names)) cs → AllByRecursion JoinsTwo cs → AllByRecursion (λ c. open_signs c ≤ 64) cs → AllByRecursion (IsSpelled names) (map constraint_line cs)
  spelled_constraints [] below joins few = tt
  spelled_constraints (c ∷ cs) below joins few = (spelled_constraint c below.0 joins.0 few.0, spelled_constraints cs below.1 joins.1 few.1)

  -- ---- the text

  text_lines : (ls : List Line) → AllByRecursion (IsSpelled names) ls → lines (lines_text names ls) ≡ map (line_text names) ls
  text_lines [] h = refl
  text_lines (l ∷ ls) h =
      ap lines (append_assoc (line_text names l) (codes "\n") (lines_text names ls))
      ∙ line_first (line_text names l) (lines_text names ls) (fine_line names are l h.0)
      ∙ ap (λ (ts : List (List ℕ)). line_text names l ∷ ts) (text_lines ls h.1)

  none_blank : (ls : List Line) → filter (λ line. is_nonempty (words line)) (map (line_text names) ls) ≡ map (line_text names) ls
  none_blank [] = refl
  none_blank (l ∷ ls) =
      let later = filter (λ line. is_nonempty (words line)) (map (line_text names) ls) in
      ap (λ (b : Bool). cond b (line_text names l ∷ later) later) (written_line names l)
      ∙ ap (λ (ts : List (List ℕ)). line_text names l ∷ ts) (none_blank ls)

abbrev pub root_text : Tree → List ℕ
root_text tree = codes "root " ++ name_of tree.names 0

module _ (tree : Tree) (w : IsInOrder tree) where
  pub has_root : 0 < length tree.names
  has_root = omega (arith, w.is_tree.each_placed)

  pub root_named : IsFeatureName (name_of tree.names 0)
  root_named = is_named tree.names 0 w.is_tree.names has_root

  pub each_spelled : AllByRecursion (IsSpelled tree.names) (lines_of tree)
  each_spelled =
      all_append (IsSpelled tree.names) (lines_from 0 tree.groups tree.places) (map constraint_line tree.constraints)
      (spelled_groups tree.names w.is_tree.names 0 tree.groups tree.places w.is_tree.each_placed w.is_tree.parents w.groups w.bounds)
      (spelled_constraints tree.names w.is_tree.names tree.constraints w.is_tree.constraints w.joins w.few_signs)

  pub root_spelled : SpellsForm (root_text tree) (RootLine (name_of tree.names 0))
  root_spelled = (ap (λ (ws : List (List ℕ)). codes "root" ∷ ws) (words_last (name_of tree.names 0) (name_is_solid (name_of tree.names 0) root_named) (name_is_some (name_of tree.names 0) root_named)), root_named)

  -- the lines of the text
  pub lines_are : lines (diagram_text tree) ≡ root_text tree ∷ map (line_text tree.names) (lines_of tree)
  lines_are =
      ap lines (append_assoc (root_text tree) (codes "\n") (lines_text tree.names (lines_of tree)))
      ∙ line_first (root_text tree) (lines_text tree.names (lines_of tree)) (name_is_fine (name_of tree.names 0) root_named)
      ∙ ap (λ (ts : List (List ℕ)). root_text tree ∷ ts) (text_lines tree.names w.is_tree.names (lines_of tree) each_spelled)

  pub kept_are : kept_lines (diagram_text tree) ≡ root_text tree ∷ map (line_text tree.names) (lines_of tree)
  kept_are =
      ap (filter (λ line. is_nonempty (words line))) lines_are
      ∙ ap (λ (ts : List (List ℕ)). root_text tree ∷ ts) (none_blank tree.names w.is_tree.names (lines_of tree))
