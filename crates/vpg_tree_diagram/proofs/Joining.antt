-- The diagram that is read from the text of a tree has the tree's configurations.
use Rattle.std.proofs.Common.{◌≡◌, ℕ, zero, suc, ◌+◌, ◌<◌, ◌≤◌, Bool, true, false, ◌==◌, cond, List, [], ◌∷◌, length, map, Option, Some, None, flat_map, ◌⊎◌, inl, inr, refl, sym, ap, ap₂, ◌∙◌, subst, arith}
use Rattle.std.specs.Prelude.{slice_get, slice_index_or, unwrap_or, IsTrue, IsSomeAnd, Contains}
use Rattle.std.specs.List.{AllByRecursion, AllZip}
use Rattle.std.proofs.Math.ListN.{get_or-eq_default}
use Rattle.std.proofs.lemmas.List.{get_or-map, length-map}
use Rattle.std.proofs.lemmas.Bool.{cases_Bool, ltb-true, ltb-false}
use Rattle.std.proofs.lemmas.Bool.Decides.{nat_tests}
use Rattle.std.proofs.lemmas.Option.{slice_get-get_or, get_or_from_slice_get, slice_get_within}
use Rattle.std.proofs.lemmas.List.Elements.{Contains-append_left, Contains-append_right}
use Rattle.std.specs.Prelude.{nat_lt}
use Rattle.vpg_features.specs.Names.{AreNames, AreDistinct, Lacks}
use Rattle.vpg_features.proofs.Held.{held_is_name, index_of_held, index_of_lacks}
use Rattle.vpg_rules.specs.Grammar.{index_or_end}
use Rattle.vpg_tree.specs.declared.group.Group.{Group}
use Rattle.vpg_tree.specs.Tree.{Tree, members_from, ArePlaced, IsConfiguration, has}
use Rattle.vpg_tree.specs.Lines as tree
use Rattle.vpg_tree.specs.Lines.{lines_of}
use Rattle.vpg_tree.specs.DiagramText.{name_of, line_text, diagram_text}
use Rattle.vpg_tree.proofs.Grouped.{members_below}
use Rattle.vpg_tree.proofs.Trees.{all_append}
use Rattle.vpg_tree.proofs.LawProofs.{configurations_meet_the_lines}
use Rattle.vpg_diagram.specs.FeatureDiagram as diagram
use Rattle.vpg_diagram.specs.FeatureDiagram.{chosen, IsProduct, feature_count}
use Rattle.vpg_diagram.specs.DiagramText.{Form, RootLine, SpellsForm, NamedDiagram, named, IsTextOf}
use Rattle.vpg_diagram.specs.TextFaults.{new_names}
use Rattle.vpg_diagram.proofs.Lists.{Contains-here, Contains-there, Contains-cons, Contains-nil, Contains-at, place_of, All-contained, All-map}
use Rattle.vpg_diagram.proofs.FormLemmas.{form_complete}
use Rattle.vpg_diagram.proofs.ProductLemmas.{lines_from_product, product_from_lines}
use Rattle.vpg_tree.specs.InOrder.{IsInOrder}
use Rattle.vpg_tree_diagram.specs.Standing.{members_of_groups, order_of, IsSameSet, moved}
use Rattle.vpg_tree_diagram.specs.Laws.{TreesMeanTheirDiagrams}
use Rattle.vpg_tree_diagram.proofs.Texts.{name_is_some}
use Rattle.vpg_tree_diagram.proofs.Forms.{form_in, IsSpelled, spelled}
use Rattle.vpg_tree_diagram.proofs.Meaning.{MeetsForm, tree_to, tree_from, diagram_to, diagram_from}
use Rattle.vpg_tree_diagram.proofs.Lines.{root_text, has_root, each_spelled, root_spelled, kept_are}
use Rattle.vpg_tree_diagram.proofs.Order.{names_by_lines, names_by_tree}

-- ---- one form for each line

pub one_form : (bytes : List ℕ) (f g : Form) → SpellsForm bytes f → SpellsForm bytes g → f ≡ g
one_form bytes f g h k =
    let e : Some f ≡ Some g = sym (form_complete bytes f h) ∙ form_complete bytes g k in cc

first_is : (x y : List ℕ) (xs ys : List (List ℕ)) → x ∷ xs ≡ y ∷ ys → x ≡ y
first_is x y xs ys e = cc

rest_is : (x y : List ℕ) (xs ys : List (List ℕ)) → x ∷ xs ≡ y ∷ ys → xs ≡ ys
rest_is x y xs ys e = cc

same_root : (a b : List ℕ) → RootLine a ≡ RootLine b → a ≡ b
same_root a b e = cc

same_forms : (names others : List (List ℕ)) → AreNames names → (ls : List tree.Line) (ds : List diagram.Line) → AllByRecursion (IsSpelled names) ls
    → AllZip (λ bytes line. SpellsForm bytes (named others line)) (map (line_text names) ls) ds → map (form_in names) ls ≡ map (named others) ds
same_forms names others are [] [] h z = refl
same_forms names others are [] (y ∷ ds) h z = absurd z
same_forms names others are (l ∷ ls) [] h z = absurd z
same_forms names others are (l ∷ ls) (y ∷ ds) h z =
    ap₂ (λ (f : Form) (fs : List Form). f ∷ fs) (one_form (line_text names l) (form_in names l) (named others y) (spelled names are l h.0) z.0) (same_forms names others are ls ds h.1 z.1)

-- ---- each feature is in the order of the groups

pub contains_mapped : {X Y : Type 0} (f : X → Y) (xs : List X) (x : X) → Contains xs x → Contains (map f xs) (f x)
contains_mapped f [] x h = absurd (Contains-nil x h)
contains_mapped f (y ∷ xs) x h = go (Contains-cons y xs x h) (contains_mapped f xs x)
  where
    go : (y ≡ x) ⊎ Contains xs x → (Contains xs x → Contains (map f xs) (f x)) → Contains (f y ∷ map f xs) (f x)
    go (inl e) later = subst (λ z. Contains (f y ∷ map f xs) (f z)) e (Contains-here (f y) (map f xs))
    go (inr k) later = Contains-there (f y) (map f xs) (f x) (later k)

either_has : (first f : ℕ) (later : List ℕ) (b : Bool) → Contains later f → Contains (cond b (first ∷ later) later) f
either_has first f later true h = Contains-there first later f h
either_has first f later false h = h

itself : (q : ℕ) → (q == q) ≡ true
itself q = grind (arith, nat_tests)

pub in_members : (first : ℕ) (places : List ℕ) (j p : ℕ) → slice_get places j ≡ Some p → Contains (members_from first places p) (first + j)
in_members first [] j p e = absurd (cc)
in_members first (q ∷ places) zero p e =
    let same : q ≡ p = cc in
    let t : (q == p) ≡ true = subst (λ (x : ℕ). (q == x) ≡ true) same (itself q) in
    let later = members_from (suc first) places p in
    let here : first ≡ first + 0 = omega arith in
    subst (Contains (cond (q == p) (first ∷ later) later)) here
    (subst (λ (b : Bool). Contains (cond b (first ∷ later) later) first) (sym t) (Contains-here first later))
in_members first (q ∷ places) (suc j) p e =
    let later = members_from (suc first) places p in
    let there : suc first + j ≡ first + suc j = omega arith in
    subst (Contains (cond (q == p) (first ∷ later) later)) there (either_has first (suc first + j) later (q == p) (in_members (suc first) places j p e))

in_groups : (first : ℕ) (gs : List Group) (places : List ℕ) (k f : ℕ) → k < length gs → Contains (members_from 1 places (first + k)) f → Contains (members_of_groups first gs places) f
in_groups first [] places k f lt h = absurd (omega arith)
in_groups first (g ∷ gs) places zero f lt h =
    let here : first + 0 ≡ first = omega arith in
    Contains-append_left (members_from 1 places first) (members_of_groups (suc first) gs places) f (subst (λ (n : ℕ). Contains (members_from 1 places n) f) here h)
in_groups first (g ∷ gs) places (suc k) f lt h =
    let there : first + suc k ≡ suc first + k = omega arith in
    Contains-append_right (members_from 1 places first) (members_of_groups (suc first) gs places) f
    (in_groups (suc first) gs places k f (omega arith) (subst (λ (n : ℕ). Contains (members_from 1 places n) f) there h))

some_within : (gs : List Group) (p : ℕ) (P : Group → Type 0) → IsSomeAnd (slice_get gs p) P → p < length gs
some_within gs p P h = go (slice_get gs p) refl h
  where
    go : (o : Option Group) → slice_get gs p ≡ o → IsSomeAnd o P → p < length gs
    go None e h = absurd h
    go (Some g) e h = slice_get_within gs p g e

place_within : (gs : List Group) (first : ℕ) (places : List ℕ) (j p : ℕ) → ArePlaced gs first places → slice_get places j ≡ Some p → p < length gs
place_within gs first [] j p h e = absurd (cc)
place_within gs first (q ∷ places) zero p h e =
    let same : q ≡ p = cc in
    subst (λ (x : ℕ). x < length gs) same (some_within gs q (λ group. group.parent < first) h.0)
place_within gs first (q ∷ places) (suc j) p h e = place_within gs (suc first) places j p h.1 e

groups_below : (n first : ℕ) (gs : List Group) (places : List ℕ) → 1 + length places ≤ n → AllByRecursion (λ f. f < n) (members_of_groups first gs places)
groups_below n first [] places le = tt
groups_below n first (g ∷ gs) places le =
    all_append (λ (f : ℕ). f < n) (members_from 1 places first) (members_of_groups (suc first) gs places) (members_below n 1 places first le) (groups_below n (suc first) gs places le)

-- ---- sets that are moved

moved_at : (names others : List (List ℕ)) (set : List Bool) (f g : ℕ) (name : List ℕ) → AreDistinct names → slice_get names f ≡ Some name → slice_get others g ≡ Some name → has set f ≡ has (moved names set others) g
moved_at names others set f g name distinct a b =
    let at : slice_index_or others g [] ≡ name = get_or_from_slice_get others g name [] b in
    let found : index_or_end names name ≡ f = ap (λ (o : Option ℕ). unwrap_or o (length names)) (index_of_held names name f distinct a) in
    sym (get_or-map (λ (w : List ℕ). has set (index_or_end names w)) others g [] false (slice_get_within others g name b)
    ∙ ap (λ (w : List ℕ). has set (index_or_end names w)) at ∙ ap (has set) found)

-- ---- a tree, and the diagram of its text

module _ (t : Tree) (w : IsInOrder t) where
  pub order_below : AllByRecursion (λ f. f < length t.names) (order_of t)
  order_below = (has_root t w, groups_below (length t.names) 0 t.groups t.places (omega (arith, w.is_tree.each_placed)))

  pub in_order : (f : ℕ) → f < length t.names → Contains (order_of t) f
  in_order zero lt = Contains-here 0 (members_of_groups 0 t.groups t.places)
  in_order (suc j) lt =
      let within : j < length t.places = omega (arith, w.is_tree.each_placed) in
      let at = slice_get-get_or t.places j 0 within in
      let p = slice_index_or t.places j 0 in
      Contains-there 0 (members_of_groups 0 t.groups t.places) (suc j)
      (in_groups 0 t.groups t.places p (suc j) (place_within t.groups 1 t.places j p w.is_tree.members at)
      (subst (λ (k : ℕ). Contains (members_from 1 t.places k) (suc j)) (let e : p ≡ 0 + p = omega arith in e)
      (subst (Contains (members_from 1 t.places p)) (let e : 1 + j ≡ suc j = omega arith in e) (in_members 1 t.places j p at))))

module _ (t : Tree) (w : IsInOrder t) (d : NamedDiagram) (is : IsTextOf (diagram_text t) d) where
  match : root_text t ∷ map (line_text t.names) (lines_of t) ≡ is.spells.root ∷ is.spells.others
  match = sym (kept_are t w) ∙ is.spells.lines_are

  root_same : name_of t.names 0 ≡ name_of d.names 0
  root_same =
      same_root (name_of t.names 0) (name_of d.names 0)
      (one_form (root_text t) (RootLine (name_of t.names 0)) (RootLine (name_of d.names 0)) (root_spelled t w)
      (subst (λ (bytes : List ℕ). SpellsForm bytes (RootLine (name_of d.names 0))) (sym (first_is (root_text t) is.spells.root _ _ match)) is.spells.root_is))

  pub forms : map (form_in t.names) (lines_of t) ≡ map (named d.names) d.lines
  forms =
      same_forms t.names d.names w.is_tree.names (lines_of t) d.lines (each_spelled t w)
      (subst (λ (ls : List (List ℕ)). AllZip (λ bytes line. SpellsForm bytes (named d.names line)) ls d.lines) (sym (rest_is (root_text t) is.spells.root _ _ match)) is.spells.others_are)

  pub order : d.names ≡ map (name_of t.names) (order_of t)
  order =
      names_by_lines d is.named_diagram
      ∙ ap₂ (λ (x : List ℕ) (xs : List (List ℕ)). x ∷ xs) (sym root_same) (ap (flat_map new_names) (sym forms) ∙ names_by_tree t)

  held : (f : ℕ) → f < length t.names → Contains t.names (name_of t.names f)
  held f lt = Contains-at t.names f (name_of t.names f) (slice_get-get_or t.names f [] lt)

  each_held : (fs : List ℕ) → AllByRecursion (λ f. f < length t.names) fs → AllByRecursion (λ f. Contains t.names (name_of t.names f)) fs
  each_held [] h = tt
  each_held (f ∷ fs) h = (held f h.0, each_held fs h.1)

  pub of_tree : (name : List ℕ) → Contains d.names name → Contains t.names name
  of_tree name h =
      All-contained (Contains t.names) d.names name
      (subst (AllByRecursion (Contains t.names)) (sym order) (All-map (Contains t.names) (name_of t.names) (order_of t) (each_held (order_of t) (order_below t w)))) h

  pub of_diagram : (name : List ℕ) → Contains t.names name → Contains d.names name
  of_diagram name h =
      let f = place_of t.names name h in
      let lt : f.0 < length t.names = slice_get_within t.names f.0 name f.1 in
      let same : name_of t.names f.0 ≡ name = get_or_from_slice_get t.names f.0 name [] f.1 in
      subst (λ (ns : List (List ℕ)). Contains ns name) (sym order)
      (subst (Contains (map (name_of t.names) (order_of t))) same (contains_mapped (name_of t.names) (order_of t) f.0 (in_order t w f.0 lt)))

  -- ---- sets

  module _ (set features : List Bool) (same : IsSameSet t set d features) where
    abbrev test : List ℕ → Bool
    test name = has set (index_or_end t.names name)

    none_past : (s : List Bool) (k : ℕ) → length s ≤ k → slice_index_or s k false ≡ false
    none_past s k le = get_or-eq_default s false le

    no_name : (ns : List (List ℕ)) (k : ℕ) → length ns ≤ k → name_of ns k ≡ []
    no_name ns k le = get_or-eq_default ns [] le

    empty_lacks : Lacks t.names []
    empty_lacks i e = let k = name_is_some [] (held_is_name t.names i [] w.is_tree.names.each e) in cc

    empty_test : test [] ≡ false
    empty_test =
        ap (λ (o : Option ℕ). has set (unwrap_or o (length t.names))) (index_of_lacks t.names [] empty_lacks)
        ∙ none_past set (length t.names) (omega (arith, same.of_tree))

    test_at : (f : ℕ) (name : List ℕ) → slice_get t.names f ≡ Some name → test name ≡ has set f
    test_at f name e = ap (λ (o : Option ℕ). has set (unwrap_or o (length t.names))) (index_of_held t.names name f w.is_tree.names.distinct e)

    tree_agrees : (f : ℕ) → has set f ≡ test (name_of t.names f)
    tree_agrees f = go (cases_Bool (nat_lt f (length t.names)))
      where
        go : (nat_lt f (length t.names) ≡ true) ⊎ (nat_lt f (length t.names) ≡ false) → has set f ≡ test (name_of t.names f)
        go (inl e) = sym (test_at f (name_of t.names f) (slice_get-get_or t.names f [] (ltb-true f (length t.names) e)))
        go (inr e) =
            let past : length t.names ≤ f = ltb-false f (length t.names) e in
            none_past set f (omega (arith, past, same.of_tree)) ∙ sym (ap test (no_name t.names f past) ∙ empty_test)

    diagram_agrees : (g : ℕ) → chosen features g ≡ test (name_of d.names g)
    diagram_agrees g = go (cases_Bool (nat_lt g (length d.names)))
      where
        go : (nat_lt g (length d.names) ≡ true) ⊎ (nat_lt g (length d.names) ≡ false) → chosen features g ≡ test (name_of d.names g)
        go (inl e) =
            let at = slice_get-get_or d.names g [] (ltb-true g (length d.names) e) in
            let f = place_of t.names (name_of d.names g) (of_tree (name_of d.names g) (Contains-at d.names g (name_of d.names g) at)) in
            sym (test_at f.0 (name_of d.names g) f.1 ∙ same.same f.0 g (name_of d.names g) f.1 at)
        go (inr e) =
            let past : length d.names ≤ g = ltb-false g (length d.names) e in
            none_past features g (omega (arith, past, same.of_diagram)) ∙ sym (ap test (no_name d.names g past) ∙ empty_test)

    roots_agree : has set 0 ≡ chosen features 0
    roots_agree = tree_agrees 0 ∙ ap test root_same ∙ sym (diagram_agrees 0)

    forms_of_tree : (ls : List tree.Line) → AllByRecursion (tree.MeetsLine set) ls → AllByRecursion (MeetsForm test) (map (form_in t.names) ls)
    forms_of_tree [] h = tt
    forms_of_tree (l ∷ ls) h = (tree_to test t.names set tree_agrees l h.0, forms_of_tree ls h.1)

    tree_of_forms : (ls : List tree.Line) → AllByRecursion (MeetsForm test) (map (form_in t.names) ls) → AllByRecursion (tree.MeetsLine set) ls
    tree_of_forms [] h = tt
    tree_of_forms (l ∷ ls) h = (tree_from test t.names set tree_agrees l h.0, tree_of_forms ls h.1)

    forms_of_diagram : (ls : List diagram.Line) → AllByRecursion (diagram.MeetsLine features) ls → AllByRecursion (MeetsForm test) (map (named d.names) ls)
    forms_of_diagram [] h = tt
    forms_of_diagram (l ∷ ls) h = (diagram_to test d.names features diagram_agrees l h.0, forms_of_diagram ls h.1)

    diagram_of_forms : (ls : List diagram.Line) → AllByRecursion (MeetsForm test) (map (named d.names) ls) → AllByRecursion (diagram.MeetsLine features) ls
    diagram_of_forms [] h = tt
    diagram_of_forms (l ∷ ls) h = (diagram_from test d.names features diagram_agrees l h.0, diagram_of_forms ls h.1)

    pub to_product : IsConfiguration t set → IsProduct d.lines features
    to_product c =
        let m = (configurations_meet_the_lines t set).0 c in
        product_from_lines d.lines features is.named_diagram.diagram (record {
          length_is = same.of_diagram ∙ is.named_diagram.each_named;
          root = subst IsTrue roots_agree m.root;
          each = diagram_of_forms d.lines (subst (AllByRecursion (MeetsForm test)) forms (forms_of_tree (lines_of t) m.each));
        })

    pub to_configuration : IsProduct d.lines features → IsConfiguration t set
    to_configuration p =
        let m = lines_from_product d.lines features is.named_diagram.diagram p in
        (configurations_meet_the_lines t set).1 (record {
          length_is = same.of_tree;
          root = subst IsTrue (sym roots_agree) m.root;
          each = tree_of_forms (lines_of t) (subst (AllByRecursion (MeetsForm test)) (sym forms) (forms_of_diagram d.lines m.each));
        })

pub trees_mean_their_diagrams : TreesMeanTheirDiagrams
trees_mean_their_diagrams t d w is = record {
  names = λ name. (of_tree t w d is name, of_diagram t w d is name);
  order = order t w d is;
  to_diagram = λ set e. record {
    of_tree = e;
    of_diagram = length-map d.names (λ (v : List ℕ). has set (index_or_end t.names v));
    same = λ f g name a b. moved_at t.names d.names set f g name w.is_tree.names.distinct a b;
  };
  to_tree = λ features e. record {
    of_tree = length-map t.names (λ (v : List ℕ). has features (index_or_end d.names v));
    of_diagram = e;
    same = λ f g name a b. sym (moved_at d.names t.names features g f name is.named_diagram.names.distinct b a);
  };
  products = λ set features same. (to_product t w d is set features same, to_configuration t w d is set features same);
}
