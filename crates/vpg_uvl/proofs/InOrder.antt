-- The groups of a tree that rows spell stand after those of their parents, and have members.
use Rattle.std.proofs.Common.{◌≡◌, ℕ, zero, suc, ◌+◌, ◌-◌, ◌<◌, ◌≤◌, ◌^◌, min, Bool, true, false, not, ◌&&◌, ◌==◌, cond, List, [], ◌∷◌, ◌++◌, length, filter, Option, Some, None, Result, Ok, Err, ◌⊎◌, inl, inr, refl, sym, ap, ap₂, ◌∙◌, subst, arith, length-append}
use Rattle.std.specs.Prelude.{⊤, slice_get, IsSomeAnd, nat_lt, nat_eq, is_some, codes, bytes_eq, drop}
use Rattle.std.specs.List.{AllByRecursion, AllZip, list_all, list_any}
use Rattle.std.proofs.lemmas.Bool.{cases_Bool}
use Rattle.std.proofs.lemmas.Bool.Decides.{nat_tests}
use Rattle.vpg_features.specs.Names.{index_of}
use Rattle.vpg_rules.specs.Constraint.{Constraint}
use Rattle.vpg_rules.specs.Grammar.{index_or_end}
use Rattle.vpg_tree.specs.declared.group.Group.{Group}
use Rattle.vpg_tree.specs.declared.group.Kind.{Kind}
use Rattle.vpg_tree.specs.declared.group.Kind.TheVariants.{Mandatory, Optional, Alternative, Or, Cardinality}
use Rattle.vpg_tree.specs.Tree.{Tree, members_from}
use Rattle.vpg_tree.specs.Laws.{JoinsTwo, open_signs}
use Rattle.vpg_tree.specs.InOrder.{HasMembers, ComesBefore, AreInOrder, HasShortBounds}
use Rattle.vpg_tree.proofs.OpenSigns as signs
use Rattle.vpg_uvl.specs.Rows.{Row, rows, is_head, indentation, after_blanks, word_at, behind_word, is_nothing}
use Rattle.vpg_uvl.specs.Items.{Item, head, named, Stop, stopped, Reason, Syntax, Indentation, Twice, TooMany, NoMember, number_of, digits_at, behind_digits, behind_dots, high_at, high_or_none, cardinality_at, cardinality_of, kind_of, has_range, is_feature_name, last_visible, names_constraint, first_byte, with_attributes, named_before, is_quoted_name, behind_quote, quoted_feature, plain_feature, feature_of, item_by, item_of, is_type, name_at, behind_name}
use Rattle.vpg_uvl.specs.Nesting.{Open, Growth, narrower, last_of, is_aligned, ends_in_head, lacks_member, with_group, with_feature, placed, placed_below, placed_item, early_stop, grown_by, grown, seed, rooted, rooted_item, front_stop}
use Rattle.vpg_uvl.specs.Model.{Features, TextFault, Refused, Ended, finished, after_row, features_from, features_of, after_front, features_after, SpellsConstraint, Spells}
use Rattle.vpg_uvl.specs.Views.{IsNumbered, AreNumbered}
use Rattle.vpg_uvl.specs.Laws.{SpelledTreesAreInOrder}
use Rattle.vpg_uvl.proofs.Growing.{numbered_narrower, numbered_last, number_of_group, number_of_feature, numbered_with_group, numbered_with_feature}

-- ---- lists with one more

in_longer : {X : Type 0} (xs : List X) (y x : X) (k : ℕ) → slice_get (xs ++ y ∷ []) k ≡ Some x → (slice_get xs k ≡ Some x) ⊎ ((k ≡ length xs) × (y ≡ x))
in_longer [] y x zero e = inr (refl, cc)
in_longer [] y x (suc k) e = absurd (cc)
in_longer (z ∷ xs) y x zero e = inl e
in_longer (z ∷ xs) y x (suc k) e = go (in_longer xs y x k e)
  where
    go : (slice_get xs k ≡ Some x) ⊎ ((k ≡ length xs) × (y ≡ x)) → (slice_get (z ∷ xs) (suc k) ≡ Some x) ⊎ ((suc k ≡ length (z ∷ xs)) × (y ≡ x))
    go (inl h) = inl h
    go (inr h) = inr (ap suc h.0, h.1)

at_end : {X : Type 0} (xs : List X) (y : X) → slice_get (xs ++ y ∷ []) (length xs) ≡ Some y
at_end [] y = refl
at_end (x ∷ xs) y = at_end xs y

last_is : (rows : List Open) (row : Open) → last_of (rows ++ row ∷ []) ≡ Some row
last_is rows row =
    let e : length rows ≡ length (rows ++ row ∷ []) - 1 = omega (arith, length-append rows (row ∷ [])) in
    subst (λ (k : ℕ). slice_get (rows ++ row ∷ []) k ≡ Some row) e (at_end rows row)

some_longer : {X : Type 0} (P : X → Type 0) (xs : List X) (y : X) (k : ℕ) → IsSomeAnd (slice_get xs k) P → IsSomeAnd (slice_get (xs ++ y ∷ []) k) P
some_longer P [] y k h = absurd h
some_longer P (x ∷ xs) y zero h = h
some_longer P (x ∷ xs) y (suc k) h = some_longer P xs y k h

some_at : {X : Type 0} (P : X → Type 0) (xs : List X) (k : ℕ) → k < length xs → AllByRecursion P xs → IsSomeAnd (slice_get xs k) P
some_at P [] k lt h = absurd (omega arith)
some_at P (x ∷ xs) zero lt h = h.0
some_at P (x ∷ xs) (suc k) lt h = some_at P xs k (omega arith) h.1

all_longer : {X : Type 0} (P Q : X → Type 0) → ((x : X) → P x → Q x) → (xs : List X) (y : X) → AllByRecursion P xs → Q y → AllByRecursion Q (xs ++ y ∷ [])
all_longer P Q to [] y h k = (k, tt)
all_longer P Q to (x ∷ xs) y h k = (to x h.0, all_longer P Q to xs y h.1 k)

all_to : {X : Type 0} (P Q : X → Type 0) → ((x : X) → P x → Q x) → (xs : List X) → AllByRecursion P xs → AllByRecursion Q xs
all_to P Q to [] h = tt
all_to P Q to (x ∷ xs) h = (to x h.0, all_to P Q to xs h.1)

-- ---- members

either_more : (f : ℕ) (xs ys : List ℕ) (b : Bool) → length xs ≤ length ys → length (cond b (f ∷ xs) xs) ≤ length (cond b (f ∷ ys) ys)
either_more f xs ys true le = omega (arith, le)
either_more f xs ys false le = le

more_members : (f : ℕ) (places : List ℕ) (q k : ℕ) → length (members_from f places k) ≤ length (members_from f (places ++ q ∷ []) k)
more_members f [] q k = omega arith
more_members f (p ∷ places) q k =
    either_more f (members_from (suc f) places k) (members_from (suc f) (places ++ q ∷ []) k) (p == k) (more_members (suc f) places q k)

either_some : (f : ℕ) (xs : List ℕ) (b : Bool) → 0 < length xs → 0 < length (cond b (f ∷ xs) xs)
either_some f xs true l = omega arith
either_some f xs false l = l

itself : (k : ℕ) → (k == k) ≡ true
itself k = grind (arith, nat_tests)

own_member : (f : ℕ) (places : List ℕ) (k : ℕ) → 0 < length (members_from f (places ++ k ∷ []) k)
own_member f [] k = subst (λ (b : Bool). 0 < length (cond b (f ∷ []) [])) (sym (itself k)) (omega arith)
own_member f (p ∷ places) k = either_some f (members_from (suc f) (places ++ k ∷ []) k) (p == k) (own_member (suc f) places k)

has_some : (kind : Kind) (ms : List ℕ) → 0 < length ms → HasMembers kind ms
has_some Mandatory ms l = tt
has_some Optional ms l = tt
has_some Alternative ms l = l
has_some Or ms l = l
has_some (Cardinality low high) ms l = l

has_more : (kind : Kind) (ms ns : List ℕ) → length ms ≤ length ns → HasMembers kind ms → HasMembers kind ns
has_more Mandatory ms ns le h = tt
has_more Optional ms ns le h = tt
has_more Alternative ms ns le h = omega (arith, le, h)
has_more Or ms ns le h = omega (arith, le, h)
has_more (Cardinality low high) ms ns le h = omega (arith, le, h)

before_longer : (places : List ℕ) (q k p : ℕ) → ComesBefore places k p → ComesBefore (places ++ q ∷ []) k p
before_longer places q k zero h = tt
before_longer places q k (suc f) h = some_longer (λ place. place < k) places q f h

-- ---- bounds

short_number : (digits : List ℕ) → number_of digits < 2 ^ 64
short_number digits = let l : number_of digits ≤ 2 ^ 30 = omega arith in omega (arith, l)

short_either : (b : Bool) (p q : Option Kind) → ((k : Kind) → p ≡ Some k → HasShortBounds k) → ((k : Kind) → q ≡ Some k → HasShortBounds k) → (k : Kind) → cond b p q ≡ Some k → HasShortBounds k
short_either true p q h j = h
short_either false p q h j = j

none_short : (k : Kind) → ◌≡◌ {A = Option Kind} None (Some k) → HasShortBounds k
none_short k e = absurd (cc)

some_short : (k : Kind) → HasShortBounds k → (l : Kind) → Some k ≡ Some l → HasShortBounds l
some_short k h l e = let same : k ≡ l = cc in subst HasShortBounds same h

short_high : (low : ℕ) (text : List ℕ) → low < 2 ^ 64 → (k : Kind) → high_at low text ≡ Some k → HasShortBounds k
short_high low text l =
    short_either (bytes_eq text (codes "*]")) (Some (Cardinality low None)) _ (some_short (Cardinality low None) l)
    (short_either (not (is_nothing (digits_at text)) && bytes_eq (behind_digits text) (codes "]")) (Some (Cardinality low (Some (number_of (digits_at text))))) None (some_short (Cardinality low (Some (number_of (digits_at text)))) l) none_short)

short_behind : (low : ℕ) (o : Option (List ℕ)) → low < 2 ^ 64 → (k : Kind) → high_or_none low o ≡ Some k → HasShortBounds k
short_behind low None l = none_short
short_behind low (Some text) l = short_high low text l

short_cardinality : (text : List ℕ) (k : Kind) → cardinality_at text ≡ Some k → HasShortBounds k
short_cardinality text =
    let n = number_of (digits_at text) in
    short_either (is_nothing (digits_at text)) None _ none_short
    (short_either (bytes_eq (behind_digits text) (codes "]")) (Some (Cardinality n (Some n))) (high_or_none n (behind_dots (behind_digits text))) (some_short (Cardinality n (Some n)) (short_number (digits_at text)))
    (short_behind n (behind_dots (behind_digits text)) (short_number (digits_at text))))

short_bracket : (word : List ℕ) (k : Kind) → cardinality_of word ≡ Some k → HasShortBounds k
short_bracket [] = none_short
short_bracket (b ∷ bs) = short_either (b == 91) (cardinality_at bs) None (short_cardinality bs) none_short

short_kind : (word : List ℕ) (k : Kind) → kind_of word ≡ Some k → HasShortBounds k
short_kind word =
    short_either (bytes_eq word (codes "mandatory")) (Some Mandatory) _ (some_short Mandatory tt)
    (short_either (bytes_eq word (codes "optional")) (Some Optional) _ (some_short Optional tt)
    (short_either (bytes_eq word (codes "alternative")) (Some Alternative) _ (some_short Alternative tt)
    (short_either (bytes_eq word (codes "or")) (Some Or) (cardinality_of word) (some_short Or tt) (short_bracket word))))

-- the kind that stands in an item
abbrev IsShortItem : Result Item Stop → Type 0
IsShortItem r = (kind : Kind) → r ≡ Ok (head kind) → HasShortBounds kind

either_item : (b : Bool) (r s : Result Item Stop) → IsShortItem r → IsShortItem s → IsShortItem (cond b r s)
either_item true r s h k = h
either_item false r s h k = k

stop_short : (stop : Stop) → IsShortItem (Err stop)
stop_short stop kind e = absurd (cc)

name_short : (name : List ℕ) → IsShortItem (Ok (named name))
name_short name kind e = absurd (cc)

before_short : (name behind : List ℕ) → IsShortItem (named_before name behind)
before_short name behind =
    either_item (is_nothing behind) (Ok (named name)) _ (name_short name)
    (either_item (first_byte behind == 123) (with_attributes name behind) _
    (either_item (names_constraint behind) _ _ (stop_short _) (either_item (last_visible 0 behind == 125) (Ok (named name)) _ (name_short name) (stop_short _)))
    (stop_short _))

feature_short : (body : List ℕ) → IsShortItem (feature_of body)
feature_short body =
    either_item (first_byte body == 34) (quoted_feature body (drop 1 body)) (plain_feature body (name_at body) (behind_name body))
    (either_item (is_quoted_name (drop 1 body)) (named_before (name_at (drop 1 body)) (behind_quote (drop 1 body))) _ (before_short (name_at (drop 1 body)) (behind_quote (drop 1 body))) (stop_short _))
    (either_item (is_nothing (name_at body)) _ _ (stop_short _)
    (either_item (not (is_nothing (behind_name body)) && is_type (name_at body)) _ _ (stop_short _)
    (either_item (is_feature_name (name_at body)) (named_before (name_at body) (behind_name body)) _ (before_short (name_at body) (behind_name body)) (stop_short _))))

by_short : (body : List ℕ) (o : Option Kind) → ((k : Kind) → o ≡ Some k → HasShortBounds k) → IsShortItem (item_by body o)
by_short body None h = feature_short body
by_short body (Some k) h =
    either_item (not (is_nothing (behind_word body))) _ _ (stop_short _)
    (either_item (has_range k) (Ok (head k)) _ (λ kind e. let same : k ≡ kind = cc in subst HasShortBounds same (h k refl)) (stop_short _))

item_short : (body : List ℕ) → IsShortItem (item_of body)
item_short body = by_short body (kind_of (word_at body)) (short_kind (word_at body))

-- ---- what grows

-- the last open row is the head of this group
abbrev IsOpenHead : ℕ → Option Open → Type 0
IsOpenHead k None = ⊥
IsOpenHead k (Some row) = (row.is_group ≡ true) × (row.number ≡ k)

record Fits (g : Growth) : Type 0 where
  numbered : AreNumbered g
  each_placed : length g.tree.names ≡ length g.tree.places + 1
  placed : AllByRecursion (λ p. p < length g.tree.groups) g.tree.places
  bounds : AllByRecursion (λ y. HasShortBounds y.kind) g.tree.groups
  before : (k : ℕ) (x : Group) → slice_get g.tree.groups k ≡ Some x → ComesBefore g.tree.places k x.parent
  members : (k : ℕ) (x : Group) → slice_get g.tree.groups k ≡ Some x → HasMembers x.kind (members_from 1 g.tree.places k) ⊎ IsOpenHead k (last_of g.open_rows)

all_narrower : (indent : ℕ) (rows : List Open) → list_all (λ row. nat_lt row.indent indent) rows ≡ true → narrower indent rows ≡ rows
all_narrower indent [] e = refl
all_narrower indent (row ∷ rows) e = go (nat_lt row.indent indent) refl e (all_narrower indent rows)
  where
    go : (b : Bool) → nat_lt row.indent indent ≡ b → (b && list_all (λ row. nat_lt row.indent indent) rows) ≡ true → (list_all (λ row. nat_lt row.indent indent) rows ≡ true → narrower indent rows ≡ rows) → narrower indent (row ∷ rows) ≡ row ∷ rows
    go true is e later =
        ap (λ (b : Bool). cond b (row ∷ narrower indent rows) (narrower indent rows)) is ∙ ap (λ (rs : List Open). row ∷ rs) (later e)
    go false is e later = absurd (cc)

-- below the head of a group stands a member of it
below_head : (indent : ℕ) (rows : List Open) (parent : Open) (k : ℕ) → lacks_member indent rows ≡ false → last_of (narrower indent rows) ≡ Some parent → IsOpenHead k (last_of rows)
    → (parent.is_group ≡ true) × (parent.number ≡ k)
below_head indent rows parent k lacks at h = go (last_of rows) refl h (list_all (λ row. nat_lt row.indent indent) rows) refl
  where
    go : (o : Option Open) → last_of rows ≡ o → IsOpenHead k o → (b : Bool) → list_all (λ row. nat_lt row.indent indent) rows ≡ b → (parent.is_group ≡ true) × (parent.number ≡ k)
    go None e h b f = absurd h
    go (Some row) e h true f =
        let same : Some row ≡ Some parent = sym e ∙ ap last_of (sym (all_narrower indent rows f)) ∙ at in
        let is : row ≡ parent = cc in
        (ap (λ (r : Open). r.is_group) (sym is) ∙ h.0, ap (λ (r : Open). r.number) (sym is) ∙ h.1)
    go (Some row) e h false f =
        let w : lacks_member indent rows ≡ true = ap₂ (λ (o : Option Open) (b : Bool). ends_in_head o && not b) e f ∙ ap (λ (b : Bool). b && not false) h.0 in
        absurd (let z : true ≡ false = sym w ∙ lacks in cc)

true_false : (b : Bool) → b ≡ true → b ≡ false → ⊥
true_false b e f = cc

module _ (g : Growth) (fits : Fits g) (indent : ℕ) (parent : Open) (lacks : lacks_member indent g.open_rows ≡ false) (at : last_of (narrower indent g.open_rows) ≡ Some parent) where
  abbrev parents : List Open
  parents = narrower indent g.open_rows

  group_fits : (kind : Kind) → HasShortBounds kind → parent.is_group ≡ false → Fits (with_group g indent parents parent.number kind)
  group_fits kind short is =
      let below = numbered_narrower g.tree indent g.open_rows fits.numbered.each in
      let number : parent.number < length g.tree.names = number_of_feature g.tree parent (numbered_last g.tree parents parent below at) is in
      let new : Group = record { parent = parent.number; kind = kind } in
      let one_more : length (g.tree.groups ++ new ∷ []) ≡ length g.tree.groups + 1 = length-append g.tree.groups (new ∷ []) in
      record {
        numbered = numbered_with_group g indent parents parent.number kind below fits.numbered.none;
        each_placed = fits.each_placed;
        placed = all_to (λ (p : ℕ). p < length g.tree.groups) (λ p. p < length (g.tree.groups ++ new ∷ [])) (λ p l. omega (arith, l, one_more)) g.tree.places fits.placed;
        bounds = all_longer (λ (y : Group). HasShortBounds y.kind) (λ y. HasShortBounds y.kind) (λ y k. k) g.tree.groups new fits.bounds short;
        before = λ k x e. old_or_new k x (in_longer g.tree.groups new x k e) number;
        members = λ k x e. filled k x (in_longer g.tree.groups new x k e);
      }
    where
      new_before : (p : ℕ) → p < length g.tree.names → ComesBefore g.tree.places (length g.tree.groups) p
      new_before zero l = tt
      new_before (suc j) l = some_at (λ place. place < length g.tree.groups) g.tree.places j (let e = fits.each_placed in omega (arith, l, e)) fits.placed

      old_or_new : (k : ℕ) (x : Group) → (slice_get g.tree.groups k ≡ Some x) ⊎ ((k ≡ length g.tree.groups) × (record { parent = parent.number; kind = kind } ≡ x)) → parent.number < length g.tree.names → ComesBefore g.tree.places k x.parent
      old_or_new k x (inl e) l = fits.before k x e
      old_or_new k x (inr e) l =
          let is : parent.number ≡ x.parent = ap (λ (y : Group). y.parent) e.1 in
          subst (ComesBefore g.tree.places k) is (subst (λ (n : ℕ). ComesBefore g.tree.places n parent.number) (sym e.0) (new_before parent.number l))

      old_filled : (k : ℕ) (x : Group) → HasMembers x.kind (members_from 1 g.tree.places k) ⊎ IsOpenHead k (last_of g.open_rows) → HasMembers x.kind (members_from 1 g.tree.places k)
      old_filled k x (inl h) = h
      old_filled k x (inr h) = absurd (true_false parent.is_group (below_head indent g.open_rows parent k lacks at h).0 is)

      filled : (k : ℕ) (x : Group) → (slice_get g.tree.groups k ≡ Some x) ⊎ ((k ≡ length g.tree.groups) × (record { parent = parent.number; kind = kind } ≡ x))
          → HasMembers x.kind (members_from 1 g.tree.places k) ⊎ IsOpenHead k (last_of (parents ++ record { indent = indent; is_group = true; number = length g.tree.groups } ∷ []))
      filled k x (inl e) = inl (old_filled k x (fits.members k x e))
      filled k x (inr e) = inr (subst (IsOpenHead k) (sym (last_is parents (record { indent = indent; is_group = true; number = length g.tree.groups }))) (refl, sym e.0))

  feature_fits : (name : List ℕ) → parent.is_group ≡ true → Fits (with_feature g indent parents parent.number name)
  feature_fits name is =
      let below = numbered_narrower g.tree indent g.open_rows fits.numbered.each in
      let number : parent.number < length g.tree.groups = number_of_group g.tree parent (numbered_last g.tree parents parent below at) is in
      let a : length (g.tree.names ++ name ∷ []) ≡ length g.tree.names + 1 = length-append g.tree.names (name ∷ []) in
      let b : length (g.tree.places ++ parent.number ∷ []) ≡ length g.tree.places + 1 = length-append g.tree.places (parent.number ∷ []) in
      record {
        numbered = numbered_with_feature g indent parents parent.number name below fits.numbered.none;
        each_placed = let e = fits.each_placed in omega (arith, a, b, e);
        placed = all_longer (λ (p : ℕ). p < length g.tree.groups) (λ p. p < length g.tree.groups) (λ p l. l) g.tree.places parent.number fits.placed number;
        bounds = fits.bounds;
        before = λ k x e. before_longer g.tree.places parent.number k x.parent (fits.before k x e);
        members = λ k x e. inl (filled k x (fits.members k x e));
      }
    where
      filled : (k : ℕ) (x : Group) → HasMembers x.kind (members_from 1 g.tree.places k) ⊎ IsOpenHead k (last_of g.open_rows) → HasMembers x.kind (members_from 1 (g.tree.places ++ parent.number ∷ []) k)
      filled k x (inl h) = has_more x.kind (members_from 1 g.tree.places k) (members_from 1 (g.tree.places ++ parent.number ∷ []) k) (more_members 1 g.tree.places parent.number k) h
      filled k x (inr h) =
          let e : parent.number ≡ k = (below_head indent g.open_rows parent k lacks at h).1 in
          has_some x.kind (members_from 1 (g.tree.places ++ parent.number ∷ []) k) (subst (λ (q : ℕ). 0 < length (members_from 1 (g.tree.places ++ q ∷ []) k)) (sym e) (own_member 1 g.tree.places k))

  placed_fits : (body : List ℕ) (item : Item) (h : Growth) → ((kind : Kind) → item ≡ head kind → HasShortBounds kind) → placed g indent body parents parent item ≡ Ok h → Fits h
  placed_fits body (head kind) h short e = go parent.is_group refl e
    where
      go : (b : Bool) → parent.is_group ≡ b → cond b (stopped Syntax body) (Ok (with_group g indent parents parent.number kind)) ≡ Ok h → Fits h
      go true is e = absurd (cc)
      go false is e = let same : with_group g indent parents parent.number kind ≡ h = cc in subst Fits same (group_fits kind (short kind refl) is)
  placed_fits body (named name) h short e = go parent.is_group refl (is_some (index_of g.tree.names name)) (length g.tree.names == 512) e
    where
      go : (b : Bool) → parent.is_group ≡ b → (c d : Bool) → cond b (cond c (stopped Twice body) (cond d (stopped TooMany body) (Ok (with_feature g indent parents parent.number name)))) (stopped Syntax body) ≡ Ok h → Fits h
      go true is true d e = absurd (cc)
      go true is false true e = absurd (cc)
      go true is false false e = let same : with_feature g indent parents parent.number name ≡ h = cc in subst Fits same (feature_fits name is)
      go false is c d e = absurd (cc)

-- a row more
module _ (g : Growth) (bytes : List ℕ) (h : Growth) (fits : Fits g) where
  abbrev indent : ℕ
  indent = indentation bytes

  abbrev body : List ℕ
  body = after_blanks bytes

  by_parent : (o : Option Open) → last_of (narrower indent g.open_rows) ≡ o → (item : Item) → item_of body ≡ Ok item → lacks_member indent g.open_rows ≡ false → placed_below g indent body (narrower indent g.open_rows) o item ≡ Ok h → Fits h
  by_parent None at item is lacks e = absurd (cc)
  by_parent (Some parent) at item is lacks e = placed_fits g fits indent parent lacks at body item h (λ kind same. item_short body kind (is ∙ ap (λ (x : Item). Ok x) same)) e

  by_item : (r : Result Item Stop) → item_of body ≡ r → lacks_member indent g.open_rows ≡ false → placed_item g indent body r ≡ Ok h → Fits h
  by_item (Err stop) is lacks e = absurd (cc)
  by_item (Ok item) is lacks e = by_parent (last_of (narrower indent g.open_rows)) refl item is lacks e

  by_stop : (b c : Bool) → lacks_member indent g.open_rows ≡ b → grown_by g indent body (cond b (Some NoMember) (cond c None (Some Indentation))) ≡ Ok h → Fits h
  by_stop true c lacks e = absurd (cc)
  by_stop false true lacks e = by_item (item_of body) refl lacks e
  by_stop false false lacks e = absurd (cc)

  grown_fits : grown g bytes ≡ Ok h → Fits h
  grown_fits e = by_stop (lacks_member indent g.open_rows) (is_aligned indent g.open_rows) refl e

seed_fits : (indent : ℕ) (name : List ℕ) → Fits (seed indent name)
seed_fits indent name = record {
  numbered = record { each = (omega arith, tt); none = refl };
  each_placed = omega arith;
  placed = tt;
  bounds = tt;
  before = λ k x e. absurd (cc);
  members = λ k x e. absurd (cc);
}

-- a tree whose groups are in order
record IsGrown (tree : Tree) : Type 0 where
  bounds : AllByRecursion (λ y. HasShortBounds y.kind) tree.groups
  before : (k : ℕ) (x : Group) → slice_get tree.groups k ≡ Some x → ComesBefore tree.places k x.parent
  members : (k : ℕ) (x : Group) → slice_get tree.groups k ≡ Some x → HasMembers x.kind (members_from 1 tree.places k)

closed : (o : Option Open) (k : ℕ) → ends_in_head o ≡ false → IsOpenHead k o → ⊥
closed None k e h = h
closed (Some row) k e h = let i = h.0 in cc

finished_grown : (g : Growth) (behind : List Row) (fault : TextFault) (f : Features) → Fits g → finished g behind fault ≡ Ok f → IsGrown f.tree
finished_grown g behind fault f fits e = go (ends_in_head (last_of g.open_rows)) refl e
  where
    filled : (k : ℕ) (x : Group) → ends_in_head (last_of g.open_rows) ≡ false → HasMembers x.kind (members_from 1 g.tree.places k) ⊎ IsOpenHead k (last_of g.open_rows) → HasMembers x.kind (members_from 1 g.tree.places k)
    filled k x none (inl h) = h
    filled k x none (inr h) = absurd (closed (last_of g.open_rows) k none h)

    go : (b : Bool) → ends_in_head (last_of g.open_rows) ≡ b → cond b (Err fault) (Ok (record { tree = g.tree; behind = behind })) ≡ Ok f → IsGrown f.tree
    go true none e = absurd (cc)
    go false none e =
        let same : record { tree = g.tree; behind = behind } ≡ f = cc in
        subst (λ (x : Features). IsGrown x.tree) same (record { bounds = fits.bounds; before = fits.before; members = λ k x at. filled k x none (fits.members k x at) })

from_grown : (g : Growth) (rs : List Row) (f : Features) → Fits g → features_from g rs ≡ Ok f → IsGrown f.tree
from_grown g [] f fits e = finished_grown g [] Ended f fits e
from_grown g (row ∷ behind) f fits e = go (is_head (codes "constraints") row.bytes) (grown g row.bytes) refl (λ h k i. from_grown h behind f k i) e
  where
    go : (b : Bool) (r : Result Growth Stop) → grown g row.bytes ≡ r → ((h : Growth) → Fits h → features_from h behind ≡ Ok f → IsGrown f.tree)
        → cond b (finished g behind (Refused NoMember row.start)) (after_row row r (λ h. features_from h behind)) ≡ Ok f → IsGrown f.tree
    go true r is later e = finished_grown g behind (Refused NoMember row.start) f fits e
    go false (Err stop) is later e = absurd (cc)
    go false (Ok h) is later e = later h (grown_fits g row.bytes h fits is) e

root_grown : (row : Row) (behind : List Row) (f : Features) → after_row row (rooted row.bytes) (λ g. features_from g behind) ≡ Ok f → IsGrown f.tree
root_grown row behind f e = go (indentation row.bytes == 0) (item_of (after_blanks row.bytes)) e
  where
    go : (b : Bool) (r : Result Item Stop) → after_row row (cond b (stopped Indentation (after_blanks row.bytes)) (rooted_item (indentation row.bytes) (after_blanks row.bytes) r)) (λ g. features_from g behind) ≡ Ok f → IsGrown f.tree
    go true r e = absurd (cc)
    go false (Err stop) e = absurd (cc)
    go false (Ok (head kind)) e = absurd (cc)
    go false (Ok (named name)) e = from_grown (seed (indentation row.bytes) name) behind f (seed_fits (indentation row.bytes) name) e

after_grown : (rs : List Row) (f : Features) → features_after rs ≡ Ok f → IsGrown f.tree
after_grown [] f e = absurd (cc)
after_grown (row ∷ behind) f e = go (is_head (codes "features") row.bytes) behind (front_stop row.bytes) (λ i. after_grown behind f i) e
  where
    go : (b : Bool) (rs : List Row) (o : Option Stop) → (features_after rs ≡ Ok f → IsGrown f.tree) → cond b (features_of rs) (after_front row o (features_after rs)) ≡ Ok f → IsGrown f.tree
    go true [] o later e = absurd (cc)
    go true (r ∷ rs) o later e = root_grown r rs f e
    go false rs None later e = later e
    go false rs (Some stop) later e = absurd (cc)

order_from : (first : ℕ) (gs : List Group) (places : List ℕ) → ((k : ℕ) (x : Group) → slice_get gs k ≡ Some x → ComesBefore places (first + k) x.parent × HasMembers x.kind (members_from 1 places (first + k)))
    → AreInOrder first gs places
order_from first [] places h = tt
order_from first (g ∷ gs) places h =
    let here : first + 0 ≡ first = omega arith in
    let a = h 0 g refl in (
      subst (λ (n : ℕ). ComesBefore places n g.parent) here a.0,
      subst (λ (n : ℕ). HasMembers g.kind (members_from 1 places n)) here a.1,
      order_from (suc first) gs places (λ k x is. let there : first + suc k ≡ suc first + k = omega arith in let b = h (suc k) x is in
          (subst (λ (n : ℕ). ComesBefore places n x.parent) there b.0, subst (λ (n : ℕ). HasMembers x.kind (members_from 1 places n)) there b.1)),
    )

-- ---- constraints

module _ (names : List (List ℕ)) where
  joined_rows : (rs : List Row) (cs : List (Constraint ℕ)) → AllZip (SpellsConstraint names) rs cs → AllByRecursion JoinsTwo cs
  joined_rows [] [] h = tt
  joined_rows [] (c ∷ cs) h = absurd h
  joined_rows (r ∷ rs) [] h = absurd h
  joined_rows (r ∷ rs) (c ∷ cs) h =
      let s = h.0.spelled.spelled in
      (subst JoinsTwo (sym h.0.indices) (signs.read_joins (index_or_end names) s.rule h.0.rule s.is), joined_rows rs cs h.1)

  few_rows : (rs : List Row) (cs : List (Constraint ℕ)) → AllZip (SpellsConstraint names) rs cs → AllByRecursion (λ c. open_signs c ≤ 64) cs
  few_rows [] [] h = tt
  few_rows [] (c ∷ cs) h = absurd h
  few_rows (r ∷ rs) [] h = absurd h
  few_rows (r ∷ rs) (c ∷ cs) h =
      let s = h.0.spelled.spelled in
      (subst (λ (x : Constraint ℕ). open_signs x ≤ 64) (sym h.0.indices) (signs.read_few (index_or_end names) s.rule h.0.rule s.is), few_rows rs cs h.1)

pub spelled_in_order : SpelledTreesAreInOrder
spelled_in_order text tree s is =
    let grown = after_grown (rows text) _ s.features in
    record {
      is_tree = is;
      groups = order_from 0 tree.groups tree.places (λ k x is. let e : k ≡ 0 + k = omega arith in
          (subst (λ (n : ℕ). ComesBefore tree.places n x.parent) e (grown.before k x is), subst (λ (n : ℕ). HasMembers x.kind (members_from 1 tree.places n)) e (grown.members k x is)));
      bounds = grown.bounds;
      joins = joined_rows tree.names s.behind tree.constraints s.constraints;
      few_signs = few_rows tree.names s.behind tree.constraints s.constraints;
    }
