-- What a text spells is a system.
use Rattle.std.proofs.Common.{◌≡◌, ℕ, zero, suc, ◌+◌, ◌-◌, ◌<◌, ◌≤◌, max, Bool, true, false, not, ◌&&◌, ◌||◌, ◌==◌, cond, List, [], ◌∷◌, ◌++◌, length, take, bytes_eq, Option, Some, None, slice_index, refl, sym, ap, ◌∙◌, subst, arith}
use Rattle.std.specs.List.{All, list_any, slice_split, onto_first, position_or_len}
use Rattle.std.specs.Str.Lines.{lines, lines_of_parts, strip_carriage_return}
use Rattle.std.proofs.lemmas.List.{length-append, take-append-drop}
use Rattle.std.proofs.lemmas.List.Elements.{All-append, All-nil}
use Rattle.vpg_features.specs.Names.{Lacks, AreDistinct}
use Rattle.vpg_features.proofs.Held.{same_bytes}
use Rattle.vpg_guards.specs.Formula.{Formula, always}
use Rattle.vpg_guards.specs.Writing.{IsReadable}
use Rattle.vpg_guards.proofs.Readable.{spelled_readable}
use Rattle.vpg_system.specs.SystemText.{Transition, NamedSystem, Header, lacks, SpellsGuard, SpellsTransition, with_name, place_with, AreTransitions, not_blank, kept, IsTextOf}
use Rattle.vpg_system.specs.System.{IsActionName, IsTransition, AreInOrder, IsSystem}
use Rattle.vpg_system.specs.SystemReading.{Seen}
use Rattle.vpg_system.proofs.Cuts.{lacks_parts}
use Rattle.vpg_system.proofs.Labels.{form_lacks, action_name}

-- what is read, with a number of features
abbrev pub counted : ℕ → Header → Seen → NamedSystem
counted n h seen = record { features = n; first = h.first; states = h.states; actions = seen.names; transitions = seen.transitions }

-- ---- lines have no line feed

abbrev pub AreOneLine : List (List ℕ) → Type 0
AreOneLine [] = Unit {0}
AreOneLine (l ∷ ls) = (lacks 10 l ≡ true) × AreOneLine ls

onto_one_line : (b : ℕ) (ps : List (List ℕ)) → not (b == 10) ≡ true → AreOneLine ps → AreOneLine (onto_first b ps)
onto_one_line b [] n o = (ap (λ x. x && true) n, tt)
onto_one_line b (p ∷ ps) n o = (ap (λ x. x && lacks 10 p) n ∙ o.0, o.1)

split_one_line : (bytes : List ℕ) → AreOneLine (slice_split (λ b. b == 10) bytes)
split_one_line [] = (refl, tt)
split_one_line (b ∷ bs) = go (b == 10) refl (split_one_line bs)
  where
    go : (t : Bool) → (b == 10) ≡ t → AreOneLine (slice_split (λ x. x == 10) bs) → AreOneLine (cond t ([] ∷ slice_split (λ x. x == 10) bs) (onto_first b (slice_split (λ x. x == 10) bs)))
    go true e ih = (refl, ih)
    go false e ih = onto_one_line b (slice_split (λ x. x == 10) bs) (ap not e) ih

strip_lacks : (l : List ℕ) → lacks 10 l ≡ true → lacks 10 (strip_carriage_return l) ≡ true
strip_lacks l e = go (slice_index l (length l - 1) == 13)
  where
    go : (t : Bool) → lacks 10 (cond t (take (length l - 1) l) l) ≡ true
    go true = (lacks_parts 10 (take (length l - 1) l) _ (ap (lacks 10) (take-append-drop (length l - 1) l) ∙ e)).0
    go false = e

parts_one_line : (ps : List (List ℕ)) → AreOneLine ps → AreOneLine (lines_of_parts ps)
parts_one_line [] o = o
parts_one_line (p ∷ []) o = go (length p == 0)
  where
    go : (t : Bool) → AreOneLine (cond t [] (p ∷ []))
    go true = tt
    go false = o
parts_one_line (p ∷ q ∷ ps) o = (strip_lacks p o.0, parts_one_line (q ∷ ps) o.1)

kept_one_line : (ls : List (List ℕ)) → AreOneLine ls → AreOneLine (kept ls)
kept_one_line [] o = o
kept_one_line (l ∷ ls) o = go (not_blank l) (kept_one_line ls o.1)
  where
    go : (t : Bool) → AreOneLine (kept ls) → AreOneLine (cond t (l ∷ kept ls) (kept ls))
    go true ih = (o.0, ih)
    go false ih = ih

pub lines_one_line : (text : List ℕ) → AreOneLine (kept (lines text))
lines_one_line text = kept_one_line (lines text) (parts_one_line (slice_split (λ b. b == 10) text) (split_one_line text))

-- ---- names

lacks_one : (names : List (List ℕ)) (n name : List ℕ) → Lacks names n → (n ≡ name → ⊥) → Lacks (names ++ name ∷ []) n
lacks_one [] n name lacks ne zero e = ne cc
lacks_one [] n name lacks ne (suc i) e = absurd cc
lacks_one (m ∷ names) n name lacks ne zero e = lacks zero e
lacks_one (m ∷ names) n name lacks ne (suc i) e = lacks_one names n name (λ j. lacks (suc j)) ne i e

distinct_more : (names : List (List ℕ)) (name : List ℕ) → AreDistinct names → Lacks names name → AreDistinct (names ++ name ∷ [])
distinct_more [] name distinct lacks = ((λ i e. absurd cc), tt)
distinct_more (n ∷ names) name distinct lacks = (
  lacks_one names n name distinct.0 (λ same. lacks zero (ap (λ (m : List ℕ). Some m) same)),
  distinct_more names name distinct.1 (λ j. lacks (suc j)),
)

neither : (a b : Bool) → (a || b) ≡ false → (a ≡ false) × (b ≡ false)
neither true b e = absurd (cc)
neither false b e = (refl, e)

not_among : (names : List (List ℕ)) (name : List ℕ) → list_any (bytes_eq name) names ≡ false → Lacks names name
not_among [] name e i k = absurd cc
not_among (n ∷ names) name e zero k =
    let p = neither (bytes_eq name n) (list_any (bytes_eq name) names) e in
    let q : n ≡ name = cc in
    let r = same_bytes name n (sym q) in
    absurd (cc)
not_among (n ∷ names) name e (suc i) k = not_among names name (neither (bytes_eq name n) (list_any (bytes_eq name) names) e).1 i k

pub record AreGood (names : List (List ℕ)) : Type 0 where
  pub are : All IsActionName names
  pub distinct : AreDistinct names

one_name : (name : List ℕ) → IsActionName name → All IsActionName (name ∷ [])
one_name name n = grind (arith)

good_with : (names : List (List ℕ)) (name : List ℕ) → AreGood names → IsActionName name → AreGood (with_name names name)
good_with names name g n = go (list_any (bytes_eq name) names) refl
  where
    go : (t : Bool) → list_any (bytes_eq name) names ≡ t → AreGood (cond t names (names ++ name ∷ []))
    go true e = g
    go false e = record {
      are = All-append IsActionName names (name ∷ []) g.are (one_name name n);
      distinct = distinct_more names name g.distinct (not_among names name e);
    }

name_of_line : (features : List (List ℕ)) (bytes name : List ℕ) (t : Transition) → SpellsTransition features bytes name t → lacks 10 bytes ≡ true → IsActionName name
name_of_line features bytes name t s e =
    action_name s.label name s.text s.label_is (form_lacks 10 bytes (record { source = t.source; label = s.label; target = t.target }) s.form_is e)

-- ---- places

place_here : (p : List ℕ → Bool) (n : List ℕ) (ns : List (List ℕ)) (t : Bool) → p n ≡ t → position_or_len p (n ∷ ns) ≡ cond (not t) (1 + position_or_len p ns) 0
place_here p n ns t e = ap (λ b. cond (not b) (1 + position_or_len p ns) 0) e

pub place_among : (p : List ℕ → Bool) (names : List (List ℕ)) → list_any p names ≡ true → position_or_len p names < length names
place_among p [] e = absurd (cc)
place_among p (n ∷ ns) e = go (p n) refl e (place_among p ns)
  where
    go : (t : Bool) → p n ≡ t → (t || list_any p ns) ≡ true → (list_any p ns ≡ true → position_or_len p ns < length ns) → position_or_len p (n ∷ ns) < suc (length ns)
    go true k x ih = let z = place_here p n ns true k in omega (arith, z)
    go false k x ih = let z = place_here p n ns false k in let l = ih x in omega (arith, z, l)

pub place_behind : (p : List ℕ → Bool) (names : List (List ℕ)) → list_any p names ≡ false → position_or_len p names ≡ length names
place_behind p [] e = refl
place_behind p (n ∷ ns) e =
    let k = neither (p n) (list_any p ns) e in
    let z = place_here p n ns false k.0 in
    let l = place_behind p ns k.1 in
    omega (arith, z, l)

-- with one name more there are as many as up to its place
pub grown : (names : List (List ℕ)) (name : List ℕ) → (place_with names name ≤ length names) × (length (with_name names name) ≡ max (length names) (place_with names name + 1))
grown names name = go (list_any (bytes_eq name) names) refl
  where
    go : (t : Bool) → list_any (bytes_eq name) names ≡ t → (place_with names name ≤ length names) × (length (cond t names (names ++ name ∷ [])) ≡ max (length names) (place_with names name + 1))
    go true e = let l = place_among (bytes_eq name) names e in (omega (arith, l), omega (arith, l))
    go false e =
        let l = place_behind (bytes_eq name) names e in
        let k = length-append names (name ∷ []) in
        (omega (arith, l), omega (arith, l, k))

pub order_grows : (seen : ℕ) (ts : List Transition) (all : ℕ) → AreInOrder seen ts all → seen ≤ all
order_grows seen [] all o = omega (arith, o)
order_grows seen (t ∷ ts) all o = let l = order_grows (max seen (t.action + 1)) ts all o.1 in omega (arith, l)

pub order_few : (seen : ℕ) (ts : List Transition) (all : ℕ) → AreInOrder seen ts all → all ≤ seen + length ts
order_few seen [] all o = omega (arith, o)
order_few seen (t ∷ ts) all o = let l = order_few (max seen (t.action + 1)) ts all o.1 in let a = o.0 in omega (arith, l, a)

pub few_actions : (s : NamedSystem) → IsSystem s → length s.actions ≤ 1048576
few_actions s i =
    let l = order_few 0 s.transitions (length s.actions) i.in_order in
    let k = i.few_transitions in
    omega (arith, l, k)

-- ---- transitions

always_readable : (n : ℕ) → IsReadable n always
always_readable n = record { guard = tt; below = tt; nested = omega arith }

readable : (features : List (List ℕ)) (text : Option (List ℕ)) (g : Formula) → SpellsGuard features text g → IsReadable (length features) g
readable features None g s = subst (IsReadable (length features)) (sym s) (always_readable (length features))
readable features (Some t) g s = spelled_readable features t g s

all_one_more : (P : Transition → Type 0) (t : Transition) (ts : List Transition) → P t → All P ts → All P (t ∷ ts)
all_one_more P t ts p ps = grind (arith)

pub record IsWalk (features : List (List ℕ)) (states : ℕ) (names : List (List ℕ)) (ts : List Transition) (all : List (List ℕ)) : Type 0 where
  pub good : AreGood all
  pub order : AreInOrder (length names) ts (length all)
  pub are : All (IsTransition (length features) states (length all)) ts

module _ (features : List (List ℕ)) (states : ℕ) where
  pub walk : (names ls : List (List ℕ)) (ts : List Transition) (all : List (List ℕ)) → AreTransitions features states names ls ts all → AreOneLine ls → AreGood names → IsWalk features states names ts all
  walk names [] [] all w o g = record {
    good = subst AreGood w g;
    order = ap length w;
    are = All-nil (IsTransition (length features) states (length all));
  }
  walk names [] (t ∷ ts) all w o g = absurd w
  walk names (l ∷ ls) [] all w o g = absurd w
  walk names (l ∷ ls) (t ∷ ts) all w o g =
      let r = walk (with_name names w.0) ls ts all w.5 o.1 (good_with names w.0 g (name_of_line features l w.0 t w.1 o.0)) in
      let k = grown names w.0 in
      let m : length (with_name names w.0) ≡ max (length names) (t.action + 1) = k.1 ∙ ap (λ a. max (length names) (a + 1)) (sym w.4) in
      let more = order_grows (length (with_name names w.0)) ts (length all) r.order in
      let e = w.4 in
      let s = w.1 in
      record {
        good = r.good;
        order = (omega (arith, k, e), subst (λ (n : ℕ). AreInOrder n ts (length all)) m r.order);
        are = all_one_more (IsTransition (length features) states (length all)) t ts (record {
          source_below = w.2;
          target_below = w.3;
          action_below = omega (arith, more, m);
          guard_is = readable features s.text t.guard s.guard_is;
        }) r.are;
      }

tail_one_line : (l : List ℕ) (ls ks : List (List ℕ)) → ks ≡ l ∷ ls → AreOneLine ks → AreOneLine ls
tail_one_line l ls ks e o = (subst AreOneLine e o).1

pub spelled_is_system : (features : List (List ℕ)) (text : List ℕ) (s : NamedSystem) → IsTextOf features text s → IsSystem s
spelled_is_system features text s t =
    let w = walk features s.states [] t.others s.transitions s.actions t.others_are (tail_one_line t.header t.others (kept (lines text)) t.lines_are (lines_one_line text))
    (record { are = All-nil IsActionName; distinct = tt }) in
    record {
      few_states = t.within.few_states;
      few_transitions = t.within.few_transitions;
      first_below = t.first_below;
      names_are = w.good.are;
      distinct = w.good.distinct;
      transitions_are = subst (λ (n : ℕ). All (IsTransition n s.states (length s.actions)) s.transitions) (sym t.features_are) w.are;
      in_order = w.order;
    }
