-- What is written spells the system.
use Rattle.std.proofs.Common.{◌≡◌, ℕ, zero, suc, ◌+◌, ◌-◌, ◌<◌, ◌≤◌, ◌^◌, max, Bool, true, false, not, ◌&&◌, ◌==◌, cond, codes, decimal, List, [], ◌∷◌, ◌++◌, length, get_or, map, take, bytes_eq, Option, Some, None, slice_index, slice_index_or, inr, refl, sym, ap, ap₂, ◌∙◌, subst, arith, append_assoc, append-nil}
use Rattle.std.specs.List.{All, list_all, list_any, slice_split, onto_first, position_or_len}
use Rattle.std.specs.Int.{IsInRange}
use Rattle.std.specs.Char.{is_ascii_digit}
use Rattle.std.specs.Str.Lines.{lines, lines_of_parts, strip_carriage_return}
use Rattle.std.specs.Str.Parse.{AllDigits}
use Rattle.std.proofs.lemmas.Str.Parse.{digit_from_value}
use Rattle.std.proofs.lemmas.Fmt.{decimal_is_IsNumeral}
use Rattle.std.proofs.lemmas.Bool.Decides.{nat_tests}
use Rattle.std.proofs.lemmas.List.{length-append, get_or_append_left, get_or-append-add, get_or-map}
use Rattle.std.proofs.lemmas.List.Elements.{All-get_or, All-from_get_or}
use Rattle.std.proofs.lemmas.List.Sums.{position_or_len_is}
use Rattle.vpg_features.specs.Names.{AreDistinct, AreNames}
use Rattle.vpg_features.proofs.Held.{same_bytes, other_bytes}
use Rattle.vpg_guards.specs.Formula.{Formula, always, never, feature, negation, all, any}
use Rattle.vpg_guards.specs.Writing.{guard_text, IsReadable}
use Rattle.vpg_guards.proofs.Again.{name_held}
use Rattle.vpg_guards.proofs.Written.{writing_spells}
use Rattle.vpg_system.specs.SystemText.{Transition, NamedSystem, Header, SpellsHeader, IsNumeralOf, Form, SpellsForm, IsNameAlone, IsGuarded, HasName, SpellsGuard, SpellsTransition, is_blank, is_sign, goes_on, is_nonempty, is_numeral, words, lacks, trimmed, without_front, without_end, is_closed, with_name, place_with, AreTransitions, not_blank, kept, header_of, IsWithin, IsTextOf}
use Rattle.vpg_system.specs.System.{IsActionName, IsTransition, AreInOrder, IsSystem}
use Rattle.vpg_system.specs.Writing.{bracketed, guard_part, label_text, quoted, transition_text, transitions_text, header_text, system_text}
use Rattle.vpg_system.proofs.Cuts.{lacks_joined, not_true}
use Rattle.vpg_system.proofs.Words.{in_front, end_kept, end_dropped}
use Rattle.vpg_system.proofs.LineCode.{some_part}
use Rattle.vpg_system.proofs.Trims.{stays}
use Rattle.vpg_system.proofs.TextLemmas.{kept_here}
use Rattle.vpg_system.proofs.Guards.{feed_other, bracket_other, guard_lacks}
use Rattle.vpg_system.proofs.Systems.{place_among, place_behind}

-- one of what a list of views has
pub one_of : {A B : Type 0} (P : B → Type 0) (f : A → B) (xs : List A) (i : ℕ) (d : A) → i < length xs → All P (map f xs) → P (f (get_or xs i d))
one_of P f xs i d l a =
    let n : length (map f xs) ≡ length xs = Rattle.std.proofs.lemmas.List.length-map xs f in
    subst P (get_or-map f xs i d (f d) l) (All-get_or P (map f xs) i (f d) (omega (arith, n, l)) a)

-- ---- numerals

digit_ascii : (c : ℕ) → IsInRange 48 57 c → is_ascii_digit c ≡ true
digit_ascii c h = grind (arith, nat_tests)

digits_ascii : (ds : List ℕ) → AllDigits 10 ds → list_all is_ascii_digit ds ≡ true
digits_ascii [] h = refl
digits_ascii (d ∷ ds) h = ap₂ (λ a b. a && b) (digit_ascii d (digit_from_value d h.0)) (digits_ascii ds h.1)

some_digit : (ds : List ℕ) → 0 < length ds → is_nonempty ds ≡ true
some_digit [] l = absurd (omega arith)
some_digit (d ∷ ds) l = refl

pub written : (n : ℕ) → n < 2 ^ 64 → IsNumeralOf (decimal n) n
written n l =
    let h = decimal_is_IsNumeral n l in
    record { numeral = ap₂ (λ a b. a && b) (some_digit (decimal n) h.0.0) (digits_ascii (decimal n) h.0.1); value = h.1 }

split : (a b : Bool) → (a && b) ≡ true → (a ≡ true) × (b ≡ true)
split true b e = (refl, e)
split false b e = absurd (cc)

digit_not_10 : (d : ℕ) → is_ascii_digit d ≡ true → not (d == 10) ≡ true
digit_not_10 d e = grind (arith, nat_tests)

digit_not_44 : (d : ℕ) → is_ascii_digit d ≡ true → not (d == 44) ≡ true
digit_not_44 d e = grind (arith, nat_tests)

digits_lack : (s : ℕ) → ((d : ℕ) → is_ascii_digit d ≡ true → not (d == s) ≡ true) → (ds : List ℕ) → list_all is_ascii_digit ds ≡ true → lacks s ds ≡ true
digits_lack s f [] e = refl
digits_lack s f (d ∷ ds) e =
    let p = split (is_ascii_digit d) (list_all is_ascii_digit ds) e in
    ap₂ (λ a b. a && b) (f d p.0) (digits_lack s f ds p.1)

number_lacks_10 : (n : ℕ) → n < 2 ^ 64 → lacks 10 (decimal n) ≡ true
number_lacks_10 n l = digits_lack 10 digit_not_10 (decimal n) (digits_ascii (decimal n) (decimal_is_IsNumeral n l).0.1)

number_lacks_44 : (n : ℕ) → n < 2 ^ 64 → lacks 44 (decimal n) ≡ true
number_lacks_44 n l = digits_lack 44 digit_not_44 (decimal n) (digits_ascii (decimal n) (decimal_is_IsNumeral n l).0.1)

-- ---- words

digit_not_blank : (d : ℕ) → is_ascii_digit d ≡ true → not (is_blank d) ≡ true
digit_not_blank d e = grind (arith, nat_tests)

digit_not_sign : (d : ℕ) → is_ascii_digit d ≡ true → not (is_sign d) ≡ true
digit_not_sign d e = grind (arith, nat_tests)

digit_goes : (d : ℕ) (bs : List ℕ) → is_ascii_digit d ≡ true → goes_on (d ∷ bs) ≡ true
digit_goes d bs e = ap₂ (λ a b. a && b) (digit_not_blank d e) (digit_not_sign d e)

words_number : (ds rest : List ℕ) → is_nonempty ds ≡ true → list_all is_ascii_digit ds ≡ true → goes_on rest ≡ false → words (ds ++ rest) ≡ ds ∷ words rest
words_number [] rest n a g = absurd (cc)
words_number (d ∷ []) rest n a g = in_front d rest false (words rest) (digit_goes d rest (split (is_ascii_digit d) true a).0) g refl
words_number (d ∷ e ∷ es) rest n a g =
    let p = split (is_ascii_digit d) (list_all is_ascii_digit (e ∷ es)) a in
    in_front d ((e ∷ es) ++ rest) true ((e ∷ es) ∷ words rest) (digit_goes d ((e ∷ es) ++ rest) p.0)
    (digit_goes e (es ++ rest) (split (is_ascii_digit e) (list_all is_ascii_digit es) p.1).0) (words_number (e ∷ es) rest refl p.1 g)

words_decimal : (n : ℕ) (rest : List ℕ) → n < 2 ^ 64 → goes_on rest ≡ false → words (decimal n ++ rest) ≡ decimal n ∷ words rest
words_decimal n rest l g =
    let h = decimal_is_IsNumeral n l in
    words_number (decimal n) rest (some_digit (decimal n) h.0.0) (digits_ascii (decimal n) h.0.1) g

front_words : (n : ℕ) → n < 2 ^ 64 → words (40 ∷ decimal n) ≡ codes "(" ∷ decimal n ∷ []
front_words n l = ap (λ ws. codes "(" ∷ ws) (ap words (sym (append-nil (decimal n))) ∙ words_decimal n [] l refl)

back_words : (n : ℕ) → n < 2 ^ 64 → words (decimal n ++ 41 ∷ []) ≡ decimal n ∷ codes ")" ∷ []
back_words n l = words_decimal n (41 ∷ []) l refl

header_words : (a b c : ℕ) → a < 2 ^ 64 → b < 2 ^ 64 → c < 2 ^ 64 →
    words (header_text a b c) ≡ codes "des" ∷ codes "(" ∷ decimal a ∷ codes "," ∷ decimal b ∷ codes "," ∷ decimal c ∷ codes ")" ∷ []
header_words a b c k l m =
    ap (λ ws. codes "des" ∷ codes "(" ∷ ws) (words_decimal a (44 ∷ (decimal b ++ 44 ∷ (decimal c ++ 41 ∷ []))) k refl
    ∙ ap (λ ws. decimal a ∷ codes "," ∷ ws) (words_decimal b (44 ∷ (decimal c ++ 41 ∷ [])) l refl
    ∙ ap (λ ws. decimal b ∷ codes "," ∷ ws) (words_decimal c (41 ∷ []) m refl)))

-- ---- lines

split_line : (line rest : List ℕ) → lacks 10 line ≡ true → slice_split (λ b. b == 10) (line ++ 10 ∷ rest) ≡ line ∷ slice_split (λ b. b == 10) rest
split_line [] rest e = refl
split_line (b ∷ bs) rest e =
    let p = split (not (b == 10)) (lacks 10 bs) e in
    ap (λ t. cond t ([] ∷ slice_split (λ x. x == 10) (bs ++ 10 ∷ rest)) (onto_first b (slice_split (λ x. x == 10) (bs ++ 10 ∷ rest)))) (not_true (b == 10) p.0)
    ∙ ap (onto_first b) (split_line bs rest p.1)

last_of : (xs ys : List ℕ) → 0 < length ys → slice_index (xs ++ ys) (length (xs ++ ys) - 1) ≡ slice_index ys (length ys - 1)
last_of xs ys l =
    let n = length-append xs ys in
    let k : length (xs ++ ys) - 1 ≡ length xs + (length ys - 1) = omega (arith, n, l) in
    ap (slice_index (xs ++ ys)) k ∙ get_or-append-add xs ys (length ys - 1) 0

strip_stays : (line : List ℕ) → slice_index line (length line - 1) ≡ 41 → strip_carriage_return line ≡ line
strip_stays line e = ap (λ b. cond (b == 13) (take (length line - 1) line) line) e

line_first : (line rest : List ℕ) → lacks 10 line ≡ true → slice_index line (length line - 1) ≡ 41 → lines (line ++ 10 ∷ rest) ≡ line ∷ lines rest
line_first line rest e s =
    let p = some_part rest in
    ap lines_of_parts (split_line line rest e ∙ ap (λ ps. line ∷ ps) p.2)
    ∙ (ap (λ l. l ∷ lines_of_parts (p.0 ∷ p.1)) (strip_stays line s) ∙ ap (λ ps. line ∷ lines_of_parts ps) (sym p.2))

-- ---- names

front_shorter : (xs : List ℕ) → length (without_front xs) ≤ length xs
front_shorter [] = omega arith
front_shorter (b ∷ bs) = go (is_blank b) (front_shorter bs)
  where
    go : (t : Bool) → length (without_front bs) ≤ length bs → length (cond t (without_front bs) (b ∷ bs)) ≤ suc (length bs)
    go true l = omega (arith, l)
    go false l = omega arith

unless_shorter : (b : ℕ) (ys : List ℕ) → length (Rattle.vpg_system.specs.SystemText.unless_last b ys) ≤ suc (length ys)
unless_shorter b [] = go (is_blank b)
  where
    go : (t : Bool) → length (cond t [] (b ∷ [])) ≤ 1
    go true = omega arith
    go false = omega arith
unless_shorter b (y ∷ ys) = omega arith

end_shorter : (xs : List ℕ) → length (without_end xs) ≤ length xs
end_shorter [] = omega arith
end_shorter (b ∷ bs) = let l = end_shorter bs in let k = unless_shorter b (without_end bs) in omega (arith, l, k)

first_not_blank : (b : ℕ) (bs : List ℕ) → trimmed (b ∷ bs) ≡ b ∷ bs → is_blank b ≡ false
first_not_blank b bs e = go (is_blank b) refl
  where
    go : (t : Bool) → is_blank b ≡ t → t ≡ false
    go false k = refl
    go true k =
        let w : trimmed (b ∷ bs) ≡ without_end (without_front bs) = ap (λ t. without_end (cond t (without_front bs) (b ∷ bs))) k in
        let l : length (without_end (without_front bs)) ≡ suc (length bs) = ap length (sym w ∙ e) in
        let m = end_shorter (without_front bs) in
        let n = front_shorter bs in
        absurd (omega (arith, l, m, n))

name_end : (b : ℕ) (bs : List ℕ) → trimmed (b ∷ bs) ≡ b ∷ bs → without_end (b ∷ bs) ≡ b ∷ bs
name_end b bs e = ap without_end (sym (stays b bs (first_not_blank b bs e))) ∙ e

bracket_label : (name g : List ℕ) → ((name ++ 32 ∷ []) ++ 91 ∷ g) ++ 93 ∷ [] ≡ name ++ bracketed g
bracket_label name g = append_assoc (name ++ 32 ∷ []) (91 ∷ g) (93 ∷ []) ∙ append_assoc name (32 ∷ []) (91 ∷ (g ++ 93 ∷ []))

trimmed_guarded : (name g : List ℕ) → IsActionName name → trimmed (((name ++ 32 ∷ []) ++ 91 ∷ g) ++ 93 ∷ []) ≡ ((name ++ 32 ∷ []) ++ 91 ∷ g) ++ 93 ∷ []
trimmed_guarded [] g n = (let s = n.some in absurd (cc))
trimmed_guarded (b ∷ bs) g n =
    ap without_end (stays b (((bs ++ 32 ∷ []) ++ 91 ∷ g) ++ 93 ∷ []) (first_not_blank b bs n.trim))
    ∙ end_kept (((b ∷ bs) ++ 32 ∷ []) ++ 91 ∷ g) 93 refl

trimmed_name : (name : List ℕ) → IsActionName name → trimmed (name ++ 32 ∷ []) ≡ name
trimmed_name [] n = (let s = n.some in absurd (cc))
trimmed_name (b ∷ bs) n =
    ap without_end (stays b (bs ++ 32 ∷ []) (first_not_blank b bs n.trim)) ∙ (end_dropped (b ∷ bs) 32 refl ∙ name_end b bs n.trim)

-- ---- labels

record IsLabel (features : List (List ℕ)) (label name : List ℕ) (g : Formula) : Type 0 where
  text : Option (List ℕ)
  label_is : HasName label name text
  guard_is : SpellsGuard features text g

module _ (features : List (List ℕ)) (are : AreNames features) (name : List ℕ) (n : IsActionName name) where
  guarded : (g : Formula) → IsReadable (length features) g → IsLabel features (name ++ bracketed (guard_text features g)) name g
  guarded g r = record {
    text = Some (guard_text features g);
    label_is = record {
      front = name ++ 32 ∷ [];
      label_is = ap trimmed (sym (bracket_label name (guard_text features g))) ∙ trimmed_guarded name (guard_text features g) n;
      last = guard_lacks 91 bracket_other features are.each g;
      name_is = trimmed_name name n;
      some = n.some;
    };
    guard_is = writing_spells features g r;
  }

  alone : is_closed name ≡ false → IsLabel features (name ++ []) name always
  alone c = record {
    text = None;
    label_is = record { name_is = ap trimmed (append-nil name) ∙ n.trim; some = n.some; not_closed = c };
    guard_is = refl;
  }

  labelled : (g : Formula) → IsReadable (length features) g → IsLabel features (name ++ guard_part features name g) name g
  labelled always r = go (is_closed name) refl
    where
      go : (t : Bool) → is_closed name ≡ t → IsLabel features (name ++ cond t (bracketed (guard_text features always)) []) name always
      go true c = guarded always r
      go false c = alone c
  labelled never r = guarded never r
  labelled (feature f) r = guarded (feature f) r
  labelled (negation g) r = guarded (negation g) r
  labelled (all gs) r = guarded (all gs) r
  labelled (any gs) r = guarded (any gs) r

  bracketed_lacks : (g : Formula) → lacks 10 (bracketed (guard_text features g)) ≡ true
  bracketed_lacks g =
      lacks_joined 10 (32 ∷ 91 ∷ []) (guard_text features g ++ 93 ∷ []) refl
      (lacks_joined 10 (guard_text features g) (93 ∷ []) (guard_lacks 10 feed_other features are.each g) refl)

  part_lacks : (g : Formula) → lacks 10 (guard_part features name g) ≡ true
  part_lacks always = go (is_closed name)
    where
      go : (t : Bool) → lacks 10 (cond t (bracketed (guard_text features always)) []) ≡ true
      go true = bracketed_lacks always
      go false = refl
  part_lacks never = bracketed_lacks never
  part_lacks (feature f) = bracketed_lacks (feature f)
  part_lacks (negation g) = bracketed_lacks (negation g)
  part_lacks (all gs) = bracketed_lacks (all gs)
  part_lacks (any gs) = bracketed_lacks (any gs)

-- ---- transitions

module _ (features : List (List ℕ)) (are : AreNames features) (states : ℕ) (few : states ≤ 65536) (names : List (List ℕ)) (each : All IsActionName names) where
  name_at : (t : Transition) → IsTransition (length features) states (length names) t → IsActionName (slice_index_or names t.action [])
  name_at t i = All-get_or IsActionName names t.action [] i.action_below each

  quoted_stays : (label : List ℕ) → trimmed (quoted label) ≡ quoted label
  quoted_stays label = end_kept (34 ∷ label) 34 refl

  spelled : (t : Transition) → IsTransition (length features) states (length names) t → SpellsTransition features (transition_text features names t) (slice_index_or names t.action []) t
  spelled t i =
      let l = labelled features are (slice_index_or names t.action []) (name_at t i) t.guard i.guard_is in
      let s = i.source_below in
      let b = i.target_below in
      let m : t.source < 2 ^ 64 = omega (arith, few, s) in
      let k : t.target < 2 ^ 64 = omega (arith, few, b) in
      record {
        label = label_text features names t;
        text = l.text;
        form_is = record {
          front = 40 ∷ decimal t.source;
          middle = quoted (label_text features names t);
          back = decimal t.target ++ 41 ∷ [];
          source = decimal t.source;
          target = decimal t.target;
          line_is = refl;
          first = number_lacks_44 t.source m;
          last = lacks_joined 44 (decimal t.target) (41 ∷ []) (number_lacks_44 t.target k) refl;
          front_is = front_words t.source m;
          back_is = back_words t.target k;
          source_is = written t.source m;
          label_is = inr (quoted_stays (label_text features names t));
          target_is = written t.target k;
        };
        label_is = l.label_is;
        guard_is = l.guard_is;
      }

  text_lacks : (t : Transition) → IsTransition (length features) states (length names) t → lacks 10 (transition_text features names t) ≡ true
  text_lacks t i =
      let s = i.source_below in
      let b = i.target_below in
      let name = slice_index_or names t.action [] in
      let label = label_text features names t in
      let back = decimal t.target ++ 41 ∷ [] in
      lacks_joined 10 (decimal t.source) (44 ∷ (quoted label ++ 44 ∷ back)) (number_lacks_10 t.source (omega (arith, few, s)))
      (lacks_joined 10 (44 ∷ quoted label) (44 ∷ back)
      (lacks_joined 10 (44 ∷ 34 ∷ label) (34 ∷ [])
      (lacks_joined 10 (44 ∷ 34 ∷ name) (guard_part features name t.guard) (name_at t i).one_line (part_lacks features are name (name_at t i) t.guard)) refl)
      (lacks_joined 10 (44 ∷ decimal t.target) (41 ∷ []) (number_lacks_10 t.target (omega (arith, few, b))) refl))

  text_ends : (t : Transition) → slice_index (transition_text features names t) (length (transition_text features names t) - 1) ≡ 41
  text_ends t =
      let label = quoted (label_text features names t) in
      let back = decimal t.target ++ 41 ∷ [] in
      last_of (40 ∷ decimal t.source) (44 ∷ (label ++ 44 ∷ back)) (omega arith)
      ∙ (last_of (44 ∷ label) (44 ∷ back) (omega arith) ∙ last_of (44 ∷ decimal t.target) (41 ∷ []) (omega arith))

  abbrev texts_of : List Transition → List (List ℕ)
  texts_of [] = []
  texts_of (t ∷ ts) = transition_text features names t ∷ texts_of ts

  all_tail : (P : Transition → Type 0) (t : Transition) (ts : List Transition) → All P (t ∷ ts) → P t × All P ts
  all_tail P t ts a = (
    All-get_or P (t ∷ ts) 0 t (omega arith) a,
    All-from_get_or P ts t (λ i l. All-get_or P (t ∷ ts) (suc i) t (omega (arith, l)) a),
  )

  lines_written : (ts : List Transition) → All (IsTransition (length features) states (length names)) ts → kept (lines (transitions_text features names ts)) ≡ texts_of ts
  lines_written [] a = refl
  lines_written (t ∷ ts) a =
      let p = all_tail (IsTransition (length features) states (length names)) t ts a in
      ap kept (line_first (transition_text features names t) (transitions_text features names ts) (text_lacks t p.0) (text_ends t))
      ∙ (kept_here (transition_text features names t) (lines (transitions_text features names ts)) refl
      ∙ ap (λ ls. transition_text features names t ∷ ls) (lines_written ts p.1))

  -- ---- the numbers of actions

  distinct_at : (ns : List (List ℕ)) (i j : ℕ) → AreDistinct ns → i < j → j < length ns → get_or ns i [] ≡ get_or ns j [] → ⊥
  distinct_at [] i j d l m e = omega (arith, l, m)
  distinct_at (n ∷ ns) i zero d l m e = omega (arith, l)
  distinct_at (n ∷ ns) zero (suc j) d l m e = d.0 j (name_held ns j (omega (arith, m)) ∙ ap (λ x. Some x) (sym e))
  distinct_at (n ∷ ns) (suc i) (suc j) d l m e = distinct_at ns i j d.1 (omega (arith, l)) (omega (arith, m)) e

  module _ (distinct : AreDistinct names) where
    place_is : (seen more : List (List ℕ)) (a : ℕ) → names ≡ seen ++ more → a ≤ length seen → a < length names → place_with seen (get_or names a []) ≡ a
    place_is seen more a s l m =
        position_or_len_is (bytes_eq (get_or names a [])) seen a [] l
        (λ k j. other_bytes (get_or names a []) (get_or seen k []) (λ e.
        distinct_at names k a distinct j m (ap (λ ns. get_or ns k []) s ∙ (get_or_append_left seen more [] k (omega (arith, l, j)) ∙ sym e))))
        (λ j. same_bytes (get_or names a []) (get_or seen a []) (ap (λ ns. get_or ns a []) s ∙ get_or_append_left seen more [] a j))

    abbrev WalkFrom : List (List ℕ) → List Transition → Type 0
    WalkFrom seen ts = AreTransitions features states seen (texts_of ts) ts names

    ended : (seen more : List (List ℕ)) → names ≡ seen ++ more → length seen ≡ length names → seen ≡ names
    ended seen [] s l = sym (s ∙ append-nil seen)
    ended seen (m ∷ ms) s l = absurd (let k = ap length s in let n = length-append seen (m ∷ ms) in omega (arith, k, n, l))

    step : (seen more : List (List ℕ)) (t : Transition) (ts : List Transition) → names ≡ seen ++ more → t.action ≤ length seen → t.action < length names →
        ((seen2 more2 : List (List ℕ)) → names ≡ seen2 ++ more2 → length seen2 ≡ max (length seen) (t.action + 1) → WalkFrom seen2 ts) →
        WalkFrom (with_name seen (get_or names t.action [])) ts
    step seen more t ts s l m ih = go (list_any (bytes_eq name) seen) refl
      where
        name : List ℕ
        name = get_or names t.action []

        place : position_or_len (bytes_eq name) seen ≡ t.action
        place = place_is seen more t.action s l m

        next : (more : List (List ℕ)) → names ≡ seen ++ more → t.action ≡ length seen → (ms : List (List ℕ)) × (names ≡ (seen ++ name ∷ []) ++ ms)
        next [] s a = absurd (let k = ap length s in let n = length-append seen [] in omega (arith, k, n, a, m))
        next (x ∷ xs) s a =
            let q : name ≡ x =
            ap (λ ns. get_or ns t.action []) s ∙ (ap (λ i. get_or (seen ++ x ∷ xs) i []) (omega (arith, a)) ∙ get_or-append-add seen (x ∷ xs) 0 []) in
            (xs, s ∙ (ap (λ y. seen ++ y ∷ xs) (sym q) ∙ sym (append_assoc seen (name ∷ []) xs)))

        go : (b : Bool) → list_any (bytes_eq name) seen ≡ b → WalkFrom (cond b seen (seen ++ name ∷ [])) ts
        go true e = let k = place_among (bytes_eq name) seen e in let p = place in ih seen more s (omega (arith, k, p))
        go false e =
            let k = place_behind (bytes_eq name) seen e in
            let p = place in
            let a : t.action ≡ length seen = omega (arith, k, p) in
            let r = next more s a in
            let n = length-append seen (name ∷ []) in
            ih (seen ++ name ∷ []) r.0 r.1 (omega (arith, n, a))

    walked : (seen more : List (List ℕ)) (ts : List Transition) → names ≡ seen ++ more → All (IsTransition (length features) states (length names)) ts → AreInOrder (length seen) ts (length names) → WalkFrom seen ts
    walked seen more [] s a o = ended seen more s o
    walked seen more (t ∷ ts) s a o =
        let p = all_tail (IsTransition (length features) states (length names)) t ts a in
        let i = p.0 in (
          slice_index_or names t.action [],
          spelled t i,
          i.source_below,
          i.target_below,
          sym (place_is seen more t.action s o.0 i.action_below),
          step seen more t ts s o.0 i.action_below
              (λ seen2 more2 s2 l. walked seen2 more2 ts s2 p.1 (subst (λ (n : ℕ). AreInOrder n ts (length names)) (sym l) o.1)),
        )

-- ---- the whole

header_lacks : (a b c : ℕ) → a < 2 ^ 64 → b < 2 ^ 64 → c < 2 ^ 64 → lacks 10 (header_text a b c) ≡ true
header_lacks a b c k l m =
    lacks_joined 10 (codes "des (") (decimal a ++ 44 ∷ (decimal b ++ 44 ∷ (decimal c ++ 41 ∷ []))) refl
    (lacks_joined 10 (decimal a) (44 ∷ (decimal b ++ 44 ∷ (decimal c ++ 41 ∷ []))) (number_lacks_10 a k)
    (lacks_joined 10 (44 ∷ decimal b) (44 ∷ (decimal c ++ 41 ∷ [])) (number_lacks_10 b l)
    (lacks_joined 10 (44 ∷ decimal c) (41 ∷ []) (number_lacks_10 c m) refl)))

header_ends : (a b c : ℕ) → slice_index (header_text a b c) (length (header_text a b c) - 1) ≡ 41
header_ends a b c =
    last_of (codes "des (" ++ decimal a) (44 ∷ (decimal b ++ 44 ∷ (decimal c ++ 41 ∷ []))) (omega arith)
    ∙ (last_of (44 ∷ decimal b) (44 ∷ (decimal c ++ 41 ∷ [])) (omega arith) ∙ last_of (44 ∷ decimal c) (41 ∷ []) (omega arith))

pub system_again : (features : List (List ℕ)) (s : NamedSystem) → AreNames features → length features ≡ s.features → IsSystem s → IsTextOf features (system_text features s) s
system_again features s are n i =
    let few = i.few_states in
    let count = i.few_transitions in
    let below = i.first_below in
    let k : s.first < 2 ^ 64 = omega (arith, few, below) in
    let l : length s.transitions < 2 ^ 64 = omega (arith, count) in
    let m : s.states < 2 ^ 64 = omega (arith, few) in
    let head = header_text s.first (length s.transitions) s.states in
    let a = subst (λ (f : ℕ). All (IsTransition f s.states (length s.actions)) s.transitions) (sym n) i.transitions_are in
    record {
      features_are = sym n;
      header = head;
      others = texts_of features are s.states few s.actions i.names_are s.transitions;
      lines_are = ap kept (line_first head (transitions_text features s.actions s.transitions) (header_lacks s.first (length s.transitions) s.states k l m)
          (header_ends s.first (length s.transitions) s.states))
          ∙ (kept_here head (lines (transitions_text features s.actions s.transitions)) refl
          ∙ ap (λ ls. head ∷ ls) (lines_written features are s.states few s.actions i.names_are s.transitions a));
      header_is = record {
        first = decimal s.first;
        count = decimal (length s.transitions);
        states = decimal s.states;
        words_are = header_words s.first (length s.transitions) s.states k l m;
        first_is = written s.first k;
        count_is = written (length s.transitions) l;
        states_are = written s.states m;
      };
      within = record { few_states = few; few_transitions = count };
      first_below = below;
      others_are = walked features are s.states few s.actions i.names_are i.distinct [] s.actions s.transitions refl a i.in_order;
    }
