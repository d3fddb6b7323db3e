-- The names that the code finds in a formula.
use Rattle.std.proofs.Common.{◌≡◌, ℕ, zero, suc, ◌+◌, ◌<◌, ◌≤◌, ◌⊎◌, inl, inr, Bool, true, false, cond, List, [], ◌∷◌, ◌++◌, map, take, drop, length, get_or, reverse, Option, Some, None, Ok, Err, refl, sym, ap, subst, ◌∙◌, arith}
use Rattle.std.specs.Prelude.{codes, bytes_eq, nat_le, slice_get, option_map, not, ◌||◌}
use Rattle.std.specs.List.{list_any}
use Rattle.std.proofs.lemmas.Bool.{cases_Bool, leb-true, le-leb}
use Rattle.std.specs.Borrow.{Bor}
use Rattle.std.proofs.lemmas.List.{length-append, reverse-append}
use Rattle.std.proofs.lemmas.List.Folds.{list_any-append}
use Rattle.vpg_formula.specs.Written.{closing, Head, leaf, deadlock, of_action, parenthesis, in_front, modality, again, after_action, binder, other, head_of, Phrase}
use Rattle.vpg_formula.specs.FormulaGrammar.{a_formula, IsFormula}
use Rattle.vpg_formula.specs.Standings.{nothing_around, uses, is_like}
use Rattle.vpg_formula.specs.Marks.{phrase_marks}
use Rattle.vpg_formula.specs.Reading.{phrase_at}
use Rattle.vpg_formula.specs.EntryReading.{standings_of, first_like}
use Rattle.vpg_formula.specs.ReadCode.{texts}
use Rattle.vpg_formula.specs.Naming.{Region, in_formula, at_variable, in_path, at_action, in_action, region_behind_head, region_behind, closed_in, Spot, at_first, known_at, behind, binds, is_bound, Mention, mention, mentions_from, mentions, first_unknown}
use Rattle.vpg_formula.specs.NamingCode.{region_of, depth_of, open_of, opens, left_mentions, left_in, IsFound, NamesAt}
use Rattle.vpg_formula.specs.Faults.{IsNegatedIn}
use Rattle.vpg_formula.specs.FaultCode.{IsLeft, BodyAt, NegatedIn}
use Rattle.vpg_formula.specs.declared.mark.Mark.{Mark}
use Rattle.vpg_formula.specs.declared.mentions.Region as code_region
use Rattle.vpg_formula.specs.declared.mentions.Region.TheVariants as regions
use Rattle.vpg_formula.specs.declared.mentions.Open as code_open
use Rattle.vpg_formula.specs.declared.stop.Halt.{Halt}
use Rattle.vpg_formula.specs.declared.stop.Halt.TheVariants as halts
use Rattle.vpg_formula.specs.declared.uses.Standing.{Standing}
use Rattle.vpg_formula.specs.declared.uses.Standing.TheVariants.{Known, Unknown, Negated}
use Rattle.vpg_formula.proofs.Series.{some, some_is}
use Rattle.vpg_formula.proofs.Phrases.{phrase_found}
use Rattle.vpg_formula.proofs.Standings.{standings_are}
use Rattle.vpg_formula.proofs.Naming.{flag, flags, told_uses, is_told, phrase_walks}

abbrev Words : Type 0
Words = List (List ℕ)

-- ---- words that are left, and words in front

le_no : (a b : ℕ) → b < a → nat_le a b ≡ false
le_no a b l = go (cases_Bool (nat_le a b))
  where
    go : (nat_le a b ≡ true) ⊎ (nat_le a b ≡ false) → nat_le a b ≡ false
    go (inr f) = f
    go (inl t) = let le : a ≤ b = leb-true a b t in absurd (omega (arith, l, le))

le_yes : (a b : ℕ) → a ≤ b → nat_le a b ≡ true
le_yes a b l = le-leb a b l

-- the first name that is not known, behind so many words
record FirstIs (earlier : Words) (s : Spot) (k : ℕ) (ws : Words) (left : ℕ) : Type 0 where
  front : ℕ
  is : first_unknown (mentions_from earlier s k ws) ≡ Some (k + front)
  sum : front + left ≡ length ws

-- a word in front of them
one_front : (earlier : Words) (s : Spot) (k : ℕ) (w : List ℕ) (ws : Words) (left : ℕ) (h : FirstIs earlier (behind s w) (suc k) ws left) → first_unknown (mentions_from earlier s k (w ∷ ws)) ≡ first_unknown (mentions_from earlier (behind s w) (suc k) ws) → FirstIs earlier s k (w ∷ ws) left
one_front earlier s k w ws left h e = record {
  front = suc h.front;
  is = e ∙ h.is ∙ ap (λ (n : ℕ). Some n) (omega arith);
  sum = omega (arith, h.sum);
}

left_first : (earlier : Words) (s : Spot) (end k : ℕ) (ws : Words) (left : ℕ) → first_unknown (left_mentions earlier s end ws) ≡ Some left → FirstIs earlier s k ws left
left_first earlier s end k [] left e = absurd cc
left_first earlier s end k (w ∷ ws) left e = cut (nat_le (suc (length ws)) end) e (λ f. left_first earlier (behind s w) end (suc k) ws left f)
  where
    go : (o : Option Bool) → known_at earlier s w ≡ o → first_unknown (mention o (suc (length ws)) (left_mentions earlier (behind s w) end ws)) ≡ Some left
        → (first_unknown (left_mentions earlier (behind s w) end ws) ≡ Some left → FirstIs earlier (behind s w) (suc k) ws left) → FirstIs earlier s k (w ∷ ws) left
    go None n e later = one_front earlier s k w ws left (later e) (ap (λ (o : Option Bool). first_unknown (mention o k (mentions_from earlier (behind s w) (suc k) ws))) n)
    go (Some true) n e later = one_front earlier s k w ws left (later e) (ap (λ (o : Option Bool). first_unknown (mention o k (mentions_from earlier (behind s w) (suc k) ws))) n)
    go (Some false) n e later =
        let same : suc (length ws) ≡ left = some_is (suc (length ws)) left e in
        record {
          front = 0;
          is = ap (λ (o : Option Bool). first_unknown (mention o k (mentions_from earlier (behind s w) (suc k) ws))) n ∙ ap (λ (m : ℕ). Some m) (omega arith);
          sum = omega (arith, same);
        }

    cut : (t : Bool) → first_unknown (cond t [] (mention (known_at earlier s w) (suc (length ws)) (left_mentions earlier (behind s w) end ws))) ≡ Some left
        → (first_unknown (left_mentions earlier (behind s w) end ws) ≡ Some left → FirstIs earlier (behind s w) (suc k) ws left) → FirstIs earlier s k (w ∷ ws) left
    cut true e later = absurd cc
    cut false e later = go (known_at earlier s w) refl e later

-- the n-th name, likewise
record NthIs (earlier : Words) (s : Spot) (k : ℕ) (ws : Words) (n : ℕ) (left : ℕ) (known : Bool) : Type 0 where
  front : ℕ
  is : slice_get (mentions_from earlier s k ws) n ≡ Some (k + front, known)
  sum : front + left ≡ length ws

one_before : (earlier : Words) (s : Spot) (k : ℕ) (w : List ℕ) (ws : Words) (m n left : ℕ) (known : Bool) (h : NthIs earlier (behind s w) (suc k) ws m left known) → slice_get (mentions_from earlier s k (w ∷ ws)) n ≡ slice_get (mentions_from earlier (behind s w) (suc k) ws) m → NthIs earlier s k (w ∷ ws) n left known
one_before earlier s k w ws m n left known h e = record {
  front = suc h.front;
  is = e ∙ h.is ∙ ap (λ (i : ℕ). Some (i, known)) (omega arith);
  sum = omega (arith, h.sum);
}

left_nth : (earlier : Words) (s : Spot) (end k : ℕ) (ws : Words) (n left : ℕ) (known : Bool) → slice_get (left_mentions earlier s end ws) n ≡ Some (left, known) → NthIs earlier s k ws n left known
left_nth earlier s end k [] n left known e = absurd cc
left_nth earlier s end k (w ∷ ws) n left known e = cut (nat_le (suc (length ws)) end) e (λ m f. left_nth earlier (behind s w) end (suc k) ws m left known f)
  where
    at_name : (b : Bool) → known_at earlier s w ≡ Some b → (n : ℕ) → slice_get ((suc (length ws), b) ∷ left_mentions earlier (behind s w) end ws) n ≡ Some (left, known)
        → ((m : ℕ) → slice_get (left_mentions earlier (behind s w) end ws) m ≡ Some (left, known) → NthIs earlier (behind s w) (suc k) ws m left known) → NthIs earlier s k (w ∷ ws) n left known
    at_name b o zero e later =
        let same : (suc (length ws), b) ≡ (left, known) = some_is (suc (length ws), b) (left, known) e in
        let count : suc (length ws) ≡ left = ap (λ (p : ℕ × Bool). p.0) same in
        record {
          front = 0;
          is = ap (λ (o : Option Bool). slice_get (mention o k (mentions_from earlier (behind s w) (suc k) ws)) 0) o ∙ ap (λ (p : ℕ × Bool). Some (k, p.1)) same ∙ ap (λ (i : ℕ). Some (i, known)) (omega arith);
          sum = omega (arith, count);
        }
    at_name b o (suc n) e later = one_before earlier s k w ws n (suc n) left known (later n e) (ap (λ (o : Option Bool). slice_get (mention o k (mentions_from earlier (behind s w) (suc k) ws)) (suc n)) o)

    go : (o : Option Bool) → known_at earlier s w ≡ o → slice_get (mention o (suc (length ws)) (left_mentions earlier (behind s w) end ws)) n ≡ Some (left, known)
        → ((m : ℕ) → slice_get (left_mentions earlier (behind s w) end ws) m ≡ Some (left, known) → NthIs earlier (behind s w) (suc k) ws m left known) → NthIs earlier s k (w ∷ ws) n left known
    go None o e later = one_before earlier s k w ws n n left known (later n e) (ap (λ (o : Option Bool). slice_get (mention o k (mentions_from earlier (behind s w) (suc k) ws)) n) o)
    go (Some b) o e later = at_name b o n e later

    cut : (t : Bool) → slice_get (cond t [] (mention (known_at earlier s w) (suc (length ws)) (left_mentions earlier (behind s w) end ws))) n ≡ Some (left, known)
        → ((m : ℕ) → slice_get (left_mentions earlier (behind s w) end ws) m ≡ Some (left, known) → NthIs earlier (behind s w) (suc k) ws m left known) → NthIs earlier s k (w ∷ ws) n left known
    cut true e later = absurd cc
    cut false e later = go (known_at earlier s w) refl e later

-- ---- the names of a formula

abbrev pub known_of : Mention → Bool
known_of m = m.1

nothing_more : (earlier : Words) (s : Spot) (rest : Words) → left_mentions earlier s (length rest) rest ≡ []
nothing_more earlier s [] = refl
nothing_more earlier s (w ∷ ws) = ap (λ (t : Bool). cond t [] (mention (known_at earlier s w) (suc (length ws)) (left_mentions earlier (behind s w) (suc (length ws)) ws))) (le_yes (suc (length ws)) (suc (length ws)) (omega arith))

left_flags : (earlier : Words) (s : Spot) (us rest : Words) → map known_of (left_mentions earlier s (length rest) (us ++ rest)) ≡ flags earlier s us
left_flags earlier s [] rest = ap (map known_of) (nothing_more earlier s rest)
left_flags earlier s (u ∷ us) rest =
    ap (λ (t : Bool). map known_of (cond t [] (mention (known_at earlier s u) (suc (length (us ++ rest))) (left_mentions earlier (behind s u) (length rest) (us ++ rest))))) (le_no (suc (length (us ++ rest))) (length rest) (omega (arith, length-append us rest)))
    ∙ go (known_at earlier s u) (left_flags earlier (behind s u) us rest)
  where
    go : (o : Option Bool) → map known_of (left_mentions earlier (behind s u) (length rest) (us ++ rest)) ≡ flags earlier (behind s u) us
        → map known_of (mention o (suc (length (us ++ rest))) (left_mentions earlier (behind s u) (length rest) (us ++ rest))) ≡ flag o (flags earlier (behind s u) us)
    go None e = e
    go (Some b) e = ap (λ (t : List Bool). b ∷ t) e

-- what is told of the names is as they stand
pub formula_flags : (earlier us rest : Words) (p : Phrase) → IsFormula 64 us p → map known_of (left_mentions earlier at_first (length rest) (us ++ rest)) ≡ told_uses earlier nothing_around p.written
formula_flags earlier us rest p i = left_flags earlier at_first us rest ∙ (phrase_walks earlier a_formula 64 us p i [] nothing_around (λ x. refl)).passes.told

-- ---- lists of names

abbrev pub Told : List Mention → List Standing → Type 0
Told ms ss = map known_of ms ≡ map is_told ss

pub told_rest : (m : Mention) (ms : List Mention) (s : Standing) (ss : List Standing) → Told (m ∷ ms) (s ∷ ss) → (m.1 ≡ is_told s) × Told ms ss
told_rest m ms s ss e = (ap (λ (bs : List Bool). get_or bs 0 false) e, ap (λ (bs : List Bool). drop 1 bs) e)

record FirstLike (wanted : Standing) (ss : List Standing) (n : ℕ) : Type 0 where
  standing : Standing
  is : slice_get ss n ≡ Some standing
  like : is_like wanted standing ≡ true
  first : list_any (is_like wanted) (take n ss) ≡ false

first_like_is : (wanted : Standing) (ss : List Standing) (n : ℕ) → first_like wanted ss ≡ Some n → FirstLike wanted ss n
first_like_is wanted [] n e = absurd cc
first_like_is wanted (s ∷ ss) n e = go (is_like wanted s) refl e (first_like wanted ss) refl (λ m f. first_like_is wanted ss m f)
  where
    go : (t : Bool) → is_like wanted s ≡ t → cond t (Some 0) (option_map suc (first_like wanted ss)) ≡ Some n → (o : Option ℕ) → first_like wanted ss ≡ o → ((m : ℕ) → first_like wanted ss ≡ Some m → FirstLike wanted ss m) → FirstLike wanted (s ∷ ss) n
    go true t e o f later = let z : 0 ≡ n = some_is 0 n e in rw (sym z) (record { standing = s; is = refl; like = t; first = refl })
    go false t e None f later = let both : None ≡ some n = sym (ap (option_map suc) f) ∙ e in absurd cc
    go false t e (Some m) f later =
        let h = later m f in
        let z : suc m ≡ n = some_is (suc m) n (sym (ap (option_map suc) f) ∙ e) in
        rw (sym z) (record { standing = h.standing; is = h.is; like = h.like; first = ap (λ (u : Bool). u || list_any (is_like wanted) (take m ss)) t ∙ h.first })

-- the n-th name is there
told_nth : (ms : List Mention) (ss : List Standing) (n : ℕ) (s : Standing) → Told ms ss → slice_get ss n ≡ Some s → slice_get ms n ≡ Some (left_in ms n, is_told s)
told_nth [] [] n s e f = absurd cc
told_nth [] (x ∷ ss) n s e f = absurd cc
told_nth (m ∷ ms) [] n s e f = absurd cc
told_nth (m ∷ ms) (x ∷ ss) zero s e f =
    let h = told_rest m ms x ss e in
    ap (λ (b : Bool). Some (m.0, b)) (h.0 ∙ ap is_told (some_is x s f))
told_nth (m ∷ ms) (x ∷ ss) (suc n) s e f = told_nth ms ss n s (told_rest m ms x ss e).1 f

first_told : (ms : List Mention) (ss : List Standing) (n : ℕ) → Told ms ss → first_like Unknown ss ≡ Some n → first_unknown ms ≡ Some (left_in ms n)
first_told ms [] n e f = absurd cc
first_told [] (s ∷ ss) n e f = absurd cc
first_told ((k, known) ∷ ms) (s ∷ ss) n e f =
    let h = told_rest (k, known) ms s ss e in
    go (is_like Unknown s) known (h.0) f (first_like Unknown ss) refl (λ m g. first_told ms ss m h.1 g)
  where
    go : (t known : Bool) → known ≡ not t → cond t (Some 0) (option_map suc (first_like Unknown ss)) ≡ Some n → (o : Option ℕ) → first_like Unknown ss ≡ o → ((m : ℕ) → first_like Unknown ss ≡ Some m → first_unknown ms ≡ Some (left_in ms m)) → first_unknown ((k, known) ∷ ms) ≡ Some (left_in ((k, known) ∷ ms) n)
    go true true h f o g later = absurd cc
    go true false h f o g later = let z : 0 ≡ n = some_is 0 n f in ap (λ (i : ℕ). Some (left_in ((k, false) ∷ ms) i)) z
    go false false h f o g later = absurd cc
    go false true h f None g later = let both : None ≡ some n = sym (ap (option_map suc) g) ∙ f in absurd cc
    go false true h f (Some m) g later =
        let z : suc m ≡ n = some_is (suc m) n (sym (ap (option_map suc) g) ∙ f) in
        later m g ∙ ap (λ (i : ℕ). Some (left_in ((k, true) ∷ ms) i)) z

-- ---- faults of names

unknown_found : (earlier ws : Words) (left : ℕ) → FirstIs earlier at_first 0 ws left → IsLeft ws left (λ i. first_unknown (mentions earlier ws) ≡ Some i)
unknown_found earlier ws left h = record { words = h.front; sum = h.sum; is = h.is ∙ ap (λ (i : ℕ). Some i) (omega arith) }

-- the first of the names that are not known, up to some word
pub unknown_before : (earlier ws : Words) (end left : ℕ) → first_unknown (left_mentions earlier at_first end ws) ≡ Some left → IsLeft ws left (λ i. first_unknown (mentions earlier ws) ≡ Some i)
unknown_before earlier ws end left e = unknown_found earlier ws left (left_first earlier at_first end 0 ws left e)

module _ (earlier ws us rest : Words) (p : Phrase) (i : IsFormula 64 us p) (parts : ws ≡ us ++ rest) where
  abbrev names : List Mention
  names = left_mentions earlier at_first (length rest) ws

  told : Told names (uses earlier nothing_around p.written)
  told = ap (λ (t : Words). map known_of (left_mentions earlier at_first (length rest) t)) parts ∙ formula_flags earlier us rest p i

  pub unknown_in : (left : ℕ) → IsFound Unknown (uses earlier nothing_around p.written) (left_mentions earlier at_first (length rest) ws) left → IsLeft ws left (λ i. first_unknown (mentions earlier ws) ≡ Some i)
  unknown_in left f = unknown_before earlier ws (length rest) left (first_told names (uses earlier nothing_around p.written) f.index told f.first ∙ ap (λ (k : ℕ). Some k) (sym f.place))

  pub negated_in : (left : ℕ) → IsFound Negated (uses earlier nothing_around p.written) (left_mentions earlier at_first (length rest) ws) left → IsLeft ws left (IsNegatedIn earlier ws rest)
  negated_in left f =
      let ss = uses earlier nothing_around p.written in
      let l = first_like_is Negated ss f.index f.first in
      let here = told_nth names ss f.index l.standing told l.is in
      let n = left_nth earlier at_first (length rest) 0 ws f.index left (is_told l.standing) (here ∙ ap (λ (k : ℕ). Some (k, is_told l.standing)) (sym f.place)) in
      record {
        words = n.front;
        sum = n.sum;
        is = record {
          front = us;
          phrase = p;
          index = f.index;
          parts = parts;
          formula = i;
          stands = l.is ∙ ap (λ (s : Standing). Some s) (only l.standing l.like);
          first = l.first;
          name = n.is ∙ ap (λ (k : ℕ). Some (k, is_told l.standing)) (omega arith);
          known = is_told l.standing;
        };
      }
    where
      only : (s : Standing) → is_like Negated s ≡ true → s ≡ Negated
      only Negated e = refl
      only Known e = absurd cc
      only Unknown e = absurd cc

-- ---- what was read

pub texts_count : (ws : List (Bor (List ℕ))) → length (texts ws) ≡ length ws
texts_count [] = refl
texts_count (w ∷ ws) = ap suc (texts_count ws)

module _ (earlier ws : Words) (rest : List (Bor (List ℕ))) (p : Phrase) (ms : List Mark) (e : phrase_at a_formula 64 ws ≡ Some (p, texts rest)) (f : ms ≡ phrase_marks p) where
  moved : (wanted : Standing) (left : ℕ) → IsFound wanted (standings_of earlier ms) (left_mentions earlier at_first (length rest) ws) left
      → IsFound wanted (uses earlier nothing_around p.written) (left_mentions earlier at_first (length (texts rest)) ws) left
  moved wanted left h =
      subst (λ (ss : List Standing). IsFound wanted ss (left_mentions earlier at_first (length (texts rest)) ws) left) (ap (standings_of earlier) f ∙ standings_are earlier p.written)
      (subst (λ (k : ℕ). IsFound wanted (standings_of earlier ms) (left_mentions earlier at_first k ws) left) (sym (texts_count rest)) h)

  pub body_negated : (negated : Option ℕ) → NamesAt (Ok negated) (standings_of earlier ms) (left_mentions earlier at_first (length rest) ws) → NegatedIn earlier ws (texts rest) negated
  body_negated None h = tt
  body_negated (Some left) h =
      let i = phrase_found a_formula 64 ws (p, texts rest) e in
      negated_in earlier ws i.0 (texts rest) p i.1 i.2 left (moved Negated left h)

  pub body_unknown_at : (h : Halt) → NamesAt (Err h) (standings_of earlier ms) (left_mentions earlier at_first (length rest) ws) → (in_entry : Bool) → BodyAt in_entry earlier ws h
  body_unknown_at halts.Memory h in_entry = tt
  body_unknown_at (halts.Unknown left) h in_entry =
      let i = phrase_found a_formula 64 ws (p, texts rest) e in
      unknown_in earlier ws i.0 (texts rest) p i.1 i.2 left (moved Unknown left h)
  body_unknown_at (halts.Syntax left) h in_entry = absurd h
  body_unknown_at (halts.TooDeep left) h in_entry = absurd h
  body_unknown_at (halts.Twice left) h in_entry = absurd h
  body_unknown_at (halts.TooMany left) h in_entry = absurd h
  body_unknown_at (halts.Negated left) h in_entry = absurd h

-- ---- loops

-- what is open is bound in either order
reversed_any : {X : Type 0} (p : X → Bool) (xs : List X) → list_any p (reverse xs) ≡ list_any p xs
reversed_any p [] = refl
reversed_any p (x ∷ xs) = ap (list_any p) (reverse-append (x ∷ []) xs) ∙ list_any-append p (reverse xs) (x ∷ []) ∙ turned (list_any p (reverse xs)) (p x) ∙ ap (λ (t : Bool). p x || t) (reversed_any p xs)
  where
    turned : (a b : Bool) → (a || (b || false)) ≡ (b || a)
    turned true true = refl
    turned true false = refl
    turned false true = refl
    turned false false = refl

pub bound_reversed : (os : List code_open.Open) (x : List ℕ) → is_bound (opens os) x ≡ is_bound (map open_of os) x
bound_reversed os x = reversed_any (binds x) (map open_of os)

-- ---- regions

-- how many parentheses of an action formula are open
abbrev depth_in : Region → ℕ
depth_in (in_action n) = n
depth_in in_formula = 0
depth_in at_variable = 0
depth_in (in_path m) = 0
depth_in at_action = 0

depth_alike : (r : code_region.Region) → depth_of r ≡ depth_in (region_of r)
depth_alike regions.Formula = refl
depth_alike regions.Binder = refl
depth_alike (regions.Path b) = refl
depth_alike regions.Action = refl
depth_alike (regions.Inside n) = refl

head_depth : (h : Head) → depth_in (region_behind_head h) ≡ 0
head_depth (leaf f) = refl
head_depth deadlock = refl
head_depth (of_action make) = refl
head_depth parenthesis = refl
head_depth (in_front prefix) = refl
head_depth (modality m) = refl
head_depth again = refl
head_depth after_action = refl
head_depth (binder kind) = refl
head_depth other = refl

depth_behind : (r : Region) (w : List ℕ) → depth_in (region_behind r w) ≤ depth_in r + 1
depth_behind in_formula w = let none = head_depth (head_of w) in omega (arith, none)
depth_behind at_variable w = omega arith
depth_behind (in_path m) w = go (bytes_eq w (closing m))
  where
    go : (t : Bool) → depth_in (cond t in_formula (in_path m)) ≤ 0 + 1
    go true = omega arith
    go false = omega arith
depth_behind at_action w = go (bytes_eq w (codes "!")) (bytes_eq w (codes "("))
  where
    go : (t u : Bool) → depth_in (cond t at_action (cond u (in_action 0) in_formula)) ≤ 0 + 1
    go true u = omega arith
    go false true = omega arith
    go false false = omega arith
depth_behind (in_action n) w = go (bytes_eq w (codes "(")) (bytes_eq w (codes ")")) n
  where
    go : (t u : Bool) (n : ℕ) → depth_in (cond t (in_action (suc n)) (cond u (closed_in n) (in_action n))) ≤ n + 1
    go true u n = omega arith
    go false true zero = omega arith
    go false true (suc n) = omega arith
    go false false n = omega arith

pub one_deeper : (r s : code_region.Region) (w : List ℕ) → region_of s ≡ region_behind (region_of r) w → depth_of s ≤ depth_of r + 1
one_deeper r s w e = omega (arith, depth_alike s, depth_alike r, ap depth_in e, depth_behind (region_of r) w)
