-- The parts of a text: numbers, brackets and names, found and read again.
use Rattle.std.proofs.Common.{◌≡◌, ℕ, suc, ◌+◌, ◌<◌, Bool, true, false, cond, List, [], ◌∷◌, ◌++◌, length, take, drop, Option, Some, None, refl, sym, ap, ap₂, subst, ◌∙◌, inl, inr, arith, ◌⊎◌}
use Rattle.std.specs.Prelude.{nat_lt, not, ◌==◌}
use Rattle.std.specs.List.{prefix_len, list_all}
use Rattle.std.specs.Char.{is_ascii_digit}
use Rattle.std.specs.Str.Parse.{digits_value}
use Rattle.std.proofs.lemmas.Bool.{lt-ltb, ltb-true, eqb-true, eq-eqb}
use Rattle.std.proofs.lemmas.Bool.Decides.{nat_tests}
use Rattle.std.proofs.lemmas.List.{take_at, drop_at}
use Rattle.vpg_guards.specs.Formula.{Formula, always}
use Rattle.vpg_features.specs.Names.{AreNames}
use Rattle.vpg_guards.specs.Grammar.{is_blank, AreBlank}
use Rattle.vpg_guards.specs.Reading.{◌>>=◌, after_blanks, after_byte, after_sign, guard_at}
use Rattle.vpg_features.proofs.Held.{both_true}
use Rattle.vpg_guards.proofs.Blanks.{bind_some, front_all, front_split, Stops, front_stops, after_blanks_is, sign_behind}
use Rattle.vpg_guards.proofs.Found.{guard_found}
use Rattle.vpg_guards.proofs.Again.{guard_again}
use Rattle.vpg_game.specs.Grammar.{Number, Bracket, Name, number_text, bracket_text, name_text, IsNumber, IsNumberBelow, number_value, IsBracket, IsName, AreOther, bracket_guard, IsApart}
use Rattle.vpg_game.specs.Reading.{choice, some_digits, digits_at, number_below, number_at, behind_first, len_before, closed_guard, bracket_at, after_name, starts_with_digit}
use Rattle.vpg_game.proofs.Steps.{bind_is}

pub some_is : {A : Type 0} (x y : A) → ◌≡◌ {A = Option A} (Some x) (Some y) → x ≡ y
some_is x y e = cc

pub choice_some : {A : Type 0} (o : Option (List ℕ)) (f : List ℕ → Option A) (r : Option A) (y : A) → choice o f r ≡ Some y
    → ((rest : List ℕ) × (o ≡ Some rest) × (f rest ≡ Some y)) ⊎ ((o ≡ None) × (r ≡ Some y))
choice_some None f r y e = inr (refl, e)
choice_some (Some rest) f r y e = inl (rest, refl, e)

-- ---- digits

pub digit_no_blank : (b : ℕ) → is_ascii_digit b ≡ true → is_blank b ≡ false
digit_no_blank b e = grind (arith, nat_tests)

-- what is behind the front doesn't pass the test
pub front_ends : (p : ℕ → Bool) (text : List ℕ) → Stops p (drop (prefix_len p text) text)
front_ends p [] = tt
front_ends p (b ∷ text) = go (p b) refl (front_ends p text)
  where
    go : (t : Bool) → p b ≡ t → Stops p (drop (prefix_len p text) text) → Stops p (drop (cond t (1 + prefix_len p text) 0) (b ∷ text))
    go true e rest = let one : 1 + prefix_len p text ≡ suc (prefix_len p text) = omega arith in rw one rest
    go false e rest = e

-- digits at the front
pub record DigitsFound (text ds rest : List ℕ) : Type 0 where
  pub some : 0 < length ds
  pub digits : list_all is_ascii_digit ds ≡ true
  pub parts : text ≡ ds ++ rest
  pub ends : Stops is_ascii_digit rest

pub digits_found : (text : List ℕ) (x : List ℕ × List ℕ) → digits_at text ≡ Some x → DigitsFound text x.0 x.1
digits_found text x e =
    go (take (prefix_len is_ascii_digit text) text) (drop (prefix_len is_ascii_digit text) text) (front_all is_ascii_digit text) (front_split is_ascii_digit text) (front_ends is_ascii_digit text) e
  where
    go : (ds rest : List ℕ) → list_all is_ascii_digit ds ≡ true → text ≡ ds ++ rest → Stops is_ascii_digit rest → some_digits ds rest ≡ Some x → DigitsFound text x.0 x.1
    go [] rest all split ends e = absurd cc
    go (d ∷ ds) rest all split ends e =
        subst (λ (y : List ℕ × List ℕ). DigitsFound text y.0 y.1) (some_is (d ∷ ds, rest) x e) (record { some = omega arith; digits = all; parts = split; ends = ends })

pub digits_again : (ds rest : List ℕ) → 0 < length ds → list_all is_ascii_digit ds ≡ true → Stops is_ascii_digit rest → digits_at (ds ++ rest) ≡ Some (ds, rest)
digits_again ds rest some all ends =
    rw (front_stops is_ascii_digit ds rest all ends, take_at ds rest (length ds) refl, drop_at ds rest (length ds) refl) (go ds some)
  where
    go : (ds : List ℕ) → 0 < length ds → some_digits ds rest ≡ Some (ds, rest)
    go [] some = absurd (omega arith)
    go (d ∷ ds) some = refl

-- ---- numbers

pub record NumberFound (limit : ℕ) (text : List ℕ) (v : ℕ) (rest : List ℕ) : Type 0 where
  pub tree : Number
  pub formed : IsNumberBelow limit tree
  pub parts : text ≡ number_text tree rest
  pub stands : number_value tree ≡ v
  pub ends : Stops is_ascii_digit rest

below_some : (limit : ℕ) (ds rest : List ℕ) (x : ℕ × List ℕ) → number_below limit ds rest ≡ Some x → (digits_value 10 ds < limit) × (digits_value 10 ds ≡ x.0) × (rest ≡ x.1)
below_some limit ds rest x e = go (nat_lt (digits_value 10 ds) limit) refl e
  where
    go : (b : Bool) → nat_lt (digits_value 10 ds) limit ≡ b → cond b (Some (digits_value 10 ds, rest)) None ≡ Some x → (digits_value 10 ds < limit) × (digits_value 10 ds ≡ x.0) × (rest ≡ x.1)
    go true t e = let same : (digits_value 10 ds, rest) ≡ x = some_is (digits_value 10 ds, rest) x e in (ltb-true _ _ t, ap (λ (y : ℕ × List ℕ). y.0) same, ap (λ (y : ℕ × List ℕ). y.1) same)
    go false t e = absurd cc

pub number_found : (limit : ℕ) (text : List ℕ) (x : ℕ × List ℕ) → number_at limit text ≡ Some x → NumberFound limit text x.0 x.1
unfolding number_at
number_found limit text x e =
    let h = bind_some (digits_at (after_blanks text)) (λ y. number_below limit y.0 y.1) x e in
    let d = digits_found (after_blanks text) h.0 h.1 in
    let b = below_some limit h.0.0 h.0.1 x h.2 in
    let blanks : List ℕ = take (prefix_len is_blank text) text in
    record {
      tree = record { before = blanks; digits = h.0.0 };
      formed = (record { blank = front_all is_blank text; some = d.some; digits = d.digits }, b.0);
      parts = front_split is_blank text ∙ ap (λ (t : List ℕ). blanks ++ t) (d.parts ∙ ap (λ (t : List ℕ). h.0.0 ++ t) b.2);
      stands = b.1;
      ends = subst (Stops is_ascii_digit) b.2 d.ends;
    }

pub digits_start : (ds rest : List ℕ) → 0 < length ds → list_all is_ascii_digit ds ≡ true → Stops is_blank (ds ++ rest)
digits_start [] rest some all = absurd (omega arith)
digits_start (d ∷ ds) rest some all = digit_no_blank d (both_true (is_ascii_digit d) (list_all is_ascii_digit ds) all).0

pub number_again : (limit : ℕ) (n : Number) (rest : List ℕ) → IsNumberBelow limit n → Stops is_ascii_digit rest → number_at limit (number_text n rest) ≡ Some (number_value n, rest)
unfolding number_at
number_again limit n rest ok ends =
    let start = after_blanks_is n.before (n.digits ++ rest) ok.0.blank (digits_start n.digits rest ok.0.some ok.0.digits) in
    let yes : nat_lt (digits_value 10 n.digits) limit ≡ true = lt-ltb _ _ ok.1 in
    ap (λ (t : List ℕ). digits_at t >>= λ y. number_below limit y.0 y.1) start
    ∙ bind_is (digits_at (n.digits ++ rest)) (λ y. number_below limit y.0 y.1) (n.digits, rest) (digits_again n.digits rest ok.0.some ok.0.digits ends)
    ∙ ap (λ t. cond t (Some (digits_value 10 n.digits, rest)) None) yes

-- a number that is found behind another stands apart from it
pub apart : (n : Number) (rest : List ℕ) → Stops is_ascii_digit (number_text n rest) → IsNumber n → IsApart n
apart n rest stops is = go n.before n.digits stops is.some is.digits
  where
    go : (before ds : List ℕ) → Stops is_ascii_digit (before ++ (ds ++ rest)) → 0 < length ds → list_all is_ascii_digit ds ≡ true → 0 < length before
    go (b ∷ before) ds stops some all = omega arith
    go [] [] stops some all = absurd (omega arith)
    go [] (d ∷ ds) stops some all = absurd (let t : is_ascii_digit d ≡ true = (both_true (is_ascii_digit d) (list_all is_ascii_digit ds) all).0 in cc)

-- blanks and digits are two things
pub blank_no_digit : (b : ℕ) → is_blank b ≡ true → is_ascii_digit b ≡ false
blank_no_digit b e = grind (arith, nat_tests)

-- ---- what comes next

-- blanks, and then a byte
pub record Goes (next : ℕ) (text : List ℕ) : Type 0 where
  pub blanks : List ℕ
  pub more : List ℕ
  pub are : AreBlank blanks
  pub parts : text ≡ blanks ++ (next ∷ more)

pub sign_here : (sign : ℕ) (blanks rest : List ℕ) → AreBlank blanks → is_blank sign ≡ false → after_sign sign (blanks ++ (sign ∷ rest)) ≡ Some rest
sign_here sign blanks rest are e = ap (after_byte sign) (after_blanks_is blanks (sign ∷ rest) are e) ∙ ap (λ b. cond b (Some rest) None) (eq-eqb sign sign refl)

pub goes_none : (sign next : ℕ) (text : List ℕ) → Goes next text → is_blank next ≡ false → (next == sign) ≡ false → after_sign sign text ≡ None
goes_none sign next text g e ne =
    ap (after_sign sign) g.parts ∙ ap (after_byte sign) (after_blanks_is g.blanks (next ∷ g.more) g.are e) ∙ ap (λ b. cond b (Some g.more) None) ne

pub goes_stops : (next : ℕ) (text : List ℕ) → Goes next text → is_ascii_digit next ≡ false → Stops is_ascii_digit text
goes_stops next text g e = subst (Stops is_ascii_digit) (sym g.parts) (go g.blanks g.are)
  where
    go : (blanks : List ℕ) → AreBlank blanks → Stops is_ascii_digit (blanks ++ (next ∷ g.more))
    go [] are = e
    go (b ∷ blanks) are = blank_no_digit b (both_true (is_blank b) (list_all is_blank blanks) are).0

pub goes_starts : (next : ℕ) (text : List ℕ) → Goes next text → is_blank next ≡ false → starts_with_digit (after_blanks text) ≡ is_ascii_digit next
goes_starts next text g e = ap (λ (t : List ℕ). starts_with_digit (after_blanks t)) g.parts ∙ ap starts_with_digit (after_blanks_is g.blanks (next ∷ g.more) g.are e)

-- ---- a part up to a sign

split_some : (tail rest : List ℕ) → behind_first tail ≡ Some rest → (b : ℕ) × (tail ≡ b ∷ rest)
split_some [] rest e = absurd cc
split_some (b ∷ tail) rest e = (b, let same : tail ≡ rest = some_is tail rest e in cc)

is_sign : (sign b : ℕ) → not (b == sign) ≡ false → b ≡ sign
is_sign sign b e = go (b == sign) refl e
  where
    go : (t : Bool) → (b == sign) ≡ t → not t ≡ false → b ≡ sign
    go true is f = eqb-true b sign is
    go false is f = absurd cc

-- up to the first sign
pub record Closed (sign : ℕ) (text inside rest : List ℕ) : Type 0 where
  pub other : AreOther sign inside
  pub parts : text ≡ inside ++ (sign ∷ rest)

pub closed : (sign : ℕ) (text rest : List ℕ) → behind_first (drop (len_before sign text) text) ≡ Some rest → Closed sign text (take (len_before sign text) text) rest
closed sign text rest e =
    let h = split_some (drop (len_before sign text) text) rest e in
    let stops : not (h.0 == sign) ≡ false = subst (Stops (λ b. not (b == sign))) h.1 (front_ends (λ b. not (b == sign)) text) in
    let same : h.0 ≡ sign = is_sign sign h.0 stops in
    record {
      other = front_all (λ b. not (b == sign)) text;
      parts = front_split (λ b. not (b == sign)) text ∙ ap (λ (t : List ℕ). take (len_before sign text) text ++ t) (h.1 ∙ ap (λ (b : ℕ). b ∷ rest) same);
    }

not_sign : (sign : ℕ) → not (sign == sign) ≡ false
not_sign sign = ap not (eq-eqb sign sign refl)

pub len_is : (sign : ℕ) (inside rest : List ℕ) → AreOther sign inside → len_before sign (inside ++ (sign ∷ rest)) ≡ length inside
len_is sign inside rest other = front_stops (λ b. not (b == sign)) inside (sign ∷ rest) other (not_sign sign)

-- ---- brackets

pub record BracketFound (names : List (List ℕ)) (text : List ℕ) (g : Formula) (rest : List ℕ) : Type 0 where
  pub tree : Option Bracket
  pub formed : IsBracket names tree
  pub parts : text ≡ bracket_text tree rest
  pub stands : bracket_guard tree ≡ g

pub bracket_found : (names : List (List ℕ)) (text : List ℕ) (x : Formula × List ℕ) → bracket_at names text ≡ Some x → BracketFound names text x.0 x.1
unfolding bracket_at
bracket_found names text x e = go (choice_some (after_sign 91 text) (λ r. closed_guard names (take (len_before 93 r) r) (drop (len_before 93 r) r)) (Some (always, text)) x e)
  where
    go : ((r : List ℕ) × (after_sign 91 text ≡ Some r) × (closed_guard names (take (len_before 93 r) r) (drop (len_before 93 r) r) ≡ Some x)) ⊎ ((after_sign 91 text ≡ None) × (◌≡◌ {A = Option (Formula × List ℕ)} (Some (always, text)) (Some x))) → BracketFound names text x.0 x.1
    go (inl (r, here, f)) =
        let b = sign_behind 91 text r here in
        let inside : List ℕ = take (len_before 93 r) r in
        let h = bind_some (behind_first (drop (len_before 93 r) r)) (λ rest. guard_at names inside >>= λ g. Some (g, rest)) x f in
        let k = bind_some (guard_at names inside) (λ g. Some (g, h.0)) x h.2 in
        let c = closed 93 r h.0 h.1 in
        subst (λ (y : Formula × List ℕ). BracketFound names text y.0 y.1) (some_is (k.0, h.0) x k.2) (record {
          tree = Some (record { before = b.blanks; inside = inside; guard = k.0 });
          formed = record { blank = b.are; closed = c.other; spells = guard_found names inside k.0 k.1 };
          parts = b.parts ∙ ap (λ (t : List ℕ). b.blanks ++ (91 ∷ t)) c.parts;
          stands = refl;
        })
    go (inr (none, f)) = subst (λ (y : Formula × List ℕ). BracketFound names text y.0 y.1) (some_is (always, text) x f) (record { tree = None; formed = tt; parts = refl; stands = refl })

pub bracket_again : (names : List (List ℕ)) (tree : Option Bracket) (next : ℕ) (rest : List ℕ) → AreNames names → IsBracket names tree → Goes next rest → is_blank next ≡ false → (next == 91) ≡ false → bracket_at names (bracket_text tree rest) ≡ Some (bracket_guard tree, rest)
unfolding bracket_at
bracket_again names None next rest are ok g e ne = ap (λ (o : Option (List ℕ)). choice o (λ r. closed_guard names (take (len_before 93 r) r) (drop (len_before 93 r) r)) (Some (always, rest))) (goes_none 91 next rest g e ne)
bracket_again names (Some b) next rest are ok g e ne =
    let r : List ℕ = b.inside ++ (93 ∷ rest) in
    let len = len_is 93 b.inside rest ok.closed in
    let inside : take (len_before 93 r) r ≡ b.inside = ap (λ (n : ℕ). take n r) len ∙ take_at b.inside (93 ∷ rest) (length b.inside) refl in
    let tail : drop (len_before 93 r) r ≡ 93 ∷ rest = ap (λ (n : ℕ). drop n r) len ∙ drop_at b.inside (93 ∷ rest) (length b.inside) refl in
    ap (λ (o : Option (List ℕ)). choice o (λ r. closed_guard names (take (len_before 93 r) r) (drop (len_before 93 r) r)) (Some (always, bracket_text (Some b) rest))) (sign_here 91 b.before r ok.blank refl)
    ∙ ap₂ (closed_guard names) inside tail
    ∙ bind_is (guard_at names b.inside) (λ g. Some (g, rest)) b.guard (guard_again names b.inside b.guard are ok.spells)

pub bracket_stops : (names : List (List ℕ)) (tree : Option Bracket) (next : ℕ) (rest : List ℕ) → IsBracket names tree → Goes next rest → is_ascii_digit next ≡ false → Stops is_ascii_digit (bracket_text tree rest)
bracket_stops names None next rest ok g e = goes_stops next rest g e
bracket_stops names (Some b) next rest ok g e = goes_stops 91 _ (record { blanks = b.before; more = b.inside ++ (93 ∷ rest); are = ok.blank; parts = refl }) refl

-- ---- names

pub record NameFound (text rest : List ℕ) : Type 0 where
  pub tree : Option Name
  pub formed : IsName tree
  pub parts : text ≡ name_text tree rest

pub name_found : (text rest : List ℕ) → after_name text ≡ Some rest → NameFound text rest
unfolding after_name
name_found text rest e = go (choice_some (after_sign 34 text) (λ r. behind_first (drop (len_before 34 r) r)) (Some text) rest e)
  where
    go : ((r : List ℕ) × (after_sign 34 text ≡ Some r) × (behind_first (drop (len_before 34 r) r) ≡ Some rest)) ⊎ ((after_sign 34 text ≡ None) × (◌≡◌ {A = Option (List ℕ)} (Some text) (Some rest))) → NameFound text rest
    go (inl (r, here, f)) =
        let b = sign_behind 34 text r here in
        let c = closed 34 r rest f in
        record {
          tree = Some (record { before = b.blanks; bytes = take (len_before 34 r) r });
          formed = (b.are, c.other);
          parts = b.parts ∙ ap (λ (t : List ℕ). b.blanks ++ (34 ∷ t)) c.parts;
        }
    go (inr (none, f)) = record { tree = None; formed = tt; parts = some_is text rest f }

pub name_again : (tree : Option Name) (rest : List ℕ) → IsName tree → Goes 59 rest → after_name (name_text tree rest) ≡ Some rest
unfolding after_name
name_again None rest ok g = ap (λ (o : Option (List ℕ)). choice o (λ r. behind_first (drop (len_before 34 r) r)) (Some rest)) (goes_none 34 59 rest g refl refl)
name_again (Some n) rest ok g =
    let r : List ℕ = n.bytes ++ (34 ∷ rest) in
    let tail : drop (len_before 34 r) r ≡ 34 ∷ rest = ap (λ (k : ℕ). drop k r) (len_is 34 n.bytes rest ok.1) ∙ drop_at n.bytes (34 ∷ rest) (length n.bytes) refl in
    ap (λ (o : Option (List ℕ)). choice o (λ r. behind_first (drop (len_before 34 r) r)) (Some (name_text (Some n) rest))) (sign_here 34 n.before r ok.0 refl)
    ∙ ap behind_first tail
