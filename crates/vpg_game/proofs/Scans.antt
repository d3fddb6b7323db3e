-- Going through the text of a game.
use Rattle.std.proofs.Common.{◌≡◌, ℕ, ◌+◌, ◌*◌, Bool, true, false, List, [], ◌∷◌, ◌++◌, Option, Some, None, refl, sym, ap, ◌∙◌, arith, min, map, append_assoc, append-nil}
use Rattle.std.specs.Prelude.{not, ◌&&◌, ◌==◌, codes, if◌then◌else◌}
use Rattle.std.specs.List.{list_all}
use Rattle.std.specs.Char.{is_ascii_digit, digit_value}
use Rattle.std.specs.Str.Parse.{digits_value, digits_value_after}
use Rattle.std.proofs.lemmas.Bool.Decides.{nat_tests}
use Rattle.vpg_guards.specs.Grammar.{is_blank, AreBlank}
use Rattle.vpg_features.proofs.Held.{both_true}
use Rattle.vpg_game.proofs.Steps.{capped}
use Rattle.vpg_game.specs.Grammar.{Number, Bracket, Successor, Successors, one, comma, Name, Entry, Heading, File, number_text, bracket_text, successor_text, successors_text, all_successors_text, name_text, entry_text, heading_text, entries_text, file_text, IsNumber, IsBracket, IsSuccessor, AreSuccessors, AreAllSuccessors, AreOther, IsName, IsEntry, AreEntries, IsHeading, IsFile, number_value}
use Rattle.vpg_game.specs.declared.scanning.Mode.{Mode}
use Rattle.vpg_game.specs.declared.scanning.Mode.TheVariants.{Between, Header, Start, Guard, Quoted}
use Rattle.vpg_game.specs.SpelledNames.{Told, name_bytes, no_identifier, start_of, told_by}
use Rattle.vpg_game.specs.Scanning.{State, at, between, longer, stepped, step, run}

-- ---- bytes that change nothing

all_weaker : (p q : ℕ → Bool) (bs : List ℕ) → ((b : ℕ) → p b ≡ true → q b ≡ true) → list_all p bs ≡ true → list_all q bs ≡ true
all_weaker p q [] weaker all = refl
all_weaker p q (b ∷ bs) weaker all =
    let h = both_true (p b) (list_all p bs) all in
    let here : q b ≡ true = weaker b h.0 in
    let later : list_all q bs ≡ true = all_weaker p q bs weaker h.1 in
    rw (here, later) refl

-- a byte that is none of `;`, `"`, `[`, `p` and `s`
abbrev is_quiet : ℕ → Bool
is_quiet b = not (b == 59) && (not (b == 34) && (not (b == 91) && (not (b == 112) && not (b == 115))))

blank_quiet : (b : ℕ) → is_blank b ≡ true → is_quiet b ≡ true
blank_quiet b e = grind (arith, nat_tests)

digit_quiet : (b : ℕ) → is_ascii_digit b ≡ true → is_quiet b ≡ true
digit_quiet b e = grind (arith, nat_tests)

not_false : (b : Bool) → not b ≡ true → b ≡ false
not_false false e = refl
not_false true e = absurd cc

-- outside, at its beginning
module _ (start : Option ℕ) (name : List ℕ) (names : List (List ℕ)) where
  quiet_step : (b : ℕ) → is_quiet b ≡ true → between start name names b ≡ at Between start name names
  quiet_step b e =
      let h = both_true (not (b == 59)) _ e in
      let i = both_true (not (b == 34)) _ h.1 in
      let j = both_true (not (b == 91)) _ i.1 in
      let k = both_true (not (b == 112)) _ j.1 in
      let e1 : (b == 59) ≡ false = not_false _ h.0 in
      let e2 : (b == 34) ≡ false = not_false _ i.0 in
      let e3 : (b == 91) ≡ false = not_false _ j.0 in
      let e4 : (b == 112) ≡ false = not_false _ k.0 in
      let e5 : (b == 115) ≡ false = not_false _ k.1 in
      rw (e1, e2, e3, e4, e5) refl

  quiet : (bs rest : List ℕ) → list_all is_quiet bs ≡ true → run (at Between start name names) (bs ++ rest) ≡ run (at Between start name names) rest
  quiet [] rest all = refl
  quiet (b ∷ bs) rest all =
      let h = both_true (is_quiet b) (list_all is_quiet bs) all in
      ap (λ (s : State). run s (bs ++ rest)) (quiet_step b h.0) ∙ quiet bs rest h.1

  blanks : (bs rest : List ℕ) → AreBlank bs → run (at Between start name names) (bs ++ rest) ≡ run (at Between start name names) rest
  blanks bs rest are = quiet bs rest (all_weaker is_blank is_quiet bs blank_quiet are)

  number : (n : Number) (rest : List ℕ) → IsNumber n → run (at Between start name names) (number_text n rest) ≡ run (at Between start name names) rest
  number n rest is = blanks n.before (n.digits ++ rest) is.blank ∙ quiet n.digits rest (all_weaker is_ascii_digit is_quiet n.digits digit_quiet is.digits)

  guard_step : (b : ℕ) → (b == 93) ≡ false → stepped Guard start name names b ≡ at Guard start name names
  guard_step b e = rw e refl

  header_step : (b : ℕ) → (b == 59) ≡ false → stepped Header start name names b ≡ at Header start name names
  header_step b e = rw e refl

  quoted_step : (b : ℕ) → (b == 34) ≡ false → stepped Quoted start name names b ≡ at Quoted start (name ++ b ∷ []) names
  quoted_step b e = rw e refl

  start_step : (b : ℕ) → (b == 59) ≡ false → is_ascii_digit b ≡ false → stepped Start start name names b ≡ at Start start name names
  start_step b e f = rw (e, f) refl

  digit_step : (b : ℕ) → (b == 59) ≡ false → is_ascii_digit b ≡ true → stepped Start start name names b ≡ at Start (longer start b) name names
  digit_step b e f = rw (e, f) refl

  -- up to the end of a guard
  guarded : (bs rest : List ℕ) → AreOther 93 bs → run (at Guard start name names) (bs ++ (93 ∷ rest)) ≡ run (at Between start name names) rest
  guarded [] rest other = refl
  guarded (b ∷ bs) rest other =
      let h = both_true (not (b == 93)) (list_all (λ c. not (c == 93)) bs) other in
      let e : (b == 93) ≡ false = not_false _ h.0 in
      ap (λ (s : State). run s (bs ++ (93 ∷ rest))) (guard_step b e) ∙ guarded bs rest h.1

  bracket : (features : List (List ℕ)) (b : Option Bracket) (rest : List ℕ) → IsBracket features b → run (at Between start name names) (bracket_text b rest) ≡ run (at Between start name names) rest
  bracket features None rest is = refl
  bracket features (Some b) rest is = blanks b.before (91 ∷ (b.inside ++ (93 ∷ rest))) is.blank ∙ guarded b.inside rest is.closed

  successor : (features : List (List ℕ)) (s : Successor) (rest : List ℕ) → IsSuccessor features s → run (at Between start name names) (successor_text s rest) ≡ run (at Between start name names) rest
  successor features s rest is = number s.target (bracket_text s.bracket rest) is.target.0 ∙ bracket features s.bracket rest is.bracket

  successors : (features : List (List ℕ)) (ss : Successors) (rest : List ℕ) → AreSuccessors features ss → run (at Between start name names) (successors_text ss rest) ≡ run (at Between start name names) rest
  successors features (one s) rest are = successor features s rest are
  successors features (comma s bs more) rest are =
      successor features s (bs ++ (44 ∷ successors_text more rest)) are.0 ∙ (blanks bs (44 ∷ successors_text more rest) are.1 ∙ successors features more rest are.2)

  all_successors : (features : List (List ℕ)) (ss : Option Successors) (rest : List ℕ) → AreAllSuccessors features ss → run (at Between start name names) (all_successors_text ss rest) ≡ run (at Between start name names) rest
  all_successors features None rest are = refl
  all_successors features (Some ss) rest are = successors features ss rest are.0

  -- up to the end of a header
  header_skipped : (bs rest : List ℕ) → AreOther 59 bs → run (at Header start name names) (bs ++ rest) ≡ run (at Header start name names) rest
  header_skipped [] rest other = refl
  header_skipped (b ∷ bs) rest other =
      let h = both_true (not (b == 59)) (list_all (λ c. not (c == 59)) bs) other in
      let e : (b == 59) ≡ false = not_false _ h.0 in
      ap (λ (s : State). run s (bs ++ rest)) (header_step b e) ∙ header_skipped bs rest h.1

-- ---- names

-- up to the end of a name
named : (start : Option ℕ) (names : List (List ℕ)) (name bs rest : List ℕ) → AreOther 34 bs → run (at Quoted start name names) (bs ++ (34 ∷ rest)) ≡ run (at Between start (name ++ bs) names) rest
named start names name [] rest other = ap (λ (n : List ℕ). run (at Between start n names) rest) (sym (append-nil name))
named start names name (b ∷ bs) rest other =
    let h = both_true (not (b == 34)) (list_all (λ c. not (c == 34)) bs) other in
    let e : (b == 34) ≡ false = not_false _ h.0 in
    let later = named start names (name ++ b ∷ []) bs rest h.1 in
    ap (λ (s : State). run s (bs ++ (34 ∷ rest))) (quoted_step start name names b e) ∙ (later ∙ ap (λ (n : List ℕ). run (at Between start n names) rest) (append_assoc name (b ∷ []) bs))

module _ (start : Option ℕ) (names : List (List ℕ)) where
  name_told : (n : Option Name) (rest : List ℕ) → IsName n → run (at Between start [] names) (name_text n rest) ≡ run (at Between start (name_bytes n) names) rest
  name_told None rest is = refl
  name_told (Some n) rest is = blanks start [] names n.before (34 ∷ (n.bytes ++ (34 ∷ rest))) is.0 ∙ named start names [] n.bytes rest is.1

  entry_told : (features : List (List ℕ)) (e : Entry) (rest : List ℕ) → IsEntry features e →
      run (at Between start [] names) (entry_text e rest) ≡ run (at Between start [] (names ++ name_bytes e.name ∷ [])) rest
  entry_told features e rest is =
      number start [] names e.id _ is.id.0 ∙ (number start [] names e.priority _ is.priority.0 ∙ (number start [] names e.owner _ is.owner.0
      ∙ (all_successors start [] names features e.successors _ is.successors ∙ (name_told e.name _ is.name ∙ blanks start (name_bytes e.name) names e.before_end (59 ∷ rest) is.blank))))

entries_told : (start : Option ℕ) (names : List (List ℕ)) (features : List (List ℕ)) (es : List Entry) (rest : List ℕ) → AreEntries features es →
    run (at Between start [] names) (entries_text es rest) ≡ run (at Between start [] (names ++ map (λ e. name_bytes e.name) es)) rest
entries_told start names features [] rest are = ap (λ (ns : List (List ℕ)). run (at Between start [] ns) rest) (sym (append-nil names))
entries_told start names features (e ∷ es) rest are =
    entry_told start names features e (entries_text es rest) are.0
    ∙ (entries_told start (names ++ name_bytes e.name ∷ []) features es rest are.1
    ∙ ap (λ (ns : List (List ℕ)). run (at Between start [] ns) rest) (append_assoc names (name_bytes e.name ∷ []) (map (λ x. name_bytes x.name) es)))

-- ---- headings

blank_other : (b : ℕ) → is_blank b ≡ true → not (b == 59) ≡ true
blank_other b e = grind (arith, nat_tests)

digit_other : (b : ℕ) → is_ascii_digit b ≡ true → not (b == 59) ≡ true
digit_other b e = grind (arith, nat_tests)

header_told : (h : Option Heading) (rest : List ℕ) → IsHeading h → run (at Between None [] []) (heading_text (codes "parity") h rest) ≡ run (at Between None [] []) rest
header_told None rest is = refl
header_told (Some h) rest is =
    blanks None [] [] h.before _ is.0
    ∙ (header_skipped None [] [] h.number.before (h.number.digits ++ (h.before_end ++ (59 ∷ rest))) (all_weaker is_blank (λ b. not (b == 59)) h.number.before blank_other is.1.blank)
    ∙ (header_skipped None [] [] h.number.digits (h.before_end ++ (59 ∷ rest)) (all_weaker is_ascii_digit (λ b. not (b == 59)) h.number.digits digit_other is.1.digits)
    ∙ header_skipped None [] [] h.before_end (59 ∷ rest) (all_weaker is_blank (λ b. not (b == 59)) h.before_end blank_other is.3)))

blank_no_digit : (b : ℕ) → is_blank b ≡ true → is_ascii_digit b ≡ false
blank_no_digit b e = grind (arith, nat_tests)

start_blanks : (start : Option ℕ) (bs rest : List ℕ) → AreBlank bs → run (at Start start [] []) (bs ++ rest) ≡ run (at Start start [] []) rest
start_blanks start [] rest are = refl
start_blanks start (b ∷ bs) rest are =
    let h = both_true (is_blank b) (list_all is_blank bs) are in
    let e : (b == 59) ≡ false = not_false _ (blank_other b h.0) in
    let f : is_ascii_digit b ≡ false = blank_no_digit b h.0 in
    ap (λ (s : State). run s (bs ++ rest)) (start_step start [] [] b e f) ∙ start_blanks start bs rest h.1

start_digits : (n : ℕ) (ds rest : List ℕ) → list_all is_ascii_digit ds ≡ true →
    run (at Start (Some (min no_identifier n)) [] []) (ds ++ rest) ≡ run (at Start (Some (min no_identifier (digits_value_after 10 n ds))) [] []) rest
start_digits n [] rest all = refl
start_digits n (d ∷ ds) rest all =
    let h = both_true (is_ascii_digit d) (list_all is_ascii_digit ds) all in
    let e : (d == 59) ≡ false = not_false _ (digit_other d h.0) in
    let f : is_ascii_digit d ≡ true = h.0 in
    let small : min no_identifier (min no_identifier n * 10 + digit_value d) ≡ min no_identifier (n * 10 + digit_value d) = capped no_identifier (min no_identifier n) n (digit_value d) refl in
    ap (λ (s : State). run s (ds ++ rest)) (digit_step (Some (min no_identifier n)) [] [] d e f)
    ∙ (ap (λ (k : ℕ). run (at Start (Some k) [] []) (ds ++ rest)) small ∙ start_digits (n * 10 + digit_value d) ds rest h.1)

start_told : (h : Option Heading) (rest : List ℕ) → IsHeading h → run (at Between None [] []) (heading_text (codes "start") h rest) ≡ run (at Between (start_of h) [] []) rest
start_told None rest is = refl
start_told (Some h) rest is =
    blanks None [] [] h.before _ is.0
    ∙ (start_blanks (Some 0) h.number.before (h.number.digits ++ (h.before_end ++ (59 ∷ rest))) is.1.blank
    ∙ (start_digits 0 h.number.digits (h.before_end ++ (59 ∷ rest)) is.1.digits
    ∙ start_blanks (Some (min no_identifier (number_value h.number))) h.before_end (59 ∷ rest) is.3))

-- ---- the file

pub file_told : (features : List (List ℕ)) (f : File) → IsFile features f → run (at Between None [] []) (file_text f) ≡ at Between (told_by f).start [] (told_by f).names
file_told features f is =
    header_told f.header _ is.header
    ∙ (start_told f.start _ is.start
    ∙ (entry_told (start_of f.start) [] features f.first (entries_text f.entries f.blanks) is.first
    ∙ (entries_told (start_of f.start) (name_bytes f.first.name ∷ []) features f.entries f.blanks is.entries
    ∙ (ap (λ (bs : List ℕ). run (at Between (start_of f.start) [] (told_by f).names) bs) (sym (append-nil f.blanks))
    ∙ blanks (start_of f.start) [] (told_by f).names f.blanks [] is.blank))))

-- what was read, as what a file tells
abbrev pub told_in : State → Told
told_in s = record { names = s.names; start = s.start }

pub told_of : (features : List (List ℕ)) (f : File) (text : List ℕ) (s : State) → IsFile features f → text ≡ file_text f → s ≡ run (at Between None [] []) text → told_in s ≡ told_by f
told_of features f text s well spelled is = ap told_in (is ∙ (ap (run (at Between None [] [])) spelled ∙ file_told features f well))
