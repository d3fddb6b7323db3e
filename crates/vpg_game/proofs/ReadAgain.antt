-- What is spelled so is read.
use Rattle.std.proofs.Common.{◌≡◌, ℕ, suc, ◌+◌, ◌-◌, ◌<◌, ◌≤◌, ◌^◌, true, false, cond, List, [], ◌∷◌, ◌++◌, length, Option, Some, None, refl, sym, ap, subst, ◌∙◌, arith, append_assoc}
use Rattle.std.specs.Prelude.{codes, ◌==◌}
use Rattle.std.specs.List.{list_all}
use Rattle.std.specs.Char.{is_ascii_digit}
use Rattle.std.proofs.lemmas.List.{append-nil}
use Rattle.std.proofs.lemmas.Bool.{eq-eqb}
use Rattle.vpg_features.specs.Names.{AreNames}
use Rattle.vpg_guards.specs.Grammar.{is_blank, AreBlank}
use Rattle.vpg_guards.specs.Reading.{◌>>=◌, after_blanks, after_sign}
use Rattle.vpg_features.proofs.Held.{both_true}
use Rattle.vpg_guards.proofs.Blanks.{Stops, after_blanks_is}
use Rattle.vpg_game.specs.Spelled.{SpelledSuccessor, SpelledEntry, named_in}
use Rattle.vpg_game.specs.Grammar.{Number, Successor, Successors, one, comma, Name, Entry, Heading, number_text, bracket_text, successor_text, successors_text, all_successors_text, name_text, entry_text, entries_text, heading_text, file_text, IsNumber, IsNumberBelow, number_value, IsSuccessor, AreSuccessors, first_successor, AreAllSuccessors, IsName, IsEntry, AreEntries, IsHeading, IsApart, bracket_guard, successor_of, successors_of, all_successors_of, entry_of, entries_of, SpellsEntries}
use Rattle.vpg_game.specs.Reading.{choice, within, number_at, bracket_at, with_guard, successor_at, more_successors, successors_at, starts_with_digit, after_name, entry_at, more_entries, digits_at, after_word, if_spaced, heading_rest, after_heading, all_entries, entries_at}
use Rattle.vpg_game.proofs.Steps.{bind_is, within_some, further, no_successors, some_successors, more_ends, more_goes, later, entries_end, entries_go, entry_end, entry_has_successors}
use Rattle.vpg_game.proofs.Parts.{Goes, goes_none, goes_stops, goes_starts, sign_here, digits_again, number_again, bracket_again, bracket_stops, name_again, digits_start, digit_no_blank, blank_no_digit}
use Rattle.std.proofs.lemmas.Bool.Decides.{nat_tests}
use Rattle.std.proofs.Common.{lit<}

-- ---- successors

-- a byte that ends a number and begins no bracket
pub record Ends (next : ℕ) : Type 0 where
  pub no_blank : is_blank next ≡ false
  pub no_digit : is_ascii_digit next ≡ false
  pub no_bracket : (next == 91) ≡ false

module _ (names : List (List ℕ)) (are : AreNames names) where
  successor_again : (s : Successor) (next : ℕ) (rest : List ℕ) → IsSuccessor names s → Goes next rest → Ends next → successor_at names (successor_text s rest) ≡ Some (successor_of s, rest)
  unfolding successor_at
  successor_again s next rest ok g e =
      bind_is (number_at (2 ^ 32) (successor_text s rest)) (λ y. bracket_at names y.1 >>= with_guard y.0) (number_value s.target, bracket_text s.bracket rest)
      (number_again (2 ^ 32) s.target (bracket_text s.bracket rest) ok.target (bracket_stops names s.bracket next rest ok.bracket g e.no_digit))
      ∙ bind_is (bracket_at names (bracket_text s.bracket rest)) (with_guard (number_value s.target)) (bracket_guard s.bracket, rest)
      (bracket_again names s.bracket next rest are ok.bracket g e.no_blank e.no_bracket)

  comma_ends : Ends 44
  comma_ends = record { no_blank = refl; no_digit = refl; no_bracket = refl }

  comma_goes : (blanks rest : List ℕ) → AreBlank blanks → Goes 44 (blanks ++ (44 ∷ rest))
  comma_goes blanks rest ok = record { blanks = blanks; more = rest; are = ok; parts = refl }

  -- the first of some successors is read, then the others
  after_first : Successors → List ℕ → List ℕ
  after_first (one s) rest = rest
  after_first (comma s blanks more) rest = blanks ++ (44 ∷ successors_text more rest)

  first_again : (ss : Successors) (next : ℕ) (rest : List ℕ) → AreSuccessors names ss → Goes next rest → Ends next → successor_at names (successors_text ss rest) ≡ Some (successor_of (first_successor ss), after_first ss rest)
  unfolding after_first
  first_again (one s) next rest ok g e = successor_again s next rest ok g e
  first_again (comma s blanks more) next rest ok g e = successor_again s 44 (blanks ++ (44 ∷ successors_text more rest)) ok.0 (comma_goes blanks (successors_text more rest) ok.1) comma_ends

  others_again : (ss : Successors) (n : ℕ) (read : List SpelledSuccessor) (next : ℕ) (rest : List ℕ) → AreSuccessors names ss → Goes next rest → Ends next → (next == 44) ≡ false → length (successors_of ss) ≤ suc n
      → more_successors names n (read ++ successor_of (first_successor ss) ∷ []) (after_first ss rest) ≡ Some (read ++ successors_of ss, rest)
  unfolding after_first
  others_again (one s) n read next rest ok g e ne few = more_ends names n (read ++ successor_of s ∷ []) rest (goes_none 44 next rest g e.no_blank ne)
  others_again (comma s blanks more) n read next rest ok g e ne few =
      let text : List ℕ = blanks ++ (44 ∷ successors_text more rest) in
      let positive : 0 < n = omega (arith, some_successor more) in
      let grown : List SpelledSuccessor = read ++ successor_of s ∷ [] in
      more_goes names n grown text (successors_text more rest) (sign_here 44 blanks (successors_text more rest) ok.1 refl)
      ∙ bind_is (within n (successor_at names (successors_text more rest))) (further names n grown) (successor_of (first_successor more), after_first more rest)
      (within_some n (successor_at names (successors_text more rest)) positive ∙ first_again more next rest ok.2 g e)
      ∙ others_again more (n - 1) grown next rest ok.2 g e ne (omega arith)
      ∙ ap (λ (ss : List SpelledSuccessor). Some (ss, rest)) (append_assoc read (successor_of s ∷ []) (successors_of more))
    where
      some_successor : (ss : Successors) → 0 < length (successors_of ss)
      some_successor (one s) = omega arith
      some_successor (comma s blanks more) = omega arith

  -- a number goes with a digit
  number_digit : (limit : ℕ) (n : Number) (rest : List ℕ) → IsNumberBelow limit n → (d : ℕ) × (is_ascii_digit d ≡ true) × Goes d (number_text n rest)
  number_digit limit n rest ok = go n.digits ok.0.some ok.0.digits
    where
      go : (ds : List ℕ) → 0 < length ds → list_all is_ascii_digit ds ≡ true → (d : ℕ) × (is_ascii_digit d ≡ true) × Goes d (n.before ++ (ds ++ rest))
      go [] some all = absurd (omega arith)
      go (d ∷ ds) some all = (d, (both_true (is_ascii_digit d) (list_all is_ascii_digit ds) all).0, record { blanks = n.before; more = ds ++ rest; are = ok.0.blank; parts = refl })

  number_starts : (limit : ℕ) (n : Number) (rest : List ℕ) → IsNumberBelow limit n → starts_with_digit (after_blanks (number_text n rest)) ≡ true
  number_starts limit n rest ok = let h = number_digit limit n rest ok in goes_starts h.0 (number_text n rest) h.2 (digit_no_blank h.0 h.1) ∙ h.1

  number_waits : (limit : ℕ) (n : Number) (rest : List ℕ) → IsNumberBelow limit n → 0 < length (after_blanks (number_text n rest))
  number_waits limit n rest ok = go (after_blanks (number_text n rest)) (number_starts limit n rest ok)
    where
      go : (t : List ℕ) → starts_with_digit t ≡ true → 0 < length t
      go [] e = absurd cc
      go (b ∷ t) e = omega arith

  -- a number that stands apart ends the number before it
  apart_stops : (n : Number) (rest : List ℕ) → IsNumber n → IsApart n → Stops is_ascii_digit (number_text n rest)
  apart_stops n rest ok free = go n.before ok.blank free
    where
      go : (before : List ℕ) → AreBlank before → 0 < length before → Stops is_ascii_digit (before ++ (n.digits ++ rest))
      go [] blank free = absurd (omega arith)
      go (b ∷ before) blank free = blank_no_digit b (both_true (is_blank b) (list_all is_blank before) blank).0

  starts_as_number : (ss : Successors) (rest : List ℕ) → (t : List ℕ) × (successors_text ss rest ≡ number_text (first_successor ss).target t)
  starts_as_number (one s) rest = (bracket_text s.bracket rest, refl)
  starts_as_number (comma s blanks more) rest = (bracket_text s.bracket (blanks ++ (44 ∷ successors_text more rest)), refl)

  first_is : (ss : Successors) → AreSuccessors names ss → IsSuccessor names (first_successor ss)
  first_is (one s) ok = ok
  first_is (comma s blanks more) ok = ok.0

  some_of : (ss : Successors) → 0 < length (successors_of ss)
  some_of (one s) = omega arith
  some_of (comma s blanks more) = omega arith

  all_again : (tree : Option Successors) (n next : ℕ) (rest : List ℕ) → AreAllSuccessors names tree → Goes next rest → Ends next → (next == 44) ≡ false → length (all_successors_of tree) ≤ n
      → successors_at names n (all_successors_text tree rest) ≡ Some (all_successors_of tree, rest)
  all_again None n next rest ok g e ne few = no_successors names n rest (goes_starts next rest g e.no_blank ∙ e.no_digit)
  all_again (Some ss) n next rest ok g e ne few =
      let text : List ℕ = successors_text ss rest in
      let start = starts_as_number ss rest in
      let digit : starts_with_digit (after_blanks text) ≡ true = ap (λ (t : List ℕ). starts_with_digit (after_blanks t)) start.1 ∙ number_starts (2 ^ 32) (first_successor ss).target start.0 (first_is ss ok.0).target in
      let positive : 0 < n = omega (arith, some_of ss) in
      some_successors names n text digit
      ∙ bind_is (within n (successor_at names text)) (further names n []) (successor_of (first_successor ss), after_first ss rest) (within_some n (successor_at names text) positive ∙ first_again ss next rest ok.0 g e)
      ∙ others_again ss (n - 1) [] next rest ok.0 g e ne (omega arith)

  all_stops : (tree : Option Successors) (next : ℕ) (rest : List ℕ) → AreAllSuccessors names tree → Goes next rest → Ends next → Stops is_ascii_digit (all_successors_text tree rest)
  all_stops None next rest ok g e = goes_stops next rest g e.no_digit
  all_stops (Some ss) next rest ok g e =
      let start = starts_as_number ss rest in
      subst (Stops is_ascii_digit) (sym start.1) (apart_stops (first_successor ss).target start.0 (first_is ss ok.0).target.0 ok.1)

  -- ---- entries

  -- what comes after the successors: a quote or the end
  record After (text : List ℕ) : Type 0 where
    next : ℕ
    goes : Goes next text
    ends : Ends next
    no_comma : (next == 44) ≡ false

  after_all : (name : Option Name) (blanks rest : List ℕ) → IsName name → AreBlank blanks → After (name_text name (blanks ++ (59 ∷ rest)))
  after_all None blanks rest ok are = record { next = 59; goes = record { blanks = blanks; more = rest; are = are; parts = refl }; ends = record { no_blank = refl; no_digit = refl; no_bracket = refl }; no_comma = refl }
  after_all (Some n) blanks rest ok are = record { next = 34; goes = record { blanks = n.before; more = n.bytes ++ (34 ∷ (blanks ++ (59 ∷ rest))); are = ok.0; parts = refl }; ends = record { no_blank = refl; no_digit = refl; no_bracket = refl }; no_comma = refl }

  entry_again : (e : Entry) (n : ℕ) (rest : List ℕ) → IsEntry names e → length (all_successors_of e.successors) ≤ n → entry_at names n (entry_text e rest) ≡ Some (entry_of e, rest)
  entry_again e n rest ok few =
      let end : List ℕ = e.before_end ++ (59 ∷ rest) in
      let tail : List ℕ = name_text e.name end in
      let a = after_all e.name e.before_end rest ok.name ok.blank in
      let all : List ℕ = all_successors_text e.successors tail in
      let owner = number_again 2 e.owner all ok.owner (all_stops e.successors a.next tail ok.successors a.goes a.ends) in
      let priority = number_again 65536 e.priority (number_text e.owner all) ok.priority (apart_stops e.owner all ok.owner.0 ok.owner_apart) in
      let id = number_again (2 ^ 32) e.id (number_text e.priority (number_text e.owner all)) ok.id (apart_stops e.priority (number_text e.owner all) ok.priority.0 ok.priority_apart) in
      let made = entry_end (number_value e.id) (number_value e.priority) (number_value e.owner) (all_successors_of e.successors) in
      entry_has_successors names n (entry_text e rest) _ _ _ _ _ _ _ _ id priority owner (all_again e.successors n a.next tail ok.successors a.goes a.ends a.no_comma few)
      ∙ bind_is (after_name tail) (λ x. after_sign 59 x >>= made) end (name_again e.name end ok.name (record { blanks = e.before_end; more = rest; are = ok.blank; parts = refl }))
      ∙ bind_is (after_sign 59 end) made rest (sign_here 59 e.before_end rest ok.blank refl)

  entries_again : (es : List Entry) (m n : ℕ) (read : List SpelledEntry) (blanks : List ℕ) → AreEntries names es → AreBlank blanks → length (entries_of es) ≤ m → named_in (entries_of es) ≤ n → more_entries names m n read (entries_text es blanks) ≡ Some (read ++ entries_of es)
  entries_again [] m n read blanks ok are few named =
      entries_end names m n read blanks (ap after_blanks (sym (append-nil blanks)) ∙ after_blanks_is blanks [] are tt) ∙ ap (λ (es : List SpelledEntry). Some es) (sym (append-nil read))
  entries_again (e ∷ es) m n read blanks ok are few named =
      let rest : List ℕ = entries_text es blanks in
      entries_go names m n read (entry_text e rest) (number_waits (2 ^ 32) e.id _ ok.0.id)
      ∙ bind_is (within m (entry_at names n (entry_text e rest))) (later names m n read) (entry_of e, rest) (within_some m (entry_at names n (entry_text e rest)) (omega arith) ∙ entry_again e n rest ok.0 (omega arith))
      ∙ entries_again es (m - 1) (n - length (all_successors_of e.successors)) (read ++ entry_of e ∷ []) blanks ok.1 are (omega arith) (omega arith)
      ∙ ap (λ (es : List SpelledEntry). Some es) (append_assoc read (entry_of e ∷ []) (entries_of es))

  -- ---- headings

  word_again : (word rest : List ℕ) → after_word word (word ++ rest) ≡ Some rest
  word_again [] rest = refl
  word_again (w ∷ word) rest = ap (λ b. cond b (Some (word ++ rest)) None >>= after_word word) (eq-eqb w w refl) ∙ word_again word rest

  spaced_again : (n : Number) (rest : List ℕ) → IsNumber n → IsApart n → if_spaced (number_text n rest) ≡ Some (number_text n rest)
  spaced_again n rest ok free = go n.before ok.blank free
    where
      go : (before : List ℕ) → AreBlank before → 0 < length before → if_spaced (before ++ (n.digits ++ rest)) ≡ Some (before ++ (n.digits ++ rest))
      go [] blank free = absurd (omega arith)
      go (b ∷ before) blank free = ap (λ c. cond c (Some (b ∷ (before ++ (n.digits ++ rest)))) None) (both_true (is_blank b) (list_all is_blank before) blank).0

  heading_again : (first : ℕ) (word : List ℕ) (tree : Option Heading) (next : ℕ) (rest : List ℕ) → IsHeading tree → is_blank first ≡ false → Goes next rest → is_blank next ≡ false → (next == first) ≡ false
      → after_heading first word (heading_text (first ∷ word) tree rest) ≡ Some rest
  unfolding after_heading
  heading_again first word None next rest ok no_blank g e ne = ap (λ (o : Option (List ℕ)). choice o (heading_rest word) (Some rest)) (goes_none first next rest g e ne)
  heading_again first word (Some h) next rest ok no_blank g e ne =
      let end : List ℕ = h.before_end ++ (59 ∷ rest) in
      let number : List ℕ = number_text h.number end in
      let ends = goes_stops 59 end (record { blanks = h.before_end; more = rest; are = ok.3; parts = refl }) refl in
      ap (λ (o : Option (List ℕ)). choice o (heading_rest word) (Some (heading_text (first ∷ word) (Some h) rest))) (sign_here first h.before (word ++ number) ok.0 no_blank)
      ∙ bind_is (after_word word (word ++ number)) (λ t. if_spaced t >>= λ u. digits_at (after_blanks u) >>= λ x. after_sign 59 x.1) number (word_again word number)
      ∙ bind_is (if_spaced number) (λ u. digits_at (after_blanks u) >>= λ x. after_sign 59 x.1) number (spaced_again h.number end ok.1 ok.2)
      ∙ bind_is (digits_at (after_blanks number)) (λ x. after_sign 59 x.1) (h.number.digits, end)
      (ap digits_at (after_blanks_is h.number.before (h.number.digits ++ end) ok.1.blank (digits_start h.number.digits end ok.1.some ok.1.digits)) ∙ digits_again h.number.digits end ok.1.some ok.1.digits ends)
      ∙ sign_here 59 h.before_end rest ok.3 refl

  digit_other : (d sign : ℕ) → is_ascii_digit d ≡ true → 57 < sign → (d == sign) ≡ false
  digit_other d sign e lt = grind (arith, nat_tests)

  -- what a text goes with: a digit, or the letter of a heading
  record Begins (text : List ℕ) : Type 0 where
    next : ℕ
    goes : Goes next text
    no_blank : is_blank next ≡ false
    no_p : (next == 112) ≡ false

  begins : (tree : Option Heading) (e : Entry) (rest : List ℕ) → IsHeading tree → IsEntry names e → Begins (heading_text (codes "start") tree (entry_text e rest))
  begins None e rest ok is =
      let h = number_digit (2 ^ 32) e.id (number_text e.priority (number_text e.owner (all_successors_text e.successors (name_text e.name (e.before_end ++ (59 ∷ rest)))))) is.id in
      record { next = h.0; goes = h.2; no_blank = digit_no_blank h.0 h.1; no_p = digit_other h.0 112 h.1 (lit< tt) }
  begins (Some h) e rest ok is = record { next = 115; goes = record { blanks = h.before; more = codes "tart" ++ number_text h.number (h.before_end ++ (59 ∷ entry_text e rest)); are = ok.0; parts = refl }; no_blank = refl; no_p = refl }

  -- what is spelled so is read
  pub text_again : (text : List ℕ) (out : List SpelledEntry) → SpellsEntries names text out → entries_at names text ≡ Some out
  unfolding entries_at
  text_again text out s =
      let f = s.file in
      let w = s.well_formed in
      let rest : List ℕ = entries_text f.entries f.blanks in
      let body : List ℕ = entry_text f.first rest in
      let inner : List ℕ = heading_text (codes "start") f.start body in
      let b = begins f.start f.first rest w.start w.first in
      let d = number_digit (2 ^ 32) f.first.id (number_text f.first.priority (number_text f.first.owner (all_successors_text f.first.successors (name_text f.first.name (f.first.before_end ++ (59 ∷ rest)))))) w.first.id in
      let count : length out ≡ suc (length (entries_of f.entries)) = ap length (sym s.stands) in
      let named : named_in out ≡ length (all_successors_of f.first.successors) + named_in (entries_of f.entries) = ap named_in (sym s.stands) in
      let few = s.few_entries in
      let fews = s.few_successors in
      ap (λ (t : List ℕ). after_heading 112 (codes "arity") t >>= λ u. after_heading 115 (codes "tart") u >>= all_entries names) s.spelled
      ∙ bind_is (after_heading 112 (codes "arity") (file_text f)) (λ u. after_heading 115 (codes "tart") u >>= all_entries names) inner (heading_again 112 (codes "arity") f.header b.next inner w.header refl b.goes b.no_blank b.no_p)
      ∙ bind_is (after_heading 115 (codes "tart") inner) (all_entries names) body (heading_again 115 (codes "tart") f.start d.0 body w.start refl d.2 (digit_no_blank d.0 d.1) (digit_other d.0 115 d.1 (lit< tt)))
      ∙ bind_is (entry_at names 1048576 body) (λ x. more_entries names 65535 (1048576 - length x.0.successors) (x.0 ∷ []) x.1) (entry_of f.first, rest) (entry_again f.first 1048576 rest w.first (omega arith))
      ∙ entries_again f.entries 65535 (1048576 - length (all_successors_of f.first.successors)) (entry_of f.first ∷ []) f.blanks w.entries w.blank (omega arith) (omega arith)
      ∙ ap (λ (es : List SpelledEntry). Some es) s.stands
