-- The steps of reading whole texts, as the code takes them.
use Rattle.std.proofs.Common.{◌≡◌, ℕ, zero, suc, ◌+◌, ◌-◌, ◌<◌, ◌≤◌, Bool, true, false, cond, List, [], ◌∷◌, ◌++◌, map, reverse, length, get_or, take, drop, Option, Some, None, Err, refl, sym, ap, ◌∙◌, arith, append_assoc}
use Rattle.std.specs.Prelude.{codes, bytes_eq, not, ◌&&◌, ◌||◌, is_some}
use Rattle.std.proofs.lemmas.List.{append-nil, at_drop_more, take_more, take_all, reverse-append, length-append}
use Rattle.vpg_formula.specs.Written.{Phrase, is_variable}
use Rattle.vpg_formula.specs.Marks.{written_marks, phrase_marks}
use Rattle.vpg_formula.specs.Standings.{is_among, has}
use Rattle.vpg_formula.specs.FormulaGrammar.{a_formula}
use Rattle.vpg_formula.specs.Words.{words_of}
use Rattle.vpg_formula.specs.Requirements.{Entry, are_positive, lone_entry, SpellsEntries, SpellsRequirements, AreRequirements, IsRefused, Marked, marked, names_of}
use Rattle.vpg_formula.specs.Reading.{◌>>=◌, after_word, phrase_at, if_last}
use Rattle.vpg_formula.specs.EntryReading.{Visit, visit, step, standings_of, first_like, if_known, body_at, item_behind, entry_behind, new_entry, entry_at, entries_at, requirements_at}
use Rattle.vpg_formula.specs.EntryCode.{context_of, entries_of, earlier_of, Goes, Halts, IsBody, IsHead, IsItem, AreRead, IsChecked, AreNegated, Refuses, AreWhole, is_halt_of_memory, is_fault_of_memory, is_halt_negated, is_fault_negated}
use Rattle.vpg_formula.specs.declared.mark.Mark.{Mark}
use Rattle.vpg_formula.specs.declared.fault.RequirementFault.{RequirementFault}
use Rattle.vpg_formula.specs.declared.fault.RequirementFault.TheVariants as faults
use Rattle.vpg_formula.specs.declared.requirement.Entry as code
use Rattle.vpg_formula.specs.declared.uses.Context as code_context
use Rattle.vpg_formula.specs.declared.uses.Standing.{Standing}
use Rattle.vpg_formula.specs.declared.uses.Standing.TheVariants.{Unknown, Negated}
use Rattle.vpg_formula.specs.declared.stop.Halt.{Halt}
use Rattle.vpg_formula.specs.declared.stop.Halt.TheVariants as halts
use Rattle.vpg_formula.proofs.Series.{some, some_is}
use Rattle.vpg_formula.proofs.Entries.{requirements_found, requirements_again}
use Rattle.vpg_formula.proofs.Standings.{visit_append, has_by_marks}

abbrev Words : Type 0
Words = List (List ℕ)

-- ---- names

pub among_goes : (es : List code.Entry) (i : ℕ) (e : code.Entry) (x : List ℕ) (t : Bool) → i < length es → e ≡ get_or es i e → bytes_eq e.name x ≡ t
    → is_among (earlier_of (drop i es)) x ≡ t || is_among (earlier_of (drop (i + 1) es)) x
among_goes es i e x t lt is same =
    at_drop_more (λ (rest : List code.Entry). is_among (earlier_of rest) x) es i e lt
    ∙ ap (λ (y : code.Entry). bytes_eq y.name x || is_among (earlier_of (drop (i + 1) es)) x) (sym is)
    ∙ ap (λ (u : Bool). u || is_among (earlier_of (drop (i + 1) es)) x) same

map_append : {A B : Type 0} (f : A → B) (xs ys : List A) → map f (xs ++ ys) ≡ map f xs ++ map f ys
map_append f [] ys = refl
map_append f (x ∷ xs) ys = ap (λ (t : List _). f x ∷ t) (map_append f xs ys)

pub pushed : (ps : List code_context.Context) (c : code_context.Context) → reverse (map context_of (ps ++ c ∷ [])) ≡ context_of c ∷ reverse (map context_of ps)
pushed ps c = ap reverse (map_append context_of ps (c ∷ [])) ∙ reverse-append (map context_of ps) (context_of c ∷ [])

pub noted : (ss : List Standing) (s : Standing) → reverse (ss ++ s ∷ []) ≡ s ∷ reverse ss
noted ss s = reverse-append ss (s ∷ [])

-- the last of a list
last_split : {A : Type 0} (xs : List A) (d : A) → 1 ≤ length xs → take (length xs - 1) xs ++ get_or xs (length xs - 1) d ∷ [] ≡ xs
last_split {A} xs d l =
    let n : length xs - 1 + 1 ≡ length xs = omega (arith, l) in
    sym (take_more xs (length xs - 1) d (omega (arith, l))) ∙ (ap (λ k. take k xs) n ∙ take_all (length xs) xs (omega arith))

pub visit_last : (earlier : Words) (ms : List Mark) (d : Mark) (v : Visit) → 1 ≤ length ms → visit earlier ms v ≡ visit earlier (take (length ms - 1) ms) (step earlier (get_or ms (length ms - 1) d) v)
visit_last earlier ms d v l =
    sym (ap (λ (xs : List Mark). visit earlier xs v) (last_split ms d l)) ∙ visit_append earlier (take (length ms - 1) ms) (get_or ms (length ms - 1) d ∷ []) v

-- ---- faults

-- where one reader fails another does
pub halts_too : {A B : Type 0} (h : Halt) (r : Option A) (s : Option B) → (r ≡ None → s ≡ None) → Halts h r → Halts h s
halts_too halts.Memory r s so e = tt
halts_too (halts.Negated left) r s so e = e
halts_too (halts.Syntax left) r s so e = so e
halts_too (halts.Unknown left) r s so e = so e
halts_too (halts.TooDeep left) r s so e = so e
halts_too (halts.Twice left) r s so e = so e
halts_too (halts.TooMany left) r s so e = so e

pub halts_none : {A : Type 0} (h : Halt) (r : Option A) → is_halt_negated h ≡ false → r ≡ None → Halts h r
halts_none halts.Memory r n e = tt
halts_none (halts.Negated left) r n e = absurd cc
halts_none (halts.Syntax left) r n e = e
halts_none (halts.Unknown left) r n e = e
halts_none (halts.TooDeep left) r n e = e
halts_none (halts.Twice left) r n e = e
halts_none (halts.TooMany left) r n e = e

-- ---- a formula

-- a formula that was read: its names decide
body_is : (earlier ws rest : Words) (p : Phrase) (t : Bool) → phrase_at a_formula 64 ws ≡ Some (p, rest) → has Unknown earlier p.written ≡ t → body_at earlier ws ≡ cond t None (Some (p, rest))
body_is earlier ws rest p t e k =
    ap (λ (o : Option (Phrase × Words)). o >>= if_known earlier) e ∙ ap (λ (u : Bool). cond u None (some (p, rest))) k

by_marks : (wanted : Standing) (earlier : Words) (ms : List Mark) (p : Phrase) → ms ≡ phrase_marks p → is_some (first_like wanted (standings_of earlier ms)) ≡ has wanted earlier p.written
by_marks wanted earlier ms p e = ap (λ (xs : List Mark). is_some (first_like wanted (standings_of earlier xs))) e ∙ has_by_marks wanted earlier p.written

pub body_read : (earlier ws rest : Words) (p : Phrase) (ms : List Mark) (negated : Option ℕ) → phrase_at a_formula 64 ws ≡ Some (p, rest) → ms ≡ phrase_marks p
    → is_some (first_like Unknown (standings_of earlier ms)) ≡ false → is_some negated ≡ is_some (first_like Negated (standings_of earlier ms)) → IsBody earlier negated ms ws rest
body_read earlier ws rest p ms negated e f k n = record {
  phrase = p;
  is = body_is earlier ws rest p false e (sym (by_marks Unknown earlier ms p f) ∙ k);
  put = f;
  tells = n ∙ by_marks Negated earlier ms p f;
}

pub body_unknown : (h : Halt) (earlier ws rest : Words) (p : Phrase) (ms : List Mark) → phrase_at a_formula 64 ws ≡ Some (p, rest) → ms ≡ phrase_marks p
    → IsChecked (Err h) (standings_of earlier ms) → Halts h (body_at earlier ws)
body_unknown h earlier ws rest p ms e f k = go h k
  where
    none : is_some (first_like Unknown (standings_of earlier ms)) ≡ true → body_at earlier ws ≡ None
    none u = body_is earlier ws rest p true e (sym (by_marks Unknown earlier ms p f) ∙ u)

    go : (h : Halt) → IsChecked (Err h) (standings_of earlier ms) → Halts h (body_at earlier ws)
    go halts.Memory k = tt
    go (halts.Syntax left) k = none k
    go (halts.Unknown left) k = none k
    go (halts.TooDeep left) k = none k
    go (halts.Twice left) k = none k
    go (halts.TooMany left) k = none k
    go (halts.Negated left) k = k

-- ---- an entry

none_entry : (n : ℕ) (earlier : Words) (name : List ℕ) (ws : Words) → entry_at earlier (name ∷ ws) ≡ None → entries_at n earlier (name ∷ ws) ≡ None
unfolding entries_at
none_entry zero earlier name ws e = refl
none_entry (suc n) earlier name ws e =
    ap (λ (o : Option (Entry × Words)). o >>= λ e. entries_at n (earlier ++ e.0.name ∷ []) e.1 >>= λ entries. some (e.0 ∷ entries)) e

pub no_variable : (h : Halt) (n : ℕ) (earlier : Words) (name : List ℕ) (ws : Words) → is_halt_negated h ≡ false → is_variable name ≡ false → Halts h (entries_at n earlier (name ∷ ws))
no_variable h n earlier name ws early v = halts_none h _ early (none_entry n earlier name ws (ap (λ (t : Bool). cond t (new_entry earlier name ws) None) v))

pub no_new_name : (h : Halt) (n : ℕ) (earlier : Words) (name : List ℕ) (ws : Words) → is_halt_negated h ≡ false → is_variable name ≡ true → is_among earlier name ≡ true → Halts h (entries_at n earlier (name ∷ ws))
no_new_name h n earlier name ws early v a =
    halts_none h _ early (none_entry n earlier name ws (ap (λ (t : Bool). cond t (new_entry earlier name ws) None) v ∙ ap (λ (t : Bool). cond t None (entry_behind earlier name ws)) a))

none_left : (n : ℕ) (earlier : Words) (name : List ℕ) (ws : Words) → n ≡ 0 → entries_at n earlier (name ∷ ws) ≡ None
unfolding entries_at
none_left zero earlier name ws z = refl
none_left (suc n) earlier name ws z = absurd (omega arith)

pub no_more : (h : Halt) (n : ℕ) (earlier : Words) (name : List ℕ) (ws : Words) → is_halt_negated h ≡ false → n ≡ 0 → Halts h (entries_at n earlier (name ∷ ws))
no_more h n earlier name ws early z = halts_none h _ early (none_left n earlier name ws z)

behind_name : (earlier : Words) (name : List ℕ) (ws : Words) → is_variable name ≡ true → is_among earlier name ≡ false → entry_at earlier (name ∷ ws) ≡ entry_behind earlier name ws
behind_name earlier name ws v a = ap (λ (t : Bool). cond t (new_entry earlier name ws) None) v ∙ ap (λ (t : Bool). cond t None (entry_behind earlier name ws)) a

pub no_sign : (h : Halt) (n : ℕ) (earlier : Words) (name : List ℕ) (ws : Words) → is_halt_negated h ≡ false → is_variable name ≡ true → is_among earlier name ≡ false → after_word (codes "=") ws ≡ None → Halts h (entries_at n earlier (name ∷ ws))
no_sign h n earlier name ws early v a s =
    halts_none h _ early (none_entry n earlier name ws (behind_name earlier name ws v a ∙ ap (λ (o : Option Words). o >>= λ rest. item_behind earlier name rest) s))

head_behind : (earlier : Words) (name : List ℕ) (ws rest : Words) → IsHead earlier name ws rest → entry_at earlier (name ∷ ws) ≡ item_behind earlier name rest
head_behind earlier name ws rest h = behind_name earlier name ws h.variable h.new ∙ ap (λ (o : Option Words). o >>= λ rest. item_behind earlier name rest) h.sign

with_name : List ℕ → Phrase → Words → Option (Entry × Words)
with_name name p left = Some (record { name = name; formula = p.written }, left)

-- ---- entries

-- the names of entries, in order
names_in : List Entry → Words
names_in es = names_of (marked es)

behind_all : List Entry → Option (List Entry) → Option (List Entry)
behind_all es o = o >>= λ later. some (es ++ later)

again : (o : Option (List Entry)) → o ≡ behind_all [] o
unfolding behind_all
again None = refl
again (Some es) = refl

pub goes_first : (negated : Option ℕ) (made : List Marked) (ws : Words) → negated ≡ None → made ≡ [] → Goes negated made ws ws
unfolding behind_all
goes_first negated made ws n e = record {
  entries = [];
  put = e;
  tells = ap is_some n;
  is = again (entries_at 64 [] ws) ∙ ap (λ (ms : List Marked). entries_at (64 - length ms) (names_of ms) ws >>= λ later. some ([] ++ later)) (sym e);
}

pub goes_fails : (h : Halt) (negated : Option ℕ) (made : List Marked) (ws rest : Words) → Goes negated made ws rest → Halts h (entries_at (64 - length made) (names_of made) rest) → Halts h (entries_at 64 [] ws)
goes_fails h negated made ws rest g e =
    halts_too h (entries_at (64 - length made) (names_of made) rest) (entries_at 64 [] ws) (λ f. g.is ∙ ap (λ (o : Option (List Entry)). o >>= λ later. some (g.entries ++ later)) f) e

-- one entry more, where so many may come
one_more : (n : ℕ) (earlier : Words) (e : Entry) (ws rest : Words) (name : List ℕ) → 0 < n → entry_at earlier (name ∷ ws) ≡ Some (e, rest)
    → entries_at n earlier (name ∷ ws) ≡ (entries_at (n - 1) (earlier ++ e.name ∷ []) rest >>= λ later. some (e ∷ later))
unfolding entries_at
one_more zero earlier e ws rest name lt f = absurd (omega arith)
one_more (suc n) earlier e ws rest name lt f =
    let less : suc n - 1 ≡ n = omega arith in
    rw less (ap (λ (o : Option (Entry × Words)). o >>= λ e. entries_at n (earlier ++ e.0.name ∷ []) e.1 >>= λ entries. some (e.0 ∷ entries)) f)

pub item_stops : (h : Halt) (n : ℕ) (earlier : Words) (name : List ℕ) (ws rest : Words) → IsHead earlier name ws rest → Halts h (item_behind earlier name rest) → Halts h (entries_at n earlier (name ∷ ws))
item_stops h n earlier name ws rest head e =
    halts_too h (item_behind earlier name rest) (entries_at n earlier (name ∷ ws)) (λ f. none_entry n earlier name ws (head_behind earlier name ws rest head ∙ f)) e

positive_more : (earlier : Words) (es : List Entry) (e : Entry) → are_positive earlier (es ++ e ∷ []) ≡ are_positive earlier es && not (has Negated (earlier ++ names_in es) e.formula)
unfolding names_in
positive_more earlier [] e = last (not (has Negated earlier e.formula)) ∙ ap (λ (xs : Words). not (has Negated xs e.formula)) (sym (append-nil earlier))
  where
    last : (t : Bool) → t && true ≡ t
    last true = refl
    last false = refl
positive_more earlier (x ∷ es) e =
    ap (λ (t : Bool). not (has Negated earlier x.formula) && t) (positive_more (earlier ++ x.name ∷ []) es e
    ∙ ap (λ (xs : Words). are_positive (earlier ++ x.name ∷ []) es && not (has Negated xs e.formula)) (append_assoc earlier (x.name ∷ []) (names_in es)))
    ∙ assoc (not (has Negated earlier x.formula)) (are_positive (earlier ++ x.name ∷ []) es) (not (has Negated (earlier ++ x.name ∷ names_in es) e.formula))
  where
    assoc : (a b c : Bool) → a && (b && c) ≡ (a && b) && c
    assoc true b c = refl
    assoc false b c = refl

either : (a b : Bool) → not a || not (not b) ≡ not (a && not b)
either true true = refl
either true false = refl
either false true = refl
either false false = refl

not_not : (b : Bool) → b ≡ not (not b)
not_not true = refl
not_not false = refl

pub goes_more : (negated first both : Option ℕ) (made : List Marked) (new : Marked) (name : List ℕ) (ws rest mid left : Words) → Goes negated made ws (name ∷ rest) → length made < 64 → IsHead (names_of made) name rest mid
    → IsItem (names_of made) name first new mid left → is_some both ≡ is_some negated || is_some first → Goes both (made ++ new ∷ []) ws left
unfolding names_in
goes_more negated first both made new name ws rest mid left g lt head i b =
    let e : Entry = record { name = name; formula = i.formula } in
    let names : names_of (made ++ new ∷ []) ≡ names_of made ++ name ∷ [] = map_append (λ (m : Marked). m.0) made (new ∷ []) ∙ ap (λ (m : Marked). names_of made ++ m.0 ∷ []) i.put in
    let here : entries_at (64 - length made) (names_of made) (name ∷ rest) ≡ (entries_at (64 - length made - 1) (names_of made ++ name ∷ []) left >>= λ later. some (e ∷ later)) =
    one_more (64 - length made) (names_of made) e rest left name (omega arith) (head_behind (names_of made) name rest mid head ∙ i.is) in
    let less : 64 - length made - 1 ≡ 64 - length (made ++ new ∷ []) = omega (arith, length-append made (new ∷ [])) in
    let earlier : names_of made ≡ names_in g.entries = ap names_of g.put in
    record {
      entries = g.entries ++ e ∷ [];
      put = ap (λ (ms : List Marked). ms ++ new ∷ []) g.put ∙ ap (λ (m : Marked). marked g.entries ++ m ∷ []) i.put ∙ sym (map_append (λ (e : Entry). (e.name, written_marks e.formula)) g.entries (e ∷ []));
      tells = b ∙ ap (λ (t : Bool). t || is_some first) g.tells ∙ ap (λ (t : Bool). not (are_positive [] g.entries) || t) (i.tells ∙ ap (λ (xs : Words). has Negated xs i.formula) earlier ∙ not_not (has Negated (names_in g.entries) i.formula))
          ∙ either (are_positive [] g.entries) (has Negated (names_in g.entries) i.formula) ∙ sym (ap not (positive_more [] g.entries e));
      is = g.is ∙ ap (λ (o : Option (List Entry)). o >>= λ later. some (g.entries ++ later)) (here
          ∙ ap (λ (n : ℕ). entries_at n (names_of made ++ name ∷ []) left >>= λ later. some (e ∷ later)) less
          ∙ ap (λ (xs : Words). entries_at (64 - length (made ++ new ∷ [])) xs left >>= λ later. some (e ∷ later)) (sym names))
          ∙ join (entries_at (64 - length (made ++ new ∷ [])) (names_of (made ++ new ∷ [])) left) e;
    }
  where
    join : (o : Option (List Entry)) (e : Entry) → ((o >>= λ later. some (e ∷ later)) >>= λ later. some (g.entries ++ later)) ≡ (o >>= λ later. some ((g.entries ++ e ∷ []) ++ later))
    join None e = refl
    join (Some later) e = ap some (sym (append_assoc g.entries (e ∷ []) later))

nothing_left : (n : ℕ) (earlier : Words) (es : List Entry) → (entries_at n earlier [] >>= λ later. some (es ++ later)) ≡ some (es ++ [])
unfolding entries_at
nothing_left zero earlier es = refl
nothing_left (suc n) earlier es = refl

pub entries_added : (es : List code.Entry) (e : code.Entry) → entries_of (es ++ e ∷ []) ≡ entries_of es ++ (e.name, e.formula.marks.items) ∷ []
entries_added es e = map_append (λ (x : code.Entry). (x.name, x.formula.marks.items)) es (e ∷ [])

pub entries_count : (es : List code.Entry) → length (entries_of es) ≡ length es
entries_count [] = refl
entries_count (e ∷ es) = ap suc (entries_count es)

pub goes_last : (negated : Option ℕ) (made : List Marked) (ws rest : Words) → Goes negated made ws rest → rest ≡ [] → AreRead negated made (entries_at 64 [] ws)
goes_last negated made ws rest g e = record {
  entries = g.entries;
  are = g.is ∙ ap (λ (t : Words). entries_at (64 - length made) (names_of made) t >>= λ later. some (g.entries ++ later)) e ∙ nothing_left (64 - length made) (names_of made) g.entries ∙ ap some (append-nil g.entries);
  put = g.put;
  tells = g.tells;
}

-- ---- one formula alone

last_or : Option (Phrase × Words) → Option (List Entry)
last_or o = o >>= λ p. if_last (lone_entry p.0.written ∷ []) p.1

-- ---- all of it

none_unless : (h : Halt) (read : Option (List Entry)) → is_halt_of_memory h ≡ false → is_halt_negated h ≡ false → Refuses h read → read ≡ None
none_unless halts.Memory read m n r = absurd cc
none_unless (halts.Negated left) read m n r = absurd cc
none_unless (halts.Syntax left) read m n r = r
none_unless (halts.Unknown left) read m n r = r
none_unless (halts.TooDeep left) read m n r = r
none_unless (halts.Twice left) read m n r = r
none_unless (halts.TooMany left) read m n r = r

negated_if : (h : Halt) (read : Option (List Entry)) → is_halt_negated h ≡ true → Refuses h read → AreNegated read
negated_if halts.Memory read n r = absurd cc
negated_if (halts.Negated left) read n r = r
negated_if (halts.Syntax left) read n r = absurd cc
negated_if (halts.Unknown left) read n r = absurd cc
negated_if (halts.TooDeep left) read n r = absurd cc
negated_if (halts.Twice left) read n r = absurd cc
negated_if (halts.TooMany left) read n r = absurd cc

-- ---- texts

spelled_none : (text : List ℕ) → requirements_at (words_of text) ≡ None → (es : List Entry) → SpellsEntries text es → ⊥
spelled_none text e es s = let both : None ≡ some es = sym e ∙ requirements_again text es s in absurd cc

pub text_refused : (text : List ℕ) (h : Halt) (fault : RequirementFault) → is_fault_of_memory fault ≡ is_halt_of_memory h → is_fault_negated fault ≡ is_halt_negated h → Refuses h (requirements_at (words_of text)) → IsRefused text fault
text_refused text h faults.Memory m n r = tt
text_refused text h (faults.NegatedVariable at) m n r =
    let k = negated_if h _ (sym n) r in
    record { entries = k.entries; spelled = requirements_found text k.entries k.are; negative = k.negative }
text_refused text h (faults.Syntax at) m n r = spelled_none text (none_unless h _ (sym m) (sym n) r)
text_refused text h (faults.UnknownVariable at) m n r = spelled_none text (none_unless h _ (sym m) (sym n) r)
text_refused text h (faults.TooDeep at) m n r = spelled_none text (none_unless h _ (sym m) (sym n) r)
text_refused text h (faults.Twice at) m n r = spelled_none text (none_unless h _ (sym m) (sym n) r)
text_refused text h (faults.TooMany at) m n r = spelled_none text (none_unless h _ (sym m) (sym n) r)

-- what is spelled is refused for want of memory alone
pub refused_only : (text : List ℕ) (fault : RequirementFault) (es : List Entry) → IsRefused text fault → SpellsRequirements text es → fault ≡ faults.Memory
refused_only text faults.Memory es r s = refl
refused_only text (faults.NegatedVariable at) es r s =
    let same : r.entries ≡ es = some_is r.entries es (sym (requirements_again text r.entries r.spelled) ∙ requirements_again text es s.spelled) in
    let both : false ≡ true = sym r.negative ∙ ap (are_positive []) same ∙ s.positive in
    absurd cc
refused_only text (faults.Syntax at) es r s = absurd (r es s.spelled)
refused_only text (faults.UnknownVariable at) es r s = absurd (r es s.spelled)
refused_only text (faults.TooDeep at) es r s = absurd (r es s.spelled)
refused_only text (faults.Twice at) es r s = absurd (r es s.spelled)
refused_only text (faults.TooMany at) es r s = absurd (r es s.spelled)

pub text_read : (text : List ℕ) (made : List Marked) → AreWhole made (requirements_at (words_of text)) → AreRequirements text made
text_read text made w = record { entries = w.entries; spelled = record { spelled = requirements_found text w.entries w.are; positive = w.positive }; are = w.put }

pub text_only : (text : List ℕ) (made : List Marked) (es : List Entry) → AreWhole made (requirements_at (words_of text)) → SpellsRequirements text es → made ≡ marked es
text_only text made es w s = w.put ∙ ap marked (some_is w.entries es (sym w.are ∙ requirements_again text es s.spelled))
