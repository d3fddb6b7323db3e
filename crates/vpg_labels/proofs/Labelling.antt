-- Labels stand where names do.
use Rattle.std.proofs.Common.{◌≡◌, ℕ, suc, ◌<◌, ◌≤◌, ◌⊎◌, inl, inr, Bool, true, false, List, [], ◌∷◌, ◌++◌, Option, Some, None, refl, sym, ap, ap₂, ◌∙◌, arith, append_assoc, append-nil, length, map, drop, filter}
use Rattle.std.specs.Prelude.{not, ◌&&◌, ◌==◌, codes, slice_index_or}
use Rattle.std.specs.List.{list_all}
use Rattle.std.specs.Char.{is_ascii_digit}
use Rattle.std.proofs.lemmas.Bool.{cases_Bool}
use Rattle.std.proofs.lemmas.Bool.Decides.{nat_tests}
use Rattle.std.proofs.lemmas.List.{at_drop_all, length-map}
use Rattle.std.proofs.lemmas.List.Folds.{list_all-append}
use Rattle.vpg_guards.specs.Grammar.{is_blank, AreBlank}
use Rattle.vpg_features.proofs.Held.{both_true}
use Rattle.vpg_game.specs.Grammar.{Number, Bracket, Successor, Successors, one, comma, Name, Entry, Heading, File, number_text, bracket_text, successor_text, successors_text, all_successors_text, name_text, entry_text, heading_text, entries_text, file_text, IsNumber, IsBracket, IsSuccessor, AreSuccessors, AreAllSuccessors, AreOther, IsName, IsEntry, AreEntries, IsHeading, IsFile, entry_of, entries_of, SpellsEntries}
use Rattle.vpg_game.specs.Spelled.{SpelledEntry}
use Rattle.vpg_game.specs.Game.{NamedVertex, NamedGame, SpellsGame, entry_ids, vertex_of}
use Rattle.vpg_game.specs.SpelledNames.{Told, name_bytes, start_of, told_by}
use Rattle.vpg_labels.specs.declared.labels.Mode.{Mode}
use Rattle.vpg_labels.specs.declared.labels.Mode.TheVariants.{Front, Header, Start, Between, Guard, Quoted}
use Rattle.vpg_labels.specs.Labels.{is_plain, label_of, labels_from, name_blanks, labelled_entry, labelled_entries, heading_blanks, start_behind, first_blanks, first_behind, blanks_between, labelled_file, start_told, SpellsNamed}
use Rattle.vpg_labels.specs.Labelling.{label_text, start_text, labelled_text}

-- ---- bytes that stay as they are

all_weaker : (p q : ℕ → Bool) (bs : List ℕ) → ((b : ℕ) → p b ≡ true → q b ≡ true) → list_all p bs ≡ true → list_all q bs ≡ true
all_weaker p q [] weaker all = refl
all_weaker p q (b ∷ bs) weaker all =
    let h = both_true (p b) (list_all p bs) all in
    let here : q b ≡ true = weaker b h.0 in
    let later : list_all q bs ≡ true = all_weaker p q bs weaker h.1 in
    rw (here, later) refl

-- a byte that is none of `;`, `"` and `[`
abbrev is_quiet : ℕ → Bool
is_quiet b = not (b == 59) && (not (b == 34) && not (b == 91))

blank_quiet : (b : ℕ) → is_blank b ≡ true → is_quiet b ≡ true
blank_quiet b e = grind (arith, nat_tests)

digit_quiet : (b : ℕ) → is_ascii_digit b ≡ true → is_quiet b ≡ true
digit_quiet b e = grind (arith, nat_tests)

-- a byte that is no digit, no `p` and no `s`
abbrev is_still : ℕ → Bool
is_still b = not (is_ascii_digit b) && (not (b == 112) && not (b == 115))

blank_still : (b : ℕ) → is_blank b ≡ true → is_still b ≡ true
blank_still b e = grind (arith, nat_tests)

blank_other : (b : ℕ) → is_blank b ≡ true → not (b == 59) ≡ true
blank_other b e = grind (arith, nat_tests)

digit_other : (b : ℕ) → is_ascii_digit b ≡ true → not (b == 59) ≡ true
digit_other b e = grind (arith, nat_tests)

digit_no_start : (b : ℕ) → is_ascii_digit b ≡ true → not (b == 115) ≡ true
digit_no_start b e = grind (arith, nat_tests)

not_false : (b : Bool) → not b ≡ true → b ≡ false
not_false false e = refl
not_false true e = absurd cc

module _ (labels : List (List ℕ)) (is_started : Bool) where
  -- the text with labels from here on
  abbrev from_here : Mode → ℕ → List ℕ → List ℕ
  from_here mode v text = labelled_text labels is_started mode v text

  module _ (v : ℕ) where
    quiet_step : (b : ℕ) (rest : List ℕ) → is_quiet b ≡ true → from_here Between v (b ∷ rest) ≡ b ∷ from_here Between v rest
    quiet_step b rest e =
        let h = both_true (not (b == 59)) _ e in
        let i = both_true (not (b == 34)) _ h.1 in
        let e1 : (b == 59) ≡ false = not_false _ h.0 in
        let e2 : (b == 34) ≡ false = not_false _ i.0 in
        let e3 : (b == 91) ≡ false = not_false _ i.1 in
        rw (e1, e2, e3) refl

    quiet : (bs rest : List ℕ) → list_all is_quiet bs ≡ true → from_here Between v (bs ++ rest) ≡ bs ++ from_here Between v rest
    quiet [] rest all = refl
    quiet (b ∷ bs) rest all =
        let h = both_true (is_quiet b) (list_all is_quiet bs) all in
        quiet_step b (bs ++ rest) h.0 ∙ ap (λ (t : List ℕ). b ∷ t) (quiet bs rest h.1)

    blanks : (bs rest : List ℕ) → AreBlank bs → from_here Between v (bs ++ rest) ≡ bs ++ from_here Between v rest
    blanks bs rest are = quiet bs rest (all_weaker is_blank is_quiet bs blank_quiet are)

    digits : (ds rest : List ℕ) → list_all is_ascii_digit ds ≡ true → from_here Between v (ds ++ rest) ≡ ds ++ from_here Between v rest
    digits ds rest are = quiet ds rest (all_weaker is_ascii_digit is_quiet ds digit_quiet are)

    number : (n : Number) (rest : List ℕ) → IsNumber n → from_here Between v (number_text n rest) ≡ number_text n (from_here Between v rest)
    number n rest is = blanks n.before (n.digits ++ rest) is.blank ∙ ap (λ (t : List ℕ). n.before ++ t) (digits n.digits rest is.digits)

    still_step : (b : ℕ) (rest : List ℕ) → is_still b ≡ true → from_here Front v (b ∷ rest) ≡ b ∷ from_here Front v rest
    still_step b rest e =
        let h = both_true (not (is_ascii_digit b)) _ e in
        let i = both_true (not (b == 112)) _ h.1 in
        let e1 : is_ascii_digit b ≡ false = not_false _ h.0 in
        let e2 : (b == 112) ≡ false = not_false _ i.0 in
        let e3 : (b == 115) ≡ false = not_false _ i.1 in
        rw (e1, e2, e3) refl

    -- blanks in front of the first entry
    still : (bs rest : List ℕ) → AreBlank bs → from_here Front v (bs ++ rest) ≡ bs ++ from_here Front v rest
    still [] rest are = refl
    still (b ∷ bs) rest are =
        let h = both_true (is_blank b) (list_all is_blank bs) are in
        still_step b (bs ++ rest) (blank_still b h.0) ∙ ap (λ (t : List ℕ). b ∷ t) (still bs rest h.1)

    -- the first digit of the first entry
    begins : (ds rest : List ℕ) → 0 < length ds → list_all is_ascii_digit ds ≡ true → from_here Front v (ds ++ rest) ≡ start_text is_started ++ (ds ++ from_here Between v rest)
    begins [] rest some are = absurd (omega (arith, some))
    begins (d ∷ ds) rest some are =
        let h = both_true (is_ascii_digit d) (list_all is_ascii_digit ds) are in
        let e : (d == 115) ≡ false = not_false _ (digit_no_start d h.0) in
        rw (h.0, e) (ap (λ (t : List ℕ). start_text is_started ++ (d ∷ t)) (digits ds rest h.1))

    guard_step : (b : ℕ) (rest : List ℕ) → (b == 93) ≡ false → from_here Guard v (b ∷ rest) ≡ b ∷ from_here Guard v rest
    guard_step b rest e = rw e refl

    header_step : (b : ℕ) (rest : List ℕ) → (b == 59) ≡ false → from_here Header v (b ∷ rest) ≡ b ∷ from_here Header v rest
    header_step b rest e = rw e refl

    start_step : (b : ℕ) (rest : List ℕ) → (b == 59) ≡ false → from_here Start v (b ∷ rest) ≡ from_here Start v rest
    start_step b rest e = rw e refl

    quoted_step : (b : ℕ) (rest : List ℕ) → (b == 34) ≡ false → from_here Quoted v (b ∷ rest) ≡ from_here Quoted v rest
    quoted_step b rest e = rw e refl

    -- up to the end of a guard
    guarded : (bs rest : List ℕ) → AreOther 93 bs → from_here Guard v (bs ++ (93 ∷ rest)) ≡ bs ++ (93 ∷ from_here Between v rest)
    guarded [] rest other = refl
    guarded (b ∷ bs) rest other =
        let h = both_true (not (b == 93)) (list_all (λ c. not (c == 93)) bs) other in
        guard_step b (bs ++ (93 ∷ rest)) (not_false _ h.0) ∙ ap (λ (t : List ℕ). b ∷ t) (guarded bs rest h.1)

    -- up to the end of a name, which is left out
    quoted : (bs rest : List ℕ) → AreOther 34 bs → from_here Quoted v (bs ++ (34 ∷ rest)) ≡ from_here Between v rest
    quoted [] rest other = refl
    quoted (b ∷ bs) rest other =
        let h = both_true (not (b == 34)) (list_all (λ c. not (c == 34)) bs) other in
        quoted_step b (bs ++ (34 ∷ rest)) (not_false _ h.0) ∙ quoted bs rest h.1

    -- inside a header
    headed : (bs rest : List ℕ) → AreOther 59 bs → from_here Header v (bs ++ rest) ≡ bs ++ from_here Header v rest
    headed [] rest other = refl
    headed (b ∷ bs) rest other =
        let h = both_true (not (b == 59)) (list_all (λ c. not (c == 59)) bs) other in
        header_step b (bs ++ rest) (not_false _ h.0) ∙ ap (λ (t : List ℕ). b ∷ t) (headed bs rest h.1)

    -- inside a start, which is left out
    dropped : (bs rest : List ℕ) → AreOther 59 bs → from_here Start v (bs ++ rest) ≡ from_here Start v rest
    dropped [] rest other = refl
    dropped (b ∷ bs) rest other =
        let h = both_true (not (b == 59)) (list_all (λ c. not (c == 59)) bs) other in
        start_step b (bs ++ rest) (not_false _ h.0) ∙ dropped bs rest h.1

    bracket : (features : List (List ℕ)) (b : Option Bracket) (rest : List ℕ) → IsBracket features b → from_here Between v (bracket_text b rest) ≡ bracket_text b (from_here Between v rest)
    bracket features None rest is = refl
    bracket features (Some b) rest is = blanks b.before (91 ∷ (b.inside ++ (93 ∷ rest))) is.blank ∙ ap (λ (t : List ℕ). b.before ++ (91 ∷ t)) (guarded b.inside rest is.closed)

    successor : (features : List (List ℕ)) (s : Successor) (rest : List ℕ) → IsSuccessor features s → from_here Between v (successor_text s rest) ≡ successor_text s (from_here Between v rest)
    successor features s rest is = number s.target (bracket_text s.bracket rest) is.target.0 ∙ ap (number_text s.target) (bracket features s.bracket rest is.bracket)

    successors : (features : List (List ℕ)) (ss : Successors) (rest : List ℕ) → AreSuccessors features ss → from_here Between v (successors_text ss rest) ≡ successors_text ss (from_here Between v rest)
    successors features (one s) rest are = successor features s rest are
    successors features (comma s bs more) rest are =
        successor features s (bs ++ (44 ∷ successors_text more rest)) are.0
        ∙ ap (successor_text s) (blanks bs (44 ∷ successors_text more rest) are.1 ∙ ap (λ (t : List ℕ). bs ++ (44 ∷ t)) (successors features more rest are.2))

    all_successors : (features : List (List ℕ)) (ss : Option Successors) (rest : List ℕ) → AreAllSuccessors features ss → from_here Between v (all_successors_text ss rest) ≡ all_successors_text ss (from_here Between v rest)
    all_successors features None rest are = refl
    all_successors features (Some ss) rest are = successors features ss rest are.0

    -- a label in quotes, behind blanks, and the end of the entry
    abbrev ending : List ℕ → List ℕ → List ℕ
    ending bs rest = (bs ++ 32 ∷ []) ++ (34 ∷ (label_of labels v ++ (34 ∷ 59 ∷ rest)))

    ended : (bs rest : List ℕ) → AreBlank bs → from_here Between v (bs ++ (59 ∷ rest)) ≡ ending bs (from_here Between (suc v) rest)
    ended bs rest are =
        let later : List ℕ = from_here Between (suc v) rest in
        blanks bs (59 ∷ rest) are
        ∙ ap (λ (t : List ℕ). bs ++ (32 ∷ 34 ∷ t)) (append_assoc (label_of labels v) (34 ∷ []) (59 ∷ later))
        ∙ sym (append_assoc bs (32 ∷ []) (34 ∷ (label_of labels v ++ (34 ∷ 59 ∷ later))))

    -- the same behind a name
    name_ended : (n : Option Name) (bs rest : List ℕ) → IsName n → AreBlank bs →
        from_here Between v (name_text n (bs ++ (59 ∷ rest))) ≡ ending (name_blanks n ++ bs) (from_here Between (suc v) rest)
    name_ended None bs rest is are = ended bs rest are
    name_ended (Some n) bs rest is are =
        let later : List ℕ = from_here Between (suc v) rest in
        let tail : List ℕ = 34 ∷ (label_of labels v ++ (34 ∷ 59 ∷ later)) in
        blanks n.before (34 ∷ (n.bytes ++ (34 ∷ (bs ++ (59 ∷ rest))))) is.0
        ∙ ap (λ (t : List ℕ). n.before ++ t) (quoted n.bytes (bs ++ (59 ∷ rest)) is.1 ∙ ended bs rest are)
        ∙ sym (append_assoc n.before (bs ++ 32 ∷ []) tail)
        ∙ ap (λ (t : List ℕ). t ++ tail) (sym (append_assoc n.before bs (32 ∷ [])))

  -- ---- entries

  -- an entry behind its identifier
  abbrev after_id : Entry → List ℕ → List ℕ
  after_id e rest = number_text e.priority (number_text e.owner (all_successors_text e.successors (name_text e.name (e.before_end ++ (59 ∷ rest)))))

  after_id_is : (features : List (List ℕ)) (v : ℕ) (e : Entry) (rest : List ℕ) → IsEntry features e → from_here Between v (after_id e rest) ≡ after_id (labelled_entry labels v e) (from_here Between (suc v) rest)
  after_id_is features v e rest is =
      number v e.priority _ is.priority.0 ∙ ap (number_text e.priority)
      (number v e.owner _ is.owner.0 ∙ ap (number_text e.owner)
      (all_successors v features e.successors _ is.successors ∙ ap (all_successors_text e.successors)
      (name_ended v e.name e.before_end rest is.name is.blank
      ∙ ap (λ (t : List ℕ). t ++ (34 ∷ (label_of labels v ++ (34 ∷ 59 ∷ from_here Between (suc v) rest)))) (append_assoc (name_blanks e.name) e.before_end (32 ∷ [])))))

  entry_is : (features : List (List ℕ)) (v : ℕ) (e : Entry) (rest : List ℕ) → IsEntry features e → from_here Between v (entry_text e rest) ≡ entry_text (labelled_entry labels v e) (from_here Between (suc v) rest)
  entry_is features v e rest is = number v e.id (after_id e rest) is.id.0 ∙ ap (number_text e.id) (after_id_is features v e rest is)

  -- behind the entries stand blanks
  entries_are : (features : List (List ℕ)) (v : ℕ) (es : List Entry) (bs : List ℕ) → AreEntries features es → AreBlank bs → from_here Between v (entries_text es bs) ≡ entries_text (labelled_entries labels v es) bs
  entries_are features v [] bs are blank = ap (from_here Between v) (sym (append-nil bs)) ∙ blanks v bs [] blank ∙ append-nil bs
  entries_are features v (e ∷ es) bs are blank = entry_is features v e (entries_text es bs) are.0 ∙ ap (entry_text (labelled_entry labels v e)) (entries_are features (suc v) es bs are.1 blank)

  -- ---- headings

  number_others : (n : Number) → IsNumber n → AreOther 59 n.before × AreOther 59 n.digits
  number_others n is = (all_weaker is_blank (λ b. not (b == 59)) n.before blank_other is.blank, all_weaker is_ascii_digit (λ b. not (b == 59)) n.digits digit_other is.digits)

  header_is : (h : Option Heading) (rest : List ℕ) → IsHeading h → from_here Front 0 (heading_text (codes "parity") h rest) ≡ heading_text (codes "parity") h (from_here Front 0 rest)
  header_is None rest is = refl
  header_is (Some h) rest is =
      let others = number_others h.number is.1 in
      still 0 h.before _ is.0
      ∙ ap (λ (t : List ℕ). h.before ++ (codes "parity" ++ t))
      (headed 0 h.number.before _ others.0
      ∙ ap (λ (t : List ℕ). h.number.before ++ t) (headed 0 h.number.digits _ others.1
      ∙ ap (λ (t : List ℕ). h.number.digits ++ t) (headed 0 h.before_end (59 ∷ rest) (all_weaker is_blank (λ b. not (b == 59)) h.before_end blank_other is.3))))

  start_is : (h : Option Heading) (rest : List ℕ) → IsHeading h → from_here Front 0 (heading_text (codes "start") h rest) ≡ heading_blanks h ++ from_here Front 0 rest
  start_is None rest is = refl
  start_is (Some h) rest is =
      let others = number_others h.number is.1 in
      still 0 h.before _ is.0
      ∙ ap (λ (t : List ℕ). h.before ++ t)
      (dropped 0 h.number.before _ others.0
      ∙ dropped 0 h.number.digits _ others.1
      ∙ dropped 0 h.before_end (59 ∷ rest) (all_weaker is_blank (λ b. not (b == 59)) h.before_end blank_other is.3))

  -- ---- the file

  -- a start behind blanks, and the first entry
  started_is : (started : Bool) (before bs ds rest : List ℕ) →
      before ++ (bs ++ (start_text started ++ (ds ++ rest))) ≡
      heading_text (codes "start") (start_behind started (before ++ bs)) (first_blanks started (before ++ bs) ++ (ds ++ rest))
  started_is false before bs ds rest = sym (append_assoc before bs (ds ++ rest))
  started_is true before bs ds rest = sym (append_assoc before bs (codes "start 0;\n" ++ (ds ++ rest)))

  first_is : (features : List (List ℕ)) (e : Entry) (rest : List ℕ) → IsEntry features e →
      from_here Front 0 (entry_text e rest) ≡ e.id.before ++ (start_text is_started ++ (e.id.digits ++ after_id (labelled_entry labels 0 e) (from_here Between 1 rest)))
  first_is features e rest is =
      still 0 e.id.before _ is.id.0.blank
      ∙ ap (λ (t : List ℕ). e.id.before ++ t) (begins 0 e.id.digits _ is.id.0.some is.id.0.digits
      ∙ ap (λ (t : List ℕ). start_text is_started ++ (e.id.digits ++ t)) (after_id_is features 0 e rest is))

  pub file_is : (features : List (List ℕ)) (f : File) → IsFile features f → labelled_text labels is_started Front 0 (file_text f) ≡ file_text (labelled_file labels is_started f)
  file_is features f is =
      let later : List ℕ = entries_text (labelled_entries labels 1 f.entries) f.blanks in
      header_is f.header _ is.header ∙ ap (heading_text (codes "parity") f.header)
      (start_is f.start _ is.start
      ∙ ap (λ (t : List ℕ). heading_blanks f.start ++ t) (first_is features f.first (entries_text f.entries f.blanks) is.first)
      ∙ started_is is_started (heading_blanks f.start) f.first.id.before f.first.id.digits _
      ∙ ap (λ (t : List ℕ). heading_text (codes "start") (start_behind is_started (blanks_between f)) (first_blanks is_started (blanks_between f) ++ (f.first.id.digits ++ after_id (labelled_entry labels 0 f.first) t)))
      (entries_are features 1 f.entries f.blanks is.entries is.blank))

  -- ---- it spells the same game

  plain_other : (b : ℕ) → is_plain b ≡ true → not (b == 34) ≡ true
  plain_other b e = (both_true (not (b == 34)) _ e).0

  others_filtered : (bs : List ℕ) → AreOther 34 (filter is_plain bs)
  others_filtered [] = refl
  others_filtered (b ∷ bs) = decide (cases_Bool (is_plain b)) (others_filtered bs)
    where
      decide : (is_plain b ≡ true) ⊎ (is_plain b ≡ false) → AreOther 34 (filter is_plain bs) → AreOther 34 (filter is_plain (b ∷ bs))
      decide (inl e) rest = rw e (rw (plain_other b e) rest)
      decide (inr e) rest = rw e rest

  both_blank : (xs ys : List ℕ) → AreBlank xs → AreBlank ys → AreBlank (xs ++ ys)
  both_blank xs ys x y = list_all-append is_blank xs ys ∙ ap₂ (λ (a b : Bool). a && b) x y

  name_blank : (n : Option Name) → IsName n → AreBlank (name_blanks n)
  name_blank None is = refl
  name_blank (Some n) is = is.0

  heading_blank : (h : Option Heading) → IsHeading h → AreBlank (heading_blanks h)
  heading_blank None is = refl
  heading_blank (Some h) is = is.0

  well_formed : (features : List (List ℕ)) (v : ℕ) (e : Entry) → IsEntry features e → IsEntry features (labelled_entry labels v e)
  well_formed features v e is = record {
    id = is.id;
    priority = is.priority;
    priority_apart = is.priority_apart;
    owner = is.owner;
    owner_apart = is.owner_apart;
    successors = is.successors;
    name = (both_blank (name_blanks e.name) (e.before_end ++ 32 ∷ []) (name_blank e.name is.name) (both_blank e.before_end (32 ∷ []) is.blank refl), others_filtered (slice_index_or labels v []));
    blank = refl;
  }

  first_formed : (features : List (List ℕ)) (bs : List ℕ) (e : Entry) → AreBlank bs → IsEntry features e → IsEntry features (first_behind bs e)
  first_formed features bs e blank is = record {
    id = (record { blank = blank; some = is.id.0.some; digits = is.id.0.digits }, is.id.1);
    priority = is.priority;
    priority_apart = is.priority_apart;
    owner = is.owner;
    owner_apart = is.owner_apart;
    successors = is.successors;
    name = is.name;
    blank = is.blank;
  }

  start_formed : (started : Bool) (bs : List ℕ) → AreBlank bs → IsHeading (start_behind started bs)
  start_formed false bs blank = tt
  start_formed true bs blank = (blank, record { blank = refl; some = omega arith; digits = refl }, omega arith, refl)

  first_blank : (started : Bool) (bs : List ℕ) → AreBlank bs → AreBlank (first_blanks started bs)
  first_blank false bs blank = blank
  first_blank true bs blank = refl

  all_well_formed : (features : List (List ℕ)) (v : ℕ) (es : List Entry) → AreEntries features es → AreEntries features (labelled_entries labels v es)
  all_well_formed features v [] are = tt
  all_well_formed features v (e ∷ es) are = (well_formed features v e are.0, all_well_formed features (suc v) es are.1)

  same_entries : (v : ℕ) (es : List Entry) → entries_of (labelled_entries labels v es) ≡ entries_of es
  same_entries v [] = refl
  same_entries v (e ∷ es) = ap (λ (xs : List SpelledEntry). entry_of e ∷ xs) (same_entries (suc v) es)

  file_formed : (features : List (List ℕ)) (f : File) → IsFile features f → IsFile features (labelled_file labels is_started f)
  file_formed features f is =
      let blank : AreBlank (blanks_between f) = both_blank (heading_blanks f.start) f.first.id.before (heading_blank f.start is.start) is.first.id.0.blank in
      record {
        header = is.header;
        start = start_formed is_started (blanks_between f) blank;
        first = first_formed features (first_blanks is_started (blanks_between f)) (labelled_entry labels 0 f.first) (first_blank is_started (blanks_between f) blank) (well_formed features 0 f.first is.first);
        entries = all_well_formed features 1 f.entries is.entries;
        blank = is.blank;
      }

  entries_spelled : (features : List (List ℕ)) (text : List ℕ) (es : List SpelledEntry) → SpellsEntries features text es → SpellsEntries features (labelled_text labels is_started Front 0 text) es
  entries_spelled features text es s = record {
    file = labelled_file labels is_started s.file;
    well_formed = file_formed features s.file s.well_formed;
    spelled = ap (labelled_text labels is_started Front 0) s.spelled ∙ file_is features s.file s.well_formed;
    stands = ap (λ (xs : List SpelledEntry). entry_of s.file.first ∷ xs) (same_entries 1 s.file.entries) ∙ s.stands;
    few_entries = s.few_entries;
    few_successors = s.few_successors;
  }

  game_spelled : (features : List (List ℕ)) (text : List ℕ) (game : NamedGame) → SpellsGame features text game → SpellsGame features (labelled_text labels is_started Front 0 text) game
  game_spelled features text game s = record { entries = s.entries; spelled = entries_spelled features text s.entries s.spelled; sound = s.sound; stands = s.stands }

  -- ---- with these names and this start

  names_are : (v : ℕ) (es : List Entry) → map (λ e. name_bytes e.name) (labelled_entries labels v es) ≡ labels_from labels v (length es)
  names_are v [] = refl
  names_are v (e ∷ es) = ap (λ (names : List (List ℕ)). label_of labels v ∷ names) (names_are (suc v) es)

  start_told_is : (started : Bool) (bs : List ℕ) → start_of (start_behind started bs) ≡ start_told started
  start_told_is false bs = refl
  start_told_is true bs = refl

  as_many_entries : (es : List Entry) → length (entries_of es) ≡ length es
  as_many_entries [] = refl
  as_many_entries (e ∷ es) = ap suc (as_many_entries es)

  -- as many vertices as entries
  as_many : (features : List (List ℕ)) (text : List ℕ) (game : NamedGame) (s : SpellsGame features text game) → suc (length s.spelled.file.entries) ≡ length game.vertices
  as_many features text game s =
      ap suc (sym (as_many_entries s.spelled.file.entries)) ∙ ap (λ (es : List SpelledEntry). length es) s.spelled.stands
      ∙ sym (length-map s.entries (vertex_of (entry_ids s.entries))) ∙ ap (λ (g : NamedGame). length g.vertices) s.stands

  pub game_named : (features : List (List ℕ)) (text : List ℕ) (game : NamedGame) → SpellsGame features text game →
      SpellsNamed features (labelled_text labels is_started Front 0 text) game (record { names = labels_from labels 0 (length game.vertices); start = start_told is_started })
  game_named features text game s = record {
    spells = game_spelled features text game s;
    file = labelled_file labels is_started s.spelled.file;
    well_formed = file_formed features s.spelled.file s.spelled.well_formed;
    spelled = ap (labelled_text labels is_started Front 0) s.spelled.spelled ∙ file_is features s.spelled.file s.spelled.well_formed;
    told_is = ap₂ (λ (names : List (List ℕ)) (start : Option ℕ). let told : Told = record { names = names; start = start } in told)
        (ap (λ (names : List (List ℕ)). label_of labels 0 ∷ names) (names_are 1 s.spelled.file.entries) ∙ ap (labels_from labels 0) (as_many features text game s))
        (start_told_is is_started (blanks_between s.spelled.file));
  }

  -- ---- behind the last byte

  pub text_ends : (mode : Mode) (v i : ℕ) (text out whole : List ℕ) → length text ≤ i → out ++ labelled_text labels is_started mode v (drop i text) ≡ whole → out ≡ whole
  text_ends mode v i text out whole le e = sym (append-nil out) ∙ ap (λ (t : List ℕ). out ++ t) (sym (at_drop_all (labelled_text labels is_started mode v) text i le)) ∙ e
