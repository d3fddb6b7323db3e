-- Where words are no requirements, and where the text is.
use Rattle.std.proofs.Common.{◌≡◌, ℕ, zero, suc, ◌+◌, ◌-◌, ◌<◌, ◌≤◌, Bool, true, false, cond, List, [], ◌∷◌, ◌++◌, length, get_or, Option, Some, None, refl, sym, ap, subst, ◌∙◌, arith, append_assoc}
use Rattle.std.specs.Prelude.{codes, not, ◌&&◌, ◌||◌, is_some, Result, Ok, Err, IfOk, IfErr}
use Rattle.std.proofs.lemmas.Bool.{lt-ltb}
use Rattle.std.proofs.lemmas.List.{append-nil, length-append}
use Rattle.vpg_formula.specs.Words.{words_of}
use Rattle.vpg_formula.specs.Written.{Phrase, Written, is_variable}
use Rattle.vpg_formula.specs.FormulaGrammar.{IsFormula}
use Rattle.vpg_formula.specs.Standings.{is_among, has}
use Rattle.vpg_formula.specs.Requirements.{Entry, AreEntries, no_entry, entry, begins_entry, are_positive, Marked, marked, names_of}
use Rattle.vpg_formula.specs.Reading.{◌>>=◌, after_word}
use Rattle.vpg_formula.specs.EntryReading.{body_at, item_behind}
use Rattle.vpg_formula.specs.EntryCode.{IsHead, IsItem}
use Rattle.vpg_formula.specs.Faults.{entry_names, IsTwiceAt, IsTooManyAt, FormulaAt, alone, in_entry, AreKnownTo, IsSyntaxAt, no_name, no_sign, no_formula, IsTooDeepAt, IsUnknownAt, IsNegatedIn, IsNegatedAt, IsPlace, IsAt}
use Rattle.vpg_formula.specs.Naming.{mentions, first_unknown}
use Rattle.vpg_formula.specs.FaultCode.{ArePlaces, place_left, fault_at, IsLeft, HaltsAt, BodyAt, nameless, signless, HeadAt, NegatedIn, NegatedAt, first_of, AreReadTo}
use Rattle.vpg_formula.specs.declared.stop.Halt.{Halt}
use Rattle.vpg_formula.specs.declared.stop.Halt.TheVariants as halts
use Rattle.vpg_formula.specs.declared.uses.Standing.TheVariants.{Unknown, Negated}
use Rattle.vpg_formula.proofs.Series.{bind_some, some, some_is, word_behind, word_next}
use Rattle.vpg_formula.proofs.Entries.{body_found}

abbrev Words : Type 0
Words = List (List ℕ)

-- ---- places

pub word_place : (text places : List ℕ) (left : ℕ) (Is : ℕ → Type 0) → ArePlaces text places → IsLeft (words_of text) left Is → IsPlace text (place_left places left) Is
word_place text places left Is p l =
    let within : left < length places = omega (arith, p.count, l.sum) in
    let which : length places - 1 - left ≡ l.words = omega (arith, p.count, l.sum) in
    record {
      words = l.words;
      within = omega (arith, l.sum);
      place = ap (λ (t : Bool). cond t (get_or places (length places - 1 - left) 0) (get_or places 0 0)) (lt-ltb left (length places) within)
          ∙ ap (λ (k : ℕ). get_or places k 0) which ∙ p.each l.words (omega (arith, p.count, l.sum));
      is = l.is;
    }

pub halt_is_at : (text places : List ℕ) (h : Halt) → ArePlaces text places → HaltsAt (words_of text) h → IsAt text (fault_at places h)
halt_is_at text places (halts.Twice left) p h = word_place text places left (IsTwiceAt (words_of text)) p h
halt_is_at text places (halts.TooMany left) p h = word_place text places left (IsTooManyAt (words_of text)) p h
halt_is_at text places (halts.Syntax left) p h = word_place text places left (IsSyntaxAt (words_of text)) p h
halt_is_at text places (halts.Unknown left) p h = word_place text places left (IsUnknownAt (words_of text)) p h
halt_is_at text places (halts.TooDeep left) p h = word_place text places left (IsTooDeepAt (words_of text)) p h
halt_is_at text places (halts.Negated left) p h = word_place text places left (IsNegatedAt (words_of text)) p h
halt_is_at text places halts.Memory p h = tt

-- ---- entries

pub names_alike : (es : List Entry) → names_of (marked es) ≡ entry_names es
names_alike [] = refl
names_alike (e ∷ es) = ap (λ (t : Words). e.name ∷ t) (names_alike es)

marked_count : (es : List Entry) → length (marked es) ≡ length es
marked_count [] = refl
marked_count (e ∷ es) = ap suc (marked_count es)

marked_append : (es : List Entry) (e : Entry) → marked (es ++ e ∷ []) ≡ marked es ++ marked (e ∷ [])
marked_append [] e = refl
marked_append (d ∷ es) e = ap (λ (t : List Marked). (marked (d ∷ [])) ++ t) (marked_append es e)

entries_few : (n : ℕ) (earlier ws : Words) (es : List Entry) → AreEntries n earlier ws es → length es ≤ n
entries_few n earlier ws es no_entry = omega arith
entries_few n earlier ws all (entry {n = m} name us rest p entries v a i k later) = let few = entries_few m (earlier ++ name ∷ []) rest entries later in omega (arith, few)

-- one entry more, behind the others
one_behind : (n : ℕ) (earlier front us : Words) (es : List Entry) (name : List ℕ) (p : Phrase) → AreEntries n earlier front es → length es < n → is_variable name ≡ true
    → is_among (earlier ++ entry_names es) name ≡ false → IsFormula 64 us p → has Unknown (earlier ++ entry_names es) p.written ≡ false
    → AreEntries n earlier (front ++ name ∷ codes "=" ∷ (us ++ codes ";" ∷ [])) (es ++ record { name = name; formula = p.written } ∷ [])
one_behind zero earlier front us es name p no_entry few v a i k = absurd (omega (arith, few))
one_behind (suc n) earlier front us es name p no_entry few v a i k =
    entry name us [] p [] v (subst (λ (xs : Words). is_among xs name ≡ false) (append-nil earlier) a) i (subst (λ (xs : Words). has Unknown xs p.written ≡ false) (append-nil earlier) k) no_entry
one_behind n earlier front us all name p (entry {n = m} first vs rest q entries v a i k later) few w b j l =
    let same = append_assoc earlier (first ∷ []) (entry_names entries) in
    let inner = one_behind m (earlier ++ first ∷ []) rest us entries name p later (omega (arith, few)) w
    (subst (λ (xs : Words). is_among xs name ≡ false) (sym same) b) j (subst (λ (xs : Words). has Unknown xs p.written ≡ false) (sym same) l) in
    subst (λ (t : Words). AreEntries (suc m) earlier (first ∷ codes "=" ∷ t) (record { name = first; formula = q.written } ∷ (entries ++ record { name = name; formula = p.written } ∷ [])))
    (sym (append_assoc vs (codes ";" ∷ rest) (name ∷ codes "=" ∷ (us ++ codes ";" ∷ []))))
    (entry first vs (rest ++ name ∷ codes "=" ∷ (us ++ codes ";" ∷ [])) q (entries ++ record { name = name; formula = p.written } ∷ []) v a i k inner)

-- ---- where entries have come to

pub read_first : (negated : Option ℕ) (made : List Marked) (ws : Words) → negated ≡ None → made ≡ [] → AreReadTo negated made ws ws
read_first negated made ws n e = record {
  entries = [];
  put = e;
  front = [];
  parts = refl;
  are = no_entry;
  tells = ap is_some n;
  place = subst (NegatedAt ws) (sym n) tt;
}

names_to : (negated : Option ℕ) (made : List Marked) (all rest : Words) (r : AreReadTo negated made all rest) → names_of made ≡ entry_names r.entries
names_to negated made all rest r = ap names_of r.put ∙ names_alike r.entries

count_to : (negated : Option ℕ) (made : List Marked) (all rest : Words) (r : AreReadTo negated made all rest) → length made ≡ length r.entries
count_to negated made all rest r = ap length r.put ∙ marked_count r.entries

positive_more : (earlier : Words) (es : List Entry) (e : Entry) → are_positive earlier (es ++ e ∷ []) ≡ (are_positive earlier es && not (has Negated (earlier ++ entry_names es) e.formula))
positive_more earlier [] e = last (not (has Negated earlier e.formula)) ∙ ap (λ (xs : Words). not (has Negated xs e.formula)) (sym (append-nil earlier))
  where
    last : (t : Bool) → (t && true) ≡ t
    last true = refl
    last false = refl
positive_more earlier (x ∷ es) e =
    ap (λ (t : Bool). not (has Negated earlier x.formula) && t) (positive_more (earlier ++ x.name ∷ []) es e
    ∙ ap (λ (xs : Words). are_positive (earlier ++ x.name ∷ []) es && not (has Negated xs e.formula)) (append_assoc earlier (x.name ∷ []) (entry_names es)))
    ∙ assoc (not (has Negated earlier x.formula)) (are_positive (earlier ++ x.name ∷ []) es) (not (has Negated (earlier ++ x.name ∷ entry_names es) e.formula))
  where
    assoc : (a b c : Bool) → (a && (b && c)) ≡ ((a && b) && c)
    assoc true b c = refl
    assoc false b c = refl

-- where a new entry's formula begins
abbrev begins_behind : (negated : Option ℕ) (made : List Marked) (name : List ℕ) (all ws mid : Words) (r : AreReadTo negated made all (name ∷ ws)) → length made < 64 → IsHead (names_of made) name ws mid → FormulaAt all r.entries (length r.front + 2) mid
begins_behind negated made name all ws mid r few head =
    let names = names_to negated made all (name ∷ ws) r in
    let count = count_to negated made all (name ∷ ws) r in
    in_entry name r.entries (length r.front) mid
    (record { front = r.front; parts = r.parts ∙ ap (λ (t : Words). r.front ++ name ∷ t) (word_behind (codes "=") ws mid head.sign); count = refl; are = r.are })
    head.variable (subst (λ (xs : Words). is_among xs name ≡ false) names head.new) (omega (arith, few, count))

mid_count : (negated : Option ℕ) (made : List Marked) (name : List ℕ) (all ws mid : Words) (r : AreReadTo negated made all (name ∷ ws)) → IsHead (names_of made) name ws mid → length all ≡ length r.front + 2 + length mid
mid_count negated made name all ws mid r head =
    let long = length-append r.front (name ∷ ws) in
    let sign = ap length (word_behind (codes "=") ws mid head.sign) in
    omega (arith, ap length r.parts, long, sign)

negated_more : (negated first : Option ℕ) (made : List Marked) (name : List ℕ) (all ws mid rest : Words) (r : AreReadTo negated made all (name ∷ ws)) → length made < 64 → IsHead (names_of made) name ws mid
    → NegatedIn (names_of made) mid (codes ";" ∷ rest) first → NegatedAt all (first_of negated first)
negated_more negated first made name all ws mid rest r few head n = go negated r.tells r.place first n
  where
    go : (negated : Option ℕ) → is_some negated ≡ not (are_positive [] r.entries) → NegatedAt all negated → (first : Option ℕ) → NegatedIn (names_of made) mid (codes ";" ∷ rest) first → NegatedAt all (first_of negated first)
    go (Some left) t p first n = p
    go None t p None n = tt
    go None t p (Some left) n =
        let count = mid_count negated made name all ws mid r head in
        record {
          words = length r.front + 2 + n.words;
          sum = omega (arith, n.sum, count);
          is = record {
            entries = r.entries;
            start = length r.front + 2;
            rest = mid;
            begins = begins_behind negated made name all ws mid r few head;
            positive = positive (are_positive [] r.entries) t;
            behind = codes ";" ∷ rest;
            ends = refl;
            front = n.words;
            is = subst (λ (xs : Words). IsNegatedIn xs mid (codes ";" ∷ rest) n.words) (names_to negated made all (name ∷ ws) r) n.is;
            place = refl;
          };
        }
      where
        positive : (t : Bool) → false ≡ not t → t ≡ true
        positive true e = refl
        positive false e = absurd cc

-- what is found of an entry, behind its `=`
record OneItem (earlier : Words) (e : Entry) (ws rest : Words) : Type 0 where
  us : Words
  phrase : Phrase
  formula : IsFormula 64 us phrase
  known : has Unknown earlier phrase.written ≡ false
  parts : ws ≡ us ++ codes ";" ∷ rest
  written : phrase.written ≡ e.formula

item_found : (earlier : Words) (name : List ℕ) (f : Written) (ws rest : Words) → item_behind earlier name ws ≡ Some (record { name = name; formula = f }, rest) → OneItem earlier (record { name = name; formula = f }) ws rest
item_found earlier name f ws rest e =
    let j = bind_some (body_at earlier ws) (λ p. after_word (codes ";") p.1 >>= λ left. Some (record { name = name; formula = p.0.written }, left)) (record { name = name; formula = f }, rest) e in
    let k = bind_some (after_word (codes ";") j.0.1) (λ left. Some (record { name = name; formula = j.0.0.written }, left)) (record { name = name; formula = f }, rest) j.2 in
    let i = body_found earlier ws j.0 j.1 in
    let this : Entry = record { name = name; formula = j.0.0.written } in
    let that : Entry = record { name = name; formula = f } in
    let same : (this, k.0) ≡ (that, rest) = some_is (this, k.0) (that, rest) k.2 in
    record {
      us = i.us;
      phrase = j.0.0;
      formula = i.formula;
      known = i.known;
      parts = i.parts ∙ ap (λ (t : Words). i.us ++ t) (word_behind (codes ";") j.0.1 k.0 k.1 ∙ ap (λ (p : Entry × Words). codes ";" ∷ p.1) same);
      written = ap (λ (p : Entry × Words). p.0.formula) same;
    }

pub read_more : (negated first both : Option ℕ) (made : List Marked) (new : Marked) (name : List ℕ) (all ws mid rest : Words) → AreReadTo negated made all (name ∷ ws) → length made < 64 → IsHead (names_of made) name ws mid
    → IsItem (names_of made) name first new mid rest → NegatedIn (names_of made) mid (codes ";" ∷ rest) first → both ≡ first_of negated first → AreReadTo both (made ++ new ∷ []) all rest
read_more negated first both made new name all ws mid rest r few head i n b =
    let e : Entry = record { name = name; formula = i.formula } in
    let o = item_found (names_of made) name i.formula mid rest i.is in
    let names = names_to negated made all (name ∷ ws) r in
    let count = count_to negated made all (name ∷ ws) r in
    let behind : ws ≡ codes "=" ∷ (o.us ++ codes ";" ∷ rest) = word_behind (codes "=") ws mid head.sign ∙ ap (λ (t : Words). codes "=" ∷ t) o.parts in
    record {
      entries = r.entries ++ e ∷ [];
      put = ap (λ (ms : List Marked). ms ++ new ∷ []) r.put ∙ ap (λ (m : Marked). marked r.entries ++ m ∷ []) i.put ∙ sym (marked_append r.entries e);
      front = r.front ++ name ∷ codes "=" ∷ (o.us ++ codes ";" ∷ []);
      parts = r.parts ∙ ap (λ (t : Words). r.front ++ name ∷ t) (behind ∙ ap (λ (t : Words). codes "=" ∷ t) (sym (append_assoc o.us (codes ";" ∷ []) rest)))
          ∙ sym (append_assoc r.front (name ∷ codes "=" ∷ (o.us ++ codes ";" ∷ [])) rest);
      are = subst (λ (f : Written). AreEntries 64 [] (r.front ++ name ∷ codes "=" ∷ (o.us ++ codes ";" ∷ [])) (r.entries ++ record { name = name; formula = f } ∷ [])) o.written
          (one_behind 64 [] r.front o.us r.entries name o.phrase r.are (omega (arith, few, count)) head.variable
          (subst (λ (xs : Words). is_among xs name ≡ false) names head.new) o.formula (subst (λ (xs : Words). has Unknown xs o.phrase.written ≡ false) names o.known));
      tells = ap is_some b ∙ either negated first ∙ ap (λ (t : Bool). t || is_some first) r.tells
          ∙ ap (λ (t : Bool). not (are_positive [] r.entries) || t) (i.tells ∙ ap (λ (xs : Words). has Negated xs i.formula) names ∙ not_not (has Negated (entry_names r.entries) i.formula))
          ∙ neither (are_positive [] r.entries) (not (has Negated (entry_names r.entries) i.formula)) ∙ sym (ap not (positive_more [] r.entries e));
      place = subst (NegatedAt all) (sym b) (negated_more negated first made name all ws mid rest r few head n);
    }
  where
    either : (a b : Option ℕ) → is_some (first_of a b) ≡ (is_some a || is_some b)
    either None b = refl
    either (Some left) b = refl

    not_not : (t : Bool) → t ≡ not (not t)
    not_not true = refl
    not_not false = refl

    neither : (a b : Bool) → (not a || not b) ≡ not (a && b)
    neither true b = refl
    neither false b = refl

-- ---- faults in front of a formula

front_count : (negated : Option ℕ) (made : List Marked) (all : Words) (name : List ℕ) (ws : Words) (left : ℕ) (r : AreReadTo negated made all (name ∷ ws)) → left ≡ suc (length ws) → length r.front + left ≡ length all
front_count negated made all name ws left r e = let long = length-append r.front (name ∷ ws) in omega (arith, e, long, ap length r.parts)

pub head_at : (negated : Option ℕ) (made : List Marked) (n : ℕ) (name : List ℕ) (all ws : Words) (h : Halt) → begins_entry all ≡ true → AreReadTo negated made all (name ∷ ws) → n ≡ length made → HeadAt (names_of made) n name ws h → HaltsAt all h
head_at negated made n name all ws (halts.Twice left) first r count h = record {
  words = length r.front;
  sum = front_count negated made all name ws left r h.all_left;
  is = record {
    name = name;
    entries = r.entries;
    rest = ws;
    behind = record { front = r.front; parts = r.parts; count = refl; are = r.are };
    variable = h.variable;
    again = subst (λ (xs : Words). is_among xs name ≡ true) (names_to negated made all (name ∷ ws) r) h.again;
  };
}
head_at negated made n name all ws (halts.TooMany left) first r count h =
    let few = entries_few 64 [] r.front r.entries r.are in
    let made_count = count_to negated made all (name ∷ ws) r in
    record {
      words = length r.front;
      sum = front_count negated made all name ws left r h.all_left;
      is = record {
        name = name;
        entries = r.entries;
        rest = ws;
        behind = record { front = r.front; parts = r.parts; count = refl; are = r.are };
        all = omega (arith, few, made_count, count, h.many);
        variable = h.variable;
        new = subst (λ (xs : Words). is_among xs name ≡ false) (names_to negated made all (name ∷ ws) r) h.new;
      };
    }
head_at negated made n name all ws (halts.Syntax left) first r count (nameless v l) = record {
  words = length r.front;
  sum = front_count negated made all name ws left r l;
  is = no_name name r.entries (length r.front) ws first (record { front = r.front; parts = r.parts; count = refl; are = r.are }) v;
}
head_at negated made n name all ws (halts.Syntax left) first r count (signless v a few none l) = record {
  words = suc (length r.front);
  sum = omega (arith, front_count negated made all name ws (suc (length ws)) r refl, l);
  is = no_sign name r.entries (length r.front) ws first (record { front = r.front; parts = r.parts; count = refl; are = r.are }) v
      (subst (λ (xs : Words). is_among xs name ≡ false) (names_to negated made all (name ∷ ws) r) a) (omega (arith, few, count, count_to negated made all (name ∷ ws) r))
      (λ more e. let both : None ≡ some more = sym none ∙ ap (after_word (codes "=")) e ∙ word_next (codes "=") more in absurd cc);
}
head_at negated made n name all ws (halts.Unknown left) first r count h = absurd h
head_at negated made n name all ws (halts.TooDeep left) first r count h = absurd h
head_at negated made n name all ws (halts.Negated left) first r count h = absurd h
head_at negated made n name all ws halts.Memory first r count h = tt

-- ---- faults in a formula

pub item_at : (negated : Option ℕ) (made : List Marked) (name : List ℕ) (all ws mid : Words) (h : Halt) → AreReadTo negated made all (name ∷ ws) → length made < 64 → IsHead (names_of made) name ws mid → BodyAt true (names_of made) mid h → HaltsAt all h
item_at negated made name all ws mid (halts.Unknown left) r few head b =
    let count = mid_count negated made name all ws mid r head in
    record {
      words = length r.front + 2 + b.words;
      sum = omega (arith, b.sum, count);
      is = record {
        entries = r.entries;
        start = length r.front + 2;
        rest = mid;
        begins = begins_behind negated made name all ws mid r few head;
        front = b.words;
        first = subst (λ (xs : Words). first_unknown (mentions xs mid) ≡ Some b.words) (names_to negated made all (name ∷ ws) r) b.is;
        place = refl;
      };
    }
item_at negated made name all ws mid (halts.Syntax left) r few head b =
    let count = mid_count negated made name all ws mid r head in
    record {
      words = length r.front + 2 + b.words;
      sum = omega (arith, b.sum, count);
      is = no_formula r.entries (length r.front + 2) mid b.words (begins_behind negated made name all ws mid r few head) b.is.is
          (subst (λ (xs : Words). AreKnownTo xs mid b.words) (names_to negated made all (name ∷ ws) r) b.is.known);
    }
item_at negated made name all ws mid (halts.TooDeep left) r few head b =
    let count = mid_count negated made name all ws mid r head in
    record {
      words = length r.front + 2 + b.words;
      sum = omega (arith, b.sum, count);
      is = record {
        entries = r.entries;
        start = length r.front + 2;
        rest = mid;
        begins = begins_behind negated made name all ws mid r few head;
        front = b.words;
        deep = b.is.is;
        known = subst (λ (xs : Words). AreKnownTo xs mid b.words) (names_to negated made all (name ∷ ws) r) b.is.known;
        place = refl;
      };
    }
item_at negated made name all ws mid halts.Memory r few head b = tt
item_at negated made name all ws mid (halts.Twice left) r few head b = absurd b
item_at negated made name all ws mid (halts.TooMany left) r few head b = absurd b
item_at negated made name all ws mid (halts.Negated left) r few head b = absurd b

pub alone_at : (all : Words) (h : Halt) → begins_entry all ≡ false → BodyAt false [] all h → HaltsAt all h
alone_at all (halts.Unknown left) none b = record {
  words = b.words;
  sum = b.sum;
  is = record { entries = []; start = 0; rest = all; begins = alone none; front = b.words; first = b.is; place = omega arith };
}
alone_at all (halts.Syntax left) none b = record { words = 0 + b.words; sum = omega (arith, b.sum); is = no_formula [] 0 all b.words (alone none) b.is.is b.is.known }
alone_at all (halts.TooDeep left) none b = record {
  words = b.words;
  sum = b.sum;
  is = record { entries = []; start = 0; rest = all; begins = alone none; front = b.words; deep = b.is.is; known = b.is.known; place = omega arith };
}
alone_at all halts.Memory none b = tt
alone_at all (halts.Twice left) none b = absurd b
alone_at all (halts.TooMany left) none b = absurd b
alone_at all (halts.Negated left) none b = absurd b

pub alone_negated : (all : Words) (negated : Option ℕ) → begins_entry all ≡ false → NegatedIn [] all [] negated → NegatedAt all negated
alone_negated all None none n = tt
alone_negated all (Some left) none n = record {
  words = n.words;
  sum = n.sum;
  is = record { entries = []; start = 0; rest = all; begins = alone none; positive = refl; behind = []; ends = refl; front = n.words; is = n.is; place = omega arith };
}

-- ---- results

pub ok_more : {A E : Type 0} (r : Result A E) (P Q : A → Type 0) → ((a : A) → P a → Q a) → IfOk r P → IfOk r Q
ok_more (Ok a) P Q f p = f a p
ok_more (Err e) P Q f p = p

pub err_more : {A E : Type 0} (r : Result A E) (P Q : E → Type 0) → ((e : E) → P e → Q e) → IfErr r P → IfErr r Q
err_more (Ok a) P Q f p = p
err_more (Err e) P Q f p = f e p
