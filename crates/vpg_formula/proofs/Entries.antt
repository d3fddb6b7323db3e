-- Entries are read as they are spelled, both ways.
use Rattle.std.proofs.Common.{◌≡◌, ℕ, zero, suc, Bool, true, false, cond, List, [], ◌∷◌, ◌++◌, Option, Some, None, refl, sym, ap, subst, ◌∙◌}
use Rattle.std.specs.Prelude.{codes}
use Rattle.vpg_formula.specs.Words.{words_of}
use Rattle.vpg_formula.specs.Written.{Phrase, is_variable}
use Rattle.vpg_formula.specs.FormulaGrammar.{a_formula, IsFormula}
use Rattle.vpg_formula.specs.Standings.{is_among, has}
use Rattle.vpg_formula.specs.Requirements.{Entry, AreEntries, no_entry, entry, begins_entry, lone_entry, SpellsEntries, alone, several}
use Rattle.vpg_formula.specs.Reading.{◌>>=◌, after_word, phrase_at, if_last}
use Rattle.vpg_formula.specs.EntryReading.{if_known, body_at, entry_behind, new_entry, entry_at, entries_at, lone_at, requirements_at}
use Rattle.vpg_formula.specs.declared.uses.Standing.TheVariants.{Unknown}
use Rattle.vpg_formula.proofs.Series.{bind_some, some, some_is, word_behind, word_next}
use Rattle.vpg_formula.proofs.Regulars.{if_last_is}
use Rattle.vpg_formula.proofs.Phrases.{EndsFormula, phrase_found, formula_again}
use Rattle.std.proofs.lemmas.List.{append-nil}

abbrev Words : Type 0
Words = List (List ℕ)

-- ---- what is read is spelled so

-- what is found of a formula
pub record OneBody (earlier : Words) (ws : Words) (y : Phrase × Words) : Type 0 where
  pub us : Words
  pub formula : IsFormula 64 us y.0
  pub parts : ws ≡ us ++ y.1
  pub known : has Unknown earlier y.0.written ≡ false

pub body_found : (earlier ws : Words) (y : Phrase × Words) → body_at earlier ws ≡ Some y → OneBody earlier ws y
body_found earlier ws y e =
    let h = bind_some (phrase_at a_formula 64 ws) (if_known earlier) y e in
    go h.0 h.1 (has Unknown earlier h.0.0.written) refl h.2
  where
    go : (p : Phrase × Words) → phrase_at a_formula 64 ws ≡ Some p → (t : Bool) → has Unknown earlier p.0.written ≡ t → cond t None (Some p) ≡ Some y → OneBody earlier ws y
    go p f true k g = absurd cc
    go p f false k g =
        let i = phrase_found a_formula 64 ws p f in
        subst (OneBody earlier ws) (some_is p y g) (record { us = i.0; formula = i.1; parts = i.2; known = k })

-- what is found of one entry
record OneEntry (earlier : Words) (name : List ℕ) (ws : Words) (e : Entry × Words) : Type 0 where
  us : Words
  phrase : Phrase
  formula : IsFormula 64 us phrase
  known : has Unknown earlier phrase.written ≡ false
  parts : ws ≡ codes "=" ∷ (us ++ codes ";" ∷ e.1)
  is : e.0 ≡ record { name = name; formula = phrase.written }

one_found : (earlier : Words) (name : List ℕ) (ws : Words) (e : Entry × Words) → entry_behind earlier name ws ≡ Some e → OneEntry earlier name ws e
one_found earlier name ws e f =
    let h = bind_some (after_word (codes "=") ws) (λ rest. body_at earlier rest >>= λ p. after_word (codes ";") p.1 >>= λ left. Some (record { name = name; formula = p.0.written }, left)) e f in
    let j = bind_some (body_at earlier h.0) (λ p. after_word (codes ";") p.1 >>= λ left. Some (record { name = name; formula = p.0.written }, left)) e h.2 in
    let k = bind_some (after_word (codes ";") j.0.1) (λ left. Some (record { name = name; formula = j.0.0.written }, left)) e j.2 in
    let i = body_found earlier h.0 j.0 j.1 in
    let this : Entry = record { name = name; formula = j.0.0.written } in
    let same : (this, k.0) ≡ e = some_is (this, k.0) e k.2 in
    record {
      us = i.us;
      phrase = j.0.0;
      formula = i.formula;
      known = i.known;
      parts = word_behind (codes "=") ws h.0 h.1 ∙ ap (λ (t : Words). codes "=" ∷ t) (i.parts ∙ ap (λ (t : Words). i.us ++ t) (word_behind (codes ";") j.0.1 k.0 k.1 ∙ ap (λ (p : Entry × Words). codes ";" ∷ p.1) same));
      is = ap (λ (p : Entry × Words). p.0) (sym same);
    }

pub entries_found : (n : ℕ) (earlier ws : Words) (entries : List Entry) → entries_at n earlier ws ≡ Some entries → AreEntries n earlier ws entries
unfolding entries_at
entries_found n earlier [] entries e = subst (AreEntries n earlier []) (some_is [] entries e) no_entry
entries_found zero earlier (w ∷ ws) entries e = absurd cc
entries_found (suc n) earlier (w ∷ ws) entries e =
    let h = bind_some (entry_at earlier (w ∷ ws)) (λ e. entries_at n (earlier ++ e.0.name ∷ []) e.1 >>= λ entries. Some (e.0 ∷ entries)) entries e in
    let j = bind_some (entries_at n (earlier ++ h.0.0.name ∷ []) h.0.1) (λ entries. Some (h.0.0 ∷ entries)) entries h.2 in
    go (is_variable w) refl h.0 h.1 j.0 (entries_found n (earlier ++ h.0.0.name ∷ []) h.0.1 j.0 j.1) (some_is (h.0.0 ∷ j.0) entries j.2)
  where
    new : (t : Bool) → is_among earlier w ≡ t → is_variable w ≡ true → (e : Entry × Words) → cond t None (entry_behind earlier w ws) ≡ Some e → (later : List Entry) → AreEntries n (earlier ++ e.0.name ∷ []) e.1 later → e.0 ∷ later ≡ entries
        → AreEntries (suc n) earlier (w ∷ ws) entries
    new true a v e f later i same = absurd cc
    new false a v e f later i same =
        let o = one_found earlier w ws e f in
        subst (AreEntries (suc n) earlier (w ∷ ws)) (ap (λ (x : Entry). x ∷ later) (sym o.is) ∙ same)
        (subst (λ (t : Words). AreEntries (suc n) earlier (w ∷ t) (record { name = w; formula = o.phrase.written } ∷ later)) (sym o.parts)
        (entry w o.us e.1 o.phrase later v a o.formula o.known (subst (λ (x : Entry). AreEntries n (earlier ++ x.name ∷ []) e.1 later) o.is i)))

    go : (t : Bool) → is_variable w ≡ t → (e : Entry × Words) → cond t (new_entry earlier w ws) None ≡ Some e → (later : List Entry) → AreEntries n (earlier ++ e.0.name ∷ []) e.1 later → e.0 ∷ later ≡ entries
        → AreEntries (suc n) earlier (w ∷ ws) entries
    go false v e f later i same = absurd cc
    go true v e f later i same = new (is_among earlier w) refl v e f later i same

lone_found : (text : List ℕ) (entries : List Entry) → begins_entry (words_of text) ≡ false → lone_at (words_of text) ≡ Some entries → SpellsEntries text entries
lone_found text entries b e =
    let h = bind_some (body_at [] (words_of text)) (λ p. if_last (lone_entry p.0.written ∷ []) p.1) entries e in
    let i = body_found [] (words_of text) h.0 h.1 in
    let last = if_last_is (lone_entry h.0.0.written ∷ []) entries h.0.1 h.2 in
    let all : i.us ≡ words_of text = sym (i.parts ∙ ap (λ (t : Words). i.us ++ t) last.0 ∙ append-nil i.us) in
    subst (SpellsEntries text) last.1 (alone h.0.0 b (subst (λ (t : Words). IsFormula 64 t h.0.0) all i.formula) i.known)

pub requirements_found : (text : List ℕ) (entries : List Entry) → requirements_at (words_of text) ≡ Some entries → SpellsEntries text entries
requirements_found text entries e = go (begins_entry (words_of text)) refl e
  where
    go : (t : Bool) → begins_entry (words_of text) ≡ t → cond t (entries_at 64 [] (words_of text)) (lone_at (words_of text)) ≡ Some entries → SpellsEntries text entries
    go true b e = several entries b (entries_found 64 [] (words_of text) entries e)
    go false b e = lone_found text entries b e

-- ---- what is spelled so is read

ends_entry : (rest : Words) → EndsFormula (codes ";" ∷ rest)
ends_entry rest = record { all = refl; any = refl; implies = refl }

ends_text : EndsFormula []
ends_text = record { all = refl; any = refl; implies = refl }

body_again : (earlier us rest : Words) (p : Phrase) → IsFormula 64 us p → has Unknown earlier p.written ≡ false → EndsFormula rest → body_at earlier (us ++ rest) ≡ Some (p, rest)
body_again earlier us rest p i k ends =
    ap (λ (o : Option (Phrase × Words)). o >>= if_known earlier) (formula_again 64 us rest p i ends) ∙ ap (λ (t : Bool). cond t None (some (p, rest))) k

with_left : List ℕ → Phrase → Words → Option (Entry × Words)
with_left name p left = Some (record { name = name; formula = p.written }, left)

pub entry_again : (earlier : Words) (name : List ℕ) (us ws : Words) (p : Phrase) → is_variable name ≡ true → is_among earlier name ≡ false → IsFormula 64 us p → has Unknown earlier p.written ≡ false
    → entry_at earlier (name ∷ codes "=" ∷ (us ++ codes ";" ∷ ws)) ≡ Some (record { name = name; formula = p.written }, ws)
unfolding with_left
entry_again earlier name us ws p v a i k =
    ap (λ (t : Bool). cond t (new_entry earlier name (codes "=" ∷ (us ++ codes ";" ∷ ws))) None) v
    ∙ ap (λ (t : Bool). cond t None (entry_behind earlier name (codes "=" ∷ (us ++ codes ";" ∷ ws)))) a
    ∙ ap (λ (o : Option Words). o >>= λ rest. body_at earlier rest >>= λ p. after_word (codes ";") p.1 >>= λ left. with_left name p.0 left) (word_next (codes "=") (us ++ codes ";" ∷ ws))
    ∙ ap (λ (o : Option (Phrase × Words)). o >>= λ p. after_word (codes ";") p.1 >>= λ left. with_left name p.0 left) (body_again earlier us (codes ";" ∷ ws) p i k (ends_entry ws))
    ∙ ap (λ (o : Option Words). o >>= λ left. with_left name p left) (word_next (codes ";") ws)

pub entries_again : (n : ℕ) (earlier ws : Words) (entries : List Entry) → AreEntries n earlier ws entries → entries_at n earlier ws ≡ Some entries
unfolding entries_at
entries_again n earlier ws entries no_entry = refl
entries_again n earlier ws all (entry {n = m} name us rest p entries v a i k later) =
    ap (λ (o : Option (Entry × Words)). o >>= λ e. entries_at m (earlier ++ e.0.name ∷ []) e.1 >>= λ entries. some (e.0 ∷ entries)) (entry_again earlier name us rest p v a i k)
    ∙ ap (λ (o : Option (List Entry)). o >>= λ entries. some (record { name = name; formula = p.written } ∷ entries)) (entries_again m (earlier ++ name ∷ []) rest entries later)

pub requirements_again : (text : List ℕ) (entries : List Entry) → SpellsEntries text entries → requirements_at (words_of text) ≡ Some entries
requirements_again text entries (alone p b i k) =
    ap (λ (t : Bool). cond t (entries_at 64 [] (words_of text)) (lone_at (words_of text))) b
    ∙ ap (λ (o : Option (Phrase × Words)). o >>= λ p. if_last (lone_entry p.0.written ∷ []) p.1)
    (ap (body_at []) (sym (append-nil (words_of text))) ∙ body_again [] (words_of text) [] p i k ends_text)
requirements_again text all (several entries b i) =
    ap (λ (t : Bool). cond t (entries_at 64 [] (words_of text)) (lone_at (words_of text))) b
    ∙ entries_again 64 [] (words_of text) entries i
