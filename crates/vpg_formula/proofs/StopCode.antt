-- Where the words of a formula stop, as the code finds it.
use Rattle.std.proofs.Common.{◌≡◌, ℕ, suc, ◌+◌, ◌≤◌, Bool, true, false, cond, List, [], ◌∷◌, ◌++◌, map, length, Option, Some, None, refl, sym, ap, subst, ◌∙◌, arith}
use Rattle.std.specs.Prelude.{codes, bytes_eq, nat_le, not, ◌||◌, ◌==◌}
use Rattle.std.specs.Borrow.{Bor}
use Rattle.vpg_formula.specs.ReadCode.{texts}
use Rattle.vpg_formula.proofs.RegularCode.{texts_length}
use Rattle.std.specs.List.{list_any}
use Rattle.std.proofs.lemmas.Bool.{leb-true}
use Rattle.std.proofs.lemmas.List.{length-append}
use Rattle.vpg_formula.specs.Written.{Phrase}
use Rattle.vpg_formula.specs.FormulaGrammar.{a_formula, IsFormula}
use Rattle.vpg_formula.specs.Standings.{nothing_around, uses, is_like, has}
use Rattle.vpg_formula.specs.Reading.{after_word, phrase_at}
use Rattle.vpg_formula.specs.EntryReading.{if_known}
use Rattle.vpg_formula.specs.EntryCode.{IsBody}
use Rattle.vpg_formula.specs.Naming.{Spot, at_first, known_at, behind, Mention, mention, mentions_from, first_unknown}
use Rattle.vpg_formula.specs.NamingCode.{left_mentions}
use Rattle.vpg_formula.specs.Needs.{formula_way}
use Rattle.vpg_formula.specs.NeedsCode.{way_of}
use Rattle.vpg_formula.specs.Stops.{ends_formula, IsStuckAt}
use Rattle.vpg_formula.specs.Faults.{AreKnownTo}
use Rattle.vpg_formula.specs.FaultCode.{IsLeft, IsStopped, BodyAt, WayAt}
use Rattle.vpg_formula.specs.declared.mark.Mark.{Mark}
use Rattle.vpg_formula.specs.declared.needs.Way.{Way}
use Rattle.vpg_formula.specs.declared.needs.Way.TheVariants as ways
use Rattle.vpg_formula.specs.declared.stop.Halt.{Halt}
use Rattle.vpg_formula.specs.declared.stop.Halt.TheVariants as halts
use Rattle.vpg_formula.specs.declared.uses.Standing.{Standing}
use Rattle.vpg_formula.specs.declared.uses.Standing.TheVariants.{Unknown}
use Rattle.vpg_formula.proofs.Series.{bind_some, some, some_is}
use Rattle.vpg_formula.proofs.NamingCode.{Told, told_rest, formula_flags, known_of}
use Rattle.vpg_formula.proofs.Phrases.{phrase_found}
use Rattle.vpg_formula.proofs.Stopping.{halted_at, deep_at, behind_formula, never_done}

abbrev Words : Type 0
Words = List (List ℕ)

-- ---- names in front of a stop

-- no name is found in front of where the search begins
late : (earlier : Words) (s : Spot) (k : ℕ) (ws : Words) (u : ℕ) → first_unknown (mentions_from earlier s k ws) ≡ Some u → k ≤ u
late earlier s k [] u e = absurd cc
late earlier s k (w ∷ ws) u e = go (known_at earlier s w) e (λ f. late earlier (behind s w) (suc k) ws u f)
  where
    go : (o : Option Bool) → first_unknown (mention o k (mentions_from earlier (behind s w) (suc k) ws)) ≡ Some u → (first_unknown (mentions_from earlier (behind s w) (suc k) ws) ≡ Some u → suc k ≤ u) → k ≤ u
    go None e so = let l = so e in omega (arith, l)
    go (Some true) e so = let l = so e in omega (arith, l)
    go (Some false) e so = let same : k ≡ u = some_is k u e in omega (arith, same)

-- where none is found up to some word, the first stands behind that
none_left : (earlier : Words) (s : Spot) (end k : ℕ) (ws : Words) (u : ℕ) → first_unknown (left_mentions earlier s end ws) ≡ None → first_unknown (mentions_from earlier s k ws) ≡ Some u → length ws + k ≤ u + end
none_left earlier s end k [] u n e = absurd cc
none_left earlier s end k (w ∷ ws) u n e = cut (nat_le (suc (length ws)) end) refl n (late earlier s k (w ∷ ws) u e) (λ m f. none_left earlier (behind s w) end (suc k) ws u m f) e
  where
    go : (o : Option Bool) → first_unknown (mention o (suc (length ws)) (left_mentions earlier (behind s w) end ws)) ≡ None
        → (first_unknown (left_mentions earlier (behind s w) end ws) ≡ None → first_unknown (mentions_from earlier (behind s w) (suc k) ws) ≡ Some u → length ws + suc k ≤ u + end)
        → first_unknown (mention o k (mentions_from earlier (behind s w) (suc k) ws)) ≡ Some u → suc (length ws) + k ≤ u + end
    go None n so e = let l = so n e in omega (arith, l)
    go (Some true) n so e = let l = so n e in omega (arith, l)
    go (Some false) n so e = absurd cc

    cut : (t : Bool) → nat_le (suc (length ws)) end ≡ t → first_unknown (cond t [] (mention (known_at earlier s w) (suc (length ws)) (left_mentions earlier (behind s w) end ws))) ≡ None → k ≤ u
        → (first_unknown (left_mentions earlier (behind s w) end ws) ≡ None → first_unknown (mentions_from earlier (behind s w) (suc k) ws) ≡ Some u → length ws + suc k ≤ u + end)
        → first_unknown (mention (known_at earlier s w) k (mentions_from earlier (behind s w) (suc k) ws)) ≡ Some u → suc (length ws) + k ≤ u + end
    cut true is n l so e = let few : suc (length ws) ≤ end = leb-true (suc (length ws)) end is in omega (arith, few, l)
    cut false is n l so e = go (known_at earlier s w) n so e

known_to : (earlier ws : Words) (left k : ℕ) → first_unknown (left_mentions earlier at_first left ws) ≡ None → k + left ≡ length ws → AreKnownTo earlier ws k
known_to earlier ws left k n e u f = let l = none_left earlier at_first left 0 ws u n f in omega (arith, l, e)

all_told : (ms : List Mention) (ss : List Standing) → Told ms ss → list_any (is_like Unknown) ss ≡ false → first_unknown ms ≡ None
all_told [] ss t n = refl
all_told (m ∷ ms) [] t n = absurd cc
all_told ((k, known) ∷ ms) (s ∷ ss) t n = let h = told_rest (k, known) ms s ss t in go known (is_like Unknown s) h.0 n (λ m. all_told ms ss h.1 m)
  where
    go : (known t : Bool) → known ≡ not t → (t || list_any (is_like Unknown) ss) ≡ false → (list_any (is_like Unknown) ss ≡ false → first_unknown ms ≡ None) → first_unknown ((k, known) ∷ ms) ≡ None
    go true t e n so = so (rest t n)
      where
        rest : (t : Bool) → (t || list_any (is_like Unknown) ss) ≡ false → list_any (is_like Unknown) ss ≡ false
        rest true n = absurd cc
        rest false n = n
    go false true e n so = absurd cc
    go false false e n so = absurd cc

-- the names of a formula that are known
formula_known : (earlier ws us rest : Words) (p : Phrase) → IsFormula 64 us p → ws ≡ us ++ rest → has Unknown earlier p.written ≡ false → AreKnownTo earlier ws (length us)
formula_known earlier ws us rest p i parts k =
    let told = ap (λ (t : Words). map known_of (left_mentions earlier at_first (length rest) t)) parts ∙ formula_flags earlier us rest p i in
    let long = length-append us rest in
    known_to earlier ws (length rest) (length us) (all_told (left_mentions earlier at_first (length rest) ws) (uses earlier nothing_around p.written) told k) (omega (arith, ap length parts, long))

-- ---- where a formula stops

pub way_stops : (earlier ws : Words) (left : ℕ) (h : Halt) → WayAt ws left h → first_unknown (left_mentions earlier at_first left ws) ≡ None → (in_entry : Bool) → BodyAt in_entry earlier ws h
way_stops earlier ws left (halts.Syntax stop) e n in_entry =
    let i = halted_at in_entry ws left e.1 in
    record { words = i.words; sum = omega (arith, i.sum_is, e.0); is = record { is = i.is; known = known_to earlier ws left i.words n i.sum_is } }
way_stops earlier ws left (halts.TooDeep stop) e n in_entry =
    let i = deep_at ws left e.1 in
    record { words = i.words; sum = omega (arith, i.sum_is, e.0); is = record { is = i.is; known = known_to earlier ws left i.words n i.sum_is } }
way_stops earlier ws left halts.Memory e n in_entry = absurd e
way_stops earlier ws left (halts.Unknown stop) e n in_entry = absurd e
way_stops earlier ws left (halts.Twice stop) e n in_entry = absurd e
way_stops earlier ws left (halts.TooMany stop) e n in_entry = absurd e
way_stops earlier ws left (halts.Negated stop) e n in_entry = absurd e

-- behind a formula that is read comes what ends none
pub body_stops : (in_entry : Bool) (earlier ws rest : Words) (negated : Option ℕ) (marks : List Mark) (left : ℕ) → IsBody earlier negated marks ws rest → ends_formula in_entry rest ≡ false → left ≡ length rest
    → IsLeft ws left (IsStopped earlier ws (IsStuckAt in_entry ws))
body_stops in_entry earlier ws rest negated marks left b ends l = go (bind_some (phrase_at a_formula 64 ws) (if_known earlier) (b.phrase, rest) b.is)
  where
    go : (y : Phrase × Words) × (phrase_at a_formula 64 ws ≡ Some y) × (if_known earlier y ≡ Some (b.phrase, rest)) → IsLeft ws left (IsStopped earlier ws (IsStuckAt in_entry ws))
    go (y, e, f) = known (has Unknown earlier y.0.written) refl f
      where
        known : (t : Bool) → has Unknown earlier y.0.written ≡ t → cond t None (some y) ≡ Some (b.phrase, rest) → IsLeft ws left (IsStopped earlier ws (IsStuckAt in_entry ws))
        known true k f = absurd cc
        known false k f =
            let same : y.1 ≡ rest = ap (λ (p : Phrase × Words). p.1) (some_is y (b.phrase, rest) f) in
            let i = behind_formula in_entry ws y.1 y.0 e (ap (ends_formula in_entry) same ∙ ends) in
            let found = phrase_found a_formula 64 ws y e in
            let long = length-append found.0 y.1 in
            let count : i.words ≡ length found.0 = omega (arith, i.sum_is, ap length found.2, long) in
            record {
              words = i.words;
              sum = omega (arith, i.sum_is, ap length same, l);
              is = record { is = i.is; known = subst (AreKnownTo earlier ws) (sym count) (formula_known earlier ws found.0 y.1 y.0 found.1 found.2 k) };
            }

pub no_semicolon : (rest : Words) → after_word (codes ";") rest ≡ None → ends_formula true rest ≡ false
no_semicolon [] e = refl
no_semicolon (w ∷ ws) e = go (bytes_eq w (codes ";")) e
  where
    go : (t : Bool) → cond t (some ws) None ≡ None → t ≡ false
    go true e = absurd cc
    go false e = refl

-- behind a formula alone
pub alone_behind : (earlier ws : Words) (rest : List (Bor (List ℕ))) (negated : Option ℕ) (marks : List Mark) (is_empty : Bool) → IsBody earlier negated marks ws (texts rest) → is_empty ≡ (length rest == 0) → is_empty ≡ false
    → IsLeft ws (length rest) (IsStopped earlier ws (IsStuckAt false ws))
alone_behind earlier ws rest negated marks is_empty b e n = body_stops false earlier ws (texts rest) negated marks (length rest) b (some_left rest (sym e ∙ n)) (sym (texts_length rest))
  where
    some_left : (rest : List (Bor (List ℕ))) → (length rest == 0) ≡ false → ends_formula false (texts rest) ≡ false
    some_left [] n = absurd cc
    some_left (w ∷ ws) n = refl

-- what is done is a formula
pub none_done : (ws : Words) (left : ℕ) (w : Way) → phrase_at a_formula 64 ws ≡ None → way_of w ≡ formula_way 64 ws → w ≡ ways.Done left → ⊥
none_done ws left w none e f = never_done ws left none (sym e ∙ ap way_of f)
