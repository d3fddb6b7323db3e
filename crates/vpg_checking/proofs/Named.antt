-- The names of entries differ, so each leads to the vertex of its own.
use Rattle.std.proofs.Common.{◌≡◌, ℕ, zero, suc, ◌<◌, Bool, true, false, List, [], ◌∷◌, ◌++◌, length, get_or, bytes_eq, Some, refl, sym, subst, ◌∙◌, ap, append_assoc, arith}
use Rattle.std.specs.Prelude.{◌||◌}
use Rattle.std.proofs.lemmas.List.Folds.{list_any-append}
use Rattle.std.proofs.lemmas.Slice.Eq.{bytes_eq-Decides}
use Rattle.vpg_formula.specs.Words.{words_of}
use Rattle.vpg_formula.specs.Standings.{is_among}
use Rattle.vpg_formula.specs.Requirements.{Entry, AreEntries, no_entry, entry, SpellsEntries, alone, several, lone_entry, SpellsRequirements, marked, names_of}
use Rattle.vpg_checking.specs.Checking.{entry_at, vertex_named, AreNamed}

or_left : (a b : Bool) → a || b ≡ false → a ≡ false
or_left true b e = e
or_left false b e = refl

or_right : (a b : Bool) → a || b ≡ false → b ≡ false
or_right true b e = absurd cc
or_right false b e = e

-- a name that is none of these is not the one among them
not_among : (us vs : List (List ℕ)) (x name : List ℕ) → is_among (us ++ x ∷ vs) name ≡ false → bytes_eq x name ≡ false
not_among us vs x name e = or_left (bytes_eq x name) (is_among vs name) (or_right (is_among us name) (is_among (x ∷ vs) name) (sym (list_any-append (λ y. bytes_eq y name) us (x ∷ vs)) ∙ e))

-- an entry has none of the earlier names
apart : (n : ℕ) (earlier ws : List (List ℕ)) (entries : List Entry) → AreEntries n earlier ws entries → (us vs : List (List ℕ)) (x : List ℕ) → earlier ≡ us ++ x ∷ vs → (k : ℕ) → k < length entries → bytes_eq x (entry_at entries k).name ≡ false
apart n earlier ws entries no_entry us vs x e k l = absurd (omega (arith, l))
apart n earlier ws entries (entry name fs rest p later v a f known h) us vs x e zero l = not_among us vs x name (subst (λ (ns : List (List ℕ)). is_among ns name ≡ false) e a)
apart n earlier ws entries (entry name fs rest p later v a f known h) us vs x e (suc k) l = apart _ _ _ later h us (vs ++ name ∷ []) x (ap (λ (ns : List (List ℕ)). ns ++ name ∷ []) e ∙ append_assoc us (x ∷ vs) (name ∷ [])) k (omega (arith, l))

found_first : (x : List ℕ) (names : List (List ℕ)) (v : ℕ) (roots : List ℕ) → vertex_named (x ∷ names) (v ∷ roots) x ≡ Some v
found_first x names v roots = rw ((bytes_eq-Decides x x).1 refl) refl

found_later : (x name : List ℕ) (names : List (List ℕ)) (v : ℕ) (roots : List ℕ) (w : ℕ) → bytes_eq x name ≡ false → vertex_named names roots name ≡ Some w → vertex_named (x ∷ names) (v ∷ roots) name ≡ Some w
found_later x name names v roots w e h = rw e h

each_named : (n : ℕ) (earlier ws : List (List ℕ)) (entries : List Entry) (roots : List ℕ) → AreEntries n earlier ws entries → length roots ≡ length entries → (k : ℕ) → k < length entries →
    vertex_named (names_of (marked entries)) roots (entry_at entries k).name ≡ Some (get_or roots k 0)
each_named n earlier ws entries roots no_entry same k l = absurd (omega (arith, l))
each_named n earlier ws entries [] (entry name fs rest p later v a f known h) same k l = absurd (omega (arith, same))
each_named n earlier ws entries (r ∷ roots) (entry name fs rest p later v a f known h) same zero l = found_first name (names_of (marked later)) r roots
each_named n earlier ws entries (r ∷ roots) (entry name fs rest p later v a f known h) same (suc k) l = found_later name (entry_at later k).name (names_of (marked later)) r roots (get_or roots k 0)
    (apart _ _ _ later h earlier [] name refl k (omega (arith, l))) (each_named _ _ _ later roots h (omega (arith, same)) k (omega (arith, l)))

spelled_named : (text : List ℕ) (entries : List Entry) (roots : List ℕ) → SpellsEntries text entries → length roots ≡ length entries → AreNamed entries (names_of (marked entries)) roots
spelled_named text entries [] (alone p b f known) same k l = absurd (omega (arith, same))
spelled_named text entries (r ∷ roots) (alone p b f known) same zero l = found_first (lone_entry p.written).name [] r roots
spelled_named text entries (r ∷ roots) (alone p b f known) same (suc k) l = absurd (omega (arith, l))
spelled_named text entries roots (several es b h) same k l = each_named 64 [] (words_of text) es roots h same k l

pub are_named : (text : List ℕ) (entries : List Entry) (roots : List ℕ) → SpellsRequirements text entries → length roots ≡ length entries → AreNamed entries (names_of (marked entries)) roots
are_named text entries roots spelled same = spelled_named text entries roots spelled.spelled same
