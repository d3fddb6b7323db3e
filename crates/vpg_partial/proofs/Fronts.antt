-- Tables and conflicts of a diagram's lines.
use Rattle.std.proofs.Common.{◌≡◌, ℕ, zero, suc, ◌+◌, ◌<◌, ◌≤◌, List, [], ◌∷◌, length, map, take, Result, Err, IfErr, IsSomeAnd, slice_get, Contains, ◌⊎◌, inl, inr, sym, subst, arith}
use Rattle.std.specs.List.{AllByRecursion}
use Rattle.vpg_guards.specs.declared.tri.Tri.{Tri}
use Rattle.vpg_diagram.specs.declared.clause.Literal.{Literal}
use Rattle.vpg_diagram.specs.FeatureDiagram.{Line, IsDiagram, feature_count}
use Rattle.vpg_diagram.specs.Tally.{Tally}
use Rattle.vpg_diagram.specs.Clauses.{clauses_of, counts_of}
use Rattle.vpg_diagram.proofs.Lists.{Contains-here, Contains-there, Contains-cons, Contains-nil, All-unmap}
use Rattle.vpg_diagram.proofs.ProductLemmas.{lines_from_product}
use Rattle.vpg_diagram.proofs.FormulaLemmas.{formula_from_lines}
use Rattle.vpg_partial.specs.Known.{NamesConflict, literal_of}
use Rattle.vpg_partial.specs.KnownTable.{IsClosedTable, IsTableOfKnown}
use Rattle.vpg_partial.specs.TableLaws.{AreAmong, AreChoicesOf, IsKnownTable}
use Rattle.vpg_partial.specs.CloseFaults.{IsCloseFault, IsShortestConflict, LeavesNoProduct}
use Rattle.vpg_partial.specs.Stops.{IsFaultOf}
use Rattle.vpg_partial.specs.declared.decision.Decision.{Decision}
use Rattle.vpg_partial.specs.declared.fault.PartialFault.{PartialFault}
use Rattle.vpg_partial.specs.declared.fault.PartialFault.TheVariants.{Conflict, Memory}
use Rattle.vpg_partial.proofs.KnownLemmas.{no_set_with_conflict}
use Rattle.vpg_partial.proofs.CloseLemmas.{table_of_known}
use Rattle.vpg_partial.proofs.Tables.{conflicts_stay}

pub table_of_lines : (lines : List Line) (choices : List Literal) (clauses : List (List Literal)) (counts : List Tally) (n : ℕ) (known shown : List Tri) → clauses ≡ clauses_of lines → counts ≡ counts_of lines →
    n ≡ feature_count lines → shown ≡ known → IsClosedTable clauses counts choices n known → IsKnownTable lines choices shown
table_of_lines lines choices clauses counts n known shown a b c d t =
    subst (λ (k : List Tri). IsKnownTable lines choices k) (sym d)
    (subst (λ (m : ℕ). IsTableOfKnown (clauses_of lines) (counts_of lines) choices m known) c
    (subst (λ (ns : List Tally). IsTableOfKnown (clauses_of lines) ns choices n known) b
    (subst (λ (cs : List (List Literal)). IsTableOfKnown cs counts choices n known) a (table_of_known clauses counts choices n known t))))

pub fault_of_lines : (lines : List Line) (choices : List Literal) (clauses : List (List Literal)) (counts : List Tally) (fault : PartialFault) → clauses ≡ clauses_of lines → counts ≡ counts_of lines →
    IsFaultOf clauses counts choices fault → IsCloseFault lines choices fault
fault_of_lines lines choices clauses counts (Conflict f) a b h =
    subst (λ (ns : List Tally). NamesConflict (clauses_of lines) ns choices f) b (subst (λ (cs : List (List Literal)). NamesConflict cs counts choices f) a h)
fault_of_lines lines choices clauses counts Memory a b h = tt

pub if_err_from : {T : Type 0} (r : Result T PartialFault) (P : PartialFault → Type 0) (x y : PartialFault) → r ≡ Err y → y ≡ x → P x → IfErr r P
if_err_from {T} r P x y e q p = subst (λ (s : Result T PartialFault). IfErr s P) (sym e) (subst P (sym q) p)

pub decisions_below : (lines : List Line) (decisions : List Decision) (n : ℕ) → n ≡ feature_count lines → AreChoicesOf lines (map literal_of decisions) → AllByRecursion (λ d. d.feature < n) decisions
decisions_below lines decisions n e a =
    subst (λ (m : ℕ). AllByRecursion (λ (d : Decision). d.feature < m) decisions) (sym e) (All-unmap (λ (l : Literal). l.feature < feature_count lines) literal_of decisions a)

-- ---- fronts

take_within : (xs : List Literal) (few many : ℕ) → few ≤ many → AreAmong (take few xs) (take many xs)
take_within xs zero many l c h = absurd (Contains-nil c h)
take_within [] (suc few) many l c h = absurd (Contains-nil c h)
take_within (x ∷ xs) (suc few) zero l c h = absurd (omega (arith, l))
take_within (x ∷ xs) (suc few) (suc many) l c h = go (Contains-cons x (take few xs) c h) (take_within xs few many (omega (arith, l)) c)
  where
    go : (x ≡ c) ⊎ Contains (take few xs) c → (Contains (take few xs) c → Contains (take many xs) c) → Contains (x ∷ take many xs) c
    go (inl e) f = subst (λ (y : Literal). Contains (x ∷ take many xs) y) e (Contains-here x (take many xs))
    go (inr k) f = Contains-there x (take many xs) c (f k)

place_within : (xs : List Literal) (place f : ℕ) → IsSomeAnd (slice_get xs place) (λ d. d.feature ≡ f) → place < length xs
place_within [] place f h = absurd h
place_within (x ∷ xs) zero f h = omega arith
place_within (x ∷ xs) (suc place) f h = omega (arith, place_within xs place f h)

-- the front that names a conflict is the shortest that has one
shortest : (lines : List Line) (choices : List Literal) (f : ℕ) → NamesConflict (clauses_of lines) (counts_of lines) choices f → (front : ℕ) × IsShortestConflict lines choices front
shortest lines choices f (inl c) = (0, record { within = omega arith; conflict = c.0; shorter = λ fewer l h. absurd (omega (arith, l)) })
shortest lines choices f (inr c) =
    let place = c.0 in (
      place + 1,
      record {
        within = let l : place < length choices = place_within choices place f c.3 in omega (arith, l);
        conflict = c.2;
        shorter = λ fewer l h. c.1 (conflicts_stay lines (take fewer choices) (take place choices) (take_within choices fewer place (omega (arith, l))) h);
      },
    )

pub leaves_no_product : (lines : List Line) (choices : List Literal) (fault : PartialFault) → IsDiagram lines → IsCloseFault lines choices fault → LeavesNoProduct lines choices fault
leaves_no_product lines choices (Conflict f) ok h =
    let s = shortest lines choices f h in
    (s.0, s.1, λ features r. no_set_with_conflict (clauses_of lines) (counts_of lines) (take s.0 choices) features (formula_from_lines lines features (lines_from_product lines features ok r.product)) r.agrees s.1.conflict)
leaves_no_product lines choices Memory ok h = tt
