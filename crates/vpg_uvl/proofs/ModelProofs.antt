-- A text spells one tree, and its faults.
use Rattle.std.proofs.Common.{◌≡◌, ℕ, List, [], ◌∷◌, ◌++◌, Option, None, Result, Ok, Err, inl, inr, refl, sym, ap, ap₂, subst, ◌∙◌, append_assoc}
use Rattle.std.proofs.lemmas.List.{append-nil}
use Rattle.std.specs.List.{AllZip}
use Rattle.vpg_rules.specs.Constraint.{Constraint, renamed}
use Rattle.vpg_rules.specs.Grammar as rules
use Rattle.vpg_rules.specs.Grammar.{NamedRule, index_or_end}
use Rattle.vpg_rules.proofs.Levels.{rule_again}
use Rattle.vpg_rules.proofs.Marks.{some_is}
use Rattle.vpg_tree.specs.Tree.{Tree}
use Rattle.vpg_uvl.specs.Rows.{Row, rows, rows_from, parts_of}
use Rattle.vpg_uvl.specs.Quotes.{unquoted}
use Rattle.vpg_uvl.specs.Arrows.{grouped}
use Rattle.vpg_uvl.specs.Comments.{plain, open_comment}
use Rattle.vpg_uvl.specs.Model.{Features, SpellsConstraint, ReadsBehind, Spells, IsFaultBehind, IsFaultOfRows, IsFaultBy, IsTextFault, TextFault, Refused, Ended, Memory, features_after, told, IsFirstFault}
use Rattle.vpg_uvl.specs.Views.{IsReadingFault, IsRowFault}
use Rattle.vpg_uvl.specs.declared.fault.UvlFault.{UvlFault}
use Rattle.vpg_uvl.specs.declared.fault.UvlFault.TheVariants as faults

one_of_zip : {A B : Type 0} (R : A → B → Type 0) (before : List A) (x : A) (after : List A) (ys : List B) → AllZip R (before ++ x ∷ after) ys → (y : B) × R x y
one_of_zip R [] x after [] h = absurd h
one_of_zip R [] x after (y ∷ ys) h = (y, h.0)
one_of_zip R (b ∷ before) x after [] h = absurd h
one_of_zip R (b ∷ before) x after (y ∷ ys) h = one_of_zip R before x after ys h.1

pub zip_more : {A B : Type 0} (R : A → B → Type 0) (xs : List A) (ys : List B) (x : A) (y : B) → AllZip R xs ys → R x y → AllZip R (xs ++ x ∷ []) (ys ++ y ∷ [])
zip_more R [] [] x y h k = (k, tt)
zip_more R [] (z ∷ ys) x y h k = absurd h
zip_more R (z ∷ xs) [] x y h k = absurd h
zip_more R (w ∷ xs) (z ∷ ys) x y h k = (h.0, zip_more R xs ys x y h.1 k)

one_rule : (text : List ℕ) (c d : NamedRule) → rules.Spells text c → rules.Spells text d → c ≡ d
one_rule text c d s t = some_is c d (sym (rule_again text c s) ∙ rule_again text d t)

one_constraint : (names : List (List ℕ)) (row : Row) (c d : Constraint ℕ) → SpellsConstraint names row c → SpellsConstraint names row d → c ≡ d
one_constraint names row c d h k =
    h.indices ∙ ap (renamed (index_or_end names)) (one_rule (grouped (unquoted row.bytes)) h.rule k.rule h.spelled.spelled k.spelled.spelled) ∙ sym k.indices

same_constraints : (names : List (List ℕ)) (behind : List Row) (cs ds : List (Constraint ℕ)) → AllZip (SpellsConstraint names) behind cs → AllZip (SpellsConstraint names) behind ds → cs ≡ ds
same_constraints names [] [] [] h k = refl
same_constraints names [] [] (d ∷ ds) h k = absurd k
same_constraints names [] (c ∷ cs) ds h k = absurd h
same_constraints names (row ∷ behind) [] ds h k = absurd h
same_constraints names (row ∷ behind) (c ∷ cs) [] h k = absurd k
same_constraints names (row ∷ behind) (c ∷ cs) (d ∷ ds) h k =
    ap₂ (λ (x : Constraint ℕ) (xs : List (Constraint ℕ)). x ∷ xs) (one_constraint names row c d h.0 k.0) (same_constraints names behind cs ds h.1 k.1)

-- the tree without its constraints is the one that was read first
bare_again : (bare tree : Tree) → bare.constraints ≡ [] → tree ≡ record bare { constraints = tree.constraints } → record tree { constraints = [] } ≡ bare
bare_again bare tree none same =
    ap (λ (t : Tree). record t { constraints = [] }) same ∙ ap (λ (cs : List (Constraint ℕ)). record bare { constraints = cs }) (sym none)

pub model_found : (text : List ℕ) (bare tree : Tree) (behind : List Row) → open_comment text ≡ None → features_after (rows text) ≡ Ok (record { tree = bare; behind = behind }) → bare.constraints ≡ [] → ReadsBehind bare behind tree → Spells text tree
model_found text bare tree behind closed read none reads = record {
  closed = closed;
  behind = behind;
  features = read ∙ ap (λ (t : Tree). Ok (record { tree = t; behind = behind })) (sym (bare_again bare tree none reads.same));
  constraints = subst (λ (t : Tree). AllZip (SpellsConstraint t.names) behind tree.constraints) (sym reads.same) reads.constraints;
}

abbrev tree_of : {E : Type 0} → Features → Result Features E → Features
tree_of f (Ok g) = g
tree_of f (Err e) = f

same_features : (r : Result Features TextFault) (f g : Features) → r ≡ Ok f → r ≡ Ok g → f ≡ g
same_features r f g h k = ap (tree_of f) (sym h ∙ k)

pub model_only : (text : List ℕ) (bare tree other : Tree) (behind : List Row) → features_after (rows text) ≡ Ok (record { tree = bare; behind = behind }) → ReadsBehind bare behind tree → Spells text other → tree ≡ other
model_only text bare tree other behind read reads spells =
    let both = same_features (features_after (rows text)) (record { tree = bare; behind = behind }) (record { tree = record other { constraints = [] }; behind = spells.behind }) read spells.features in
    let bare_is : bare ≡ record other { constraints = [] } = ap (λ (f : Features). f.tree) both in
    let behind_is : behind ≡ spells.behind = ap (λ (f : Features). f.behind) both in
    let here : AllZip (SpellsConstraint bare.names) behind other.constraints =
    subst (λ (rs : List Row). AllZip (SpellsConstraint bare.names) rs other.constraints) (sym behind_is)
    (subst (λ (t : Tree). AllZip (SpellsConstraint t.names) spells.behind other.constraints) (sym bare_is) spells.constraints) in
    let constraints_are : tree.constraints ≡ other.constraints = same_constraints bare.names behind tree.constraints other.constraints reads.constraints here in
    reads.same ∙ ap (λ (t : Tree). record t { constraints = tree.constraints }) bare_is ∙ ap (λ (cs : List (Constraint ℕ)). record other { constraints = cs }) constraints_are

ok_no_err : (r : Result Features TextFault) (f : Features) (e : TextFault) → r ≡ Ok f → r ≡ Err e → ⊥
ok_no_err r f e h k = let w : Ok f ≡ Err e = sym h ∙ k in cc

-- a text that spells a tree has no fault up to `constraints`
pub no_features_fault : (text : List ℕ) (tree : Tree) (fault : TextFault) → Spells text tree → IsReadingFault (features_after (rows text)) fault → fault ≡ Memory
no_features_fault text tree fault spells (inl memory) = memory
no_features_fault text tree fault spells (inr read) = absurd (ok_no_err (features_after (rows text)) _ fault spells.features read)

-- nor behind it
pub no_fault_behind : (text : List ℕ) (bare tree : Tree) (behind : List Row) (fault : TextFault) → features_after (rows text) ≡ Ok (record { tree = bare; behind = behind }) → Spells text tree → IsFaultBehind bare.names behind fault → fault ≡ Memory
no_fault_behind text bare tree behind Memory read spells h = refl
no_fault_behind text bare tree behind Ended read spells h = absurd h
no_fault_behind text bare tree behind (Refused reason at) read spells h =
    let both = same_features (features_after (rows text)) (record { tree = bare; behind = behind }) (record { tree = record tree { constraints = [] }; behind = spells.behind }) read spells.features in
    let bare_is : bare ≡ record tree { constraints = [] } = ap (λ (f : Features). f.tree) both in
    let behind_is : spells.behind ≡ h.before ++ h.row ∷ h.after = sym (ap (λ (f : Features). f.behind) both) ∙ h.parts in
    let here : AllZip (SpellsConstraint bare.names) (h.before ++ h.row ∷ h.after) tree.constraints =
    subst (λ (rs : List Row). AllZip (SpellsConstraint bare.names) rs tree.constraints) behind_is
    (subst (λ (t : Tree). AllZip (SpellsConstraint t.names) spells.behind tree.constraints) (sym bare_is) spells.constraints) in
    let one = one_of_zip (SpellsConstraint bare.names) h.before h.row h.after tree.constraints here in
    absurd (h.faulty one.0 one.1)

-- the fault of a row is that of the rows, if those before it are read
pub row_fault : (names : List (List ℕ)) (behind before after : List Row) (row : Row) (read : List (Constraint ℕ)) (fault : TextFault) → behind ≡ before ++ row ∷ after → AllZip (SpellsConstraint names) before read → IsRowFault names row fault → IsFaultBehind names behind fault
row_fault names behind before after row read Memory parts spelled h = tt
row_fault names behind before after row read Ended parts spelled h = absurd h
row_fault names behind before after row read (Refused reason at) parts spelled h = record {
  before = before;
  row = row;
  after = after;
  parts = parts;
  read = read;
  spelled = spelled;
  faulty = h.0;
  why = h.2;
  from = h.1.0;
  within = h.1.1;
}

-- the rows of a text are those of the bytes without comments
pub rows_without : (text bytes : List ℕ) → bytes ≡ plain text → rows text ≡ rows_from 0 (parts_of bytes)
rows_without text bytes is = ap (λ (t : List ℕ). rows_from 0 (parts_of t)) (sym is)

-- the fault of a text whose comments end
by_rows : (text : List ℕ) (fault : TextFault) → open_comment text ≡ None → IsFaultOfRows (rows text) fault → IsTextFault text fault
by_rows text fault closed h = inr (subst (λ (o : Option ℕ). IsFaultBy o (rows text) fault) (sym closed) h)

pub fault_before : (text : List ℕ) (fault : TextFault) → open_comment text ≡ None → IsReadingFault (features_after (rows text)) fault → IsTextFault text fault
fault_before text fault closed (inl memory) = inl memory
fault_before text fault closed (inr read) = by_rows text fault closed (inl read)

pub fault_behind : (text : List ℕ) (read : Features) (fault : TextFault) → open_comment text ≡ None → features_after (rows text) ≡ Ok read → IsFaultBehind read.tree.names read.behind fault → IsTextFault text fault
fault_behind text read fault closed is h = by_rows text fault closed (inr (read, is, h))

-- with its line and column
pub first_told : (text : List ℕ) (fault : TextFault) (shown : UvlFault) → IsTextFault text fault → shown ≡ told text fault → IsFirstFault text shown
first_told text fault shown h is = (fault, h, is)

pub memory_told : (text : List ℕ) (fault : TextFault) (shown : UvlFault) → fault ≡ Memory → shown ≡ told text fault → shown ≡ faults.Memory
memory_told text fault shown h is = is ∙ ap (told text) h

-- one row more
pub rows_more : (whole before left later : List Row) (row : Row) → whole ≡ before ++ left → left ≡ row ∷ later → whole ≡ (before ++ row ∷ []) ++ later
rows_more whole before left later row h k = h ∙ ap (λ (rs : List Row). before ++ rs) k ∙ sym (append_assoc before (row ∷ []) later)

-- no row more
pub rows_end : (whole before left : List Row) → whole ≡ before ++ left → left ≡ [] → whole ≡ before
rows_end whole before left h k = h ∙ ap (λ (rs : List Row). before ++ rs) k ∙ append-nil before
