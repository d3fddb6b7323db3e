-- Members of a group, and their texts.
use Rattle.std.proofs.Common.{◌≡◌, ℕ, zero, suc, ◌+◌, ◌<◌, ◌≤◌, ◌==◌, Bool, true, false, cond, List, [], ◌∷◌, ◌++◌, length, drop, get_or, map, refl, sym, ap, subst, ◌∙◌, arith, add-one, append_assoc}
use Rattle.std.proofs.lemmas.List.{drop_more}
use Rattle.std.specs.Prelude.{codes}
use Rattle.std.specs.List.{AllByRecursion}
use Rattle.vpg_rules.specs.Constraint.{Constraint}
use Rattle.vpg_tree.specs.Tree.{Tree, Group, members_from}
use Rattle.vpg_tree.specs.Lines.{Line, mandatory, optional, group_lines, lines_from, constraint_line}
use Rattle.vpg_tree.specs.DiagramText.{name_of, pair_text, pairs_text, lines_text, diagram_text}

pub member_in : (list whole : List ℕ) (f : ℕ) (places : List ℕ) (i group : ℕ) → i < length places → (get_or places i 0 == group) ≡ true →
    list ++ members_from f (drop i places) group ≡ whole → (list ++ f ∷ []) ++ members_from (f + 1) (drop (i + 1) places) group ≡ whole
member_in list whole f places i group lt is h =
    rw (append_assoc, add-one)
    (sym (ap (λ (xs : List ℕ). list ++ members_from f xs group) (drop_more places i 0 lt) ∙ ap (λ (b : Bool). list ++ cond b (f ∷ members_from (suc f) (drop (i + 1) places) group) (members_from (suc f) (drop (i + 1) places) group)) is) ∙ h)

pub member_out : (list whole : List ℕ) (f : ℕ) (places : List ℕ) (i group : ℕ) → i < length places → (get_or places i 0 == group) ≡ false →
    list ++ members_from f (drop i places) group ≡ whole → list ++ members_from (f + 1) (drop (i + 1) places) group ≡ whole
member_out list whole f places i group lt is h =
    rw add-one
    (sym (ap (λ (xs : List ℕ). list ++ members_from f xs group) (drop_more places i 0 lt) ∙ ap (λ (b : Bool). list ++ cond b (f ∷ members_from (suc f) (drop (i + 1) places) group) (members_from (suc f) (drop (i + 1) places) group)) is) ∙ h)

either_below : (n f : ℕ) (later : List ℕ) (b : Bool) → f < n → AllByRecursion (λ m. m < n) later → AllByRecursion (λ m. m < n) (cond b (f ∷ later) later)
either_below n f later true lt h = (lt, h)
either_below n f later false lt h = h

-- the members are among the features
pub members_below : (n f : ℕ) (places : List ℕ) (group : ℕ) → f + length places ≤ n → AllByRecursion (λ m. m < n) (members_from f places group)
members_below n f [] group le = tt
members_below n f (p ∷ places) group le =
    either_below n f (members_from (suc f) places group) (p == group) (omega arith) (members_below n (suc f) places group (omega arith))

-- the lines of children, each on its own
pub mandatory_lines : (names : List (List ℕ)) (p : ℕ) (cs : List ℕ) → lines_text names (map (mandatory p) cs) ≡ pairs_text names (codes "mandatory ") p cs
mandatory_lines names p [] = refl
mandatory_lines names p (c ∷ cs) = ap (λ (t : List ℕ). pair_text names (codes "mandatory ") p c ++ codes "\n" ++ t) (mandatory_lines names p cs)

pub optional_lines : (names : List (List ℕ)) (p : ℕ) (cs : List ℕ) → lines_text names (map (optional p) cs) ≡ pairs_text names (codes "optional ") p cs
optional_lines names p [] = refl
optional_lines names p (c ∷ cs) = ap (λ (t : List ℕ). pair_text names (codes "optional ") p c ++ codes "\n" ++ t) (optional_lines names p cs)

pub lines_append : (names : List (List ℕ)) (xs ys : List Line) → lines_text names (xs ++ ys) ≡ lines_text names xs ++ lines_text names ys
lines_append names [] ys = refl
lines_append names (x ∷ xs) ys = simp (lines_append names xs ys, append_assoc)

-- the lines of one more group
pub groups_more : (names : List (List ℕ)) (places : List ℕ) (groups : List Group) (i : ℕ) (g : Group) (ms out written whole : List ℕ) →
    drop i groups ≡ g ∷ drop (i + 1) groups → ms ≡ members_from 1 places i →
    out ++ lines_text names (lines_from i (drop i groups) places) ≡ whole → written ≡ out ++ lines_text names (group_lines g.kind g.parent ms) →
    written ++ lines_text names (lines_from (i + 1) (drop (i + 1) groups) places) ≡ whole
groups_more names places groups i g ms out written whole parts are h w =
    let rest = drop (i + 1) groups in
    let here : lines_text names (lines_from i (drop i groups) places) ≡ lines_text names (group_lines g.kind g.parent ms) ++ lines_text names (lines_from (suc i) rest places) =
    ap (λ (gs : List Group). lines_text names (lines_from i gs places)) parts
    ∙ lines_append names (group_lines g.kind g.parent (members_from 1 places i)) (lines_from (suc i) rest places)
    ∙ ap (λ (fs : List ℕ). lines_text names (group_lines g.kind g.parent fs) ++ lines_text names (lines_from (suc i) rest places)) (sym are) in
    ap (λ (t : List ℕ). t ++ lines_text names (lines_from (i + 1) rest places)) w
    ∙ ap (λ (k : ℕ). (out ++ lines_text names (group_lines g.kind g.parent ms)) ++ lines_text names (lines_from k rest places)) (add-one i)
    ∙ append_assoc out (lines_text names (group_lines g.kind g.parent ms)) (lines_text names (lines_from (suc i) rest places))
    ∙ ap (λ (t : List ℕ). out ++ t) (sym here) ∙ h

-- what holds of each holds of one
pub one_mapped : {X Y : Type 0} (P : Y → Type 0) (f : X → Y) (xs : List X) (i : ℕ) (x : X) → i < length xs → x ≡ get_or xs i x → AllByRecursion P (map f xs) → P (f x)
one_mapped P f [] i x lt is h = absurd (omega arith)
one_mapped P f (y ∷ xs) zero x lt is h = subst (λ z. P (f z)) (sym is) h.0
one_mapped P f (y ∷ xs) (suc i) x lt is h = one_mapped P f xs i x (omega arith) is h.1

-- the root line, the lines of the groups and those of the constraints are the diagram's text
pub diagram_written : (tree : Tree) (names : List (List ℕ)) (groups : List Group) (places : List ℕ) (cs : List (Constraint ℕ)) (old none root behind all written out : List ℕ) →
    names ≡ tree.names → groups ≡ tree.groups → places ≡ tree.places → cs ≡ tree.constraints → none ≡ [] →
    root ≡ none ++ (codes "root " ++ name_of names 0 ++ codes "\n") → behind ≡ root ++ lines_text names (lines_from 0 groups places) →
    all ≡ behind ++ lines_text names (map constraint_line cs) → written ≡ all → out ≡ old ++ written → out ≡ old ++ diagram_text tree
diagram_written tree names groups places cs old none root behind all written out ns gs ps ks empty r b a w o =
    let lines = lines_text names (lines_from 0 groups places) in
    let rules = lines_text names (map constraint_line cs) in
    let head = codes "root " ++ name_of names 0 ++ codes "\n" in
    let text : written ≡ head ++ (lines ++ rules) =
    w ∙ a ∙ ap (λ (t : List ℕ). t ++ rules) (b ∙ ap (λ (t : List ℕ). t ++ lines) (r ∙ ap (λ (t : List ℕ). t ++ head) empty)) ∙ append_assoc head lines rules in
    let joined : lines ++ rules ≡ lines_text names (lines_from 0 groups places ++ map constraint_line cs) = sym (lines_append names (lines_from 0 groups places) (map constraint_line cs)) in
    let whole : head ++ (lines ++ rules) ≡ diagram_text tree = ap (λ (t : List ℕ). head ++ t) joined ∙ simp (ns, gs, ps, ks) in
    o ∙ ap (λ (t : List ℕ). old ++ t) (text ∙ whole)
