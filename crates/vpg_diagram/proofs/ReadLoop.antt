-- Reading line by line.
use Rattle.std.proofs.Common.{◌≡◌, ℕ, ◌+◌, Bool, true, false, not, cond, List, [], ◌∷◌, ◌++◌, Option, Some, None, Result, Ok, Err, Bor, ◌⊎◌, inl, inr, refl, sym, ap, ap₂, ◌∙◌, subst, IfOk, IfErr, append_assoc, append-nil}
use Rattle.std.specs.Result.{IsErrAnd}
use Rattle.std.specs.Str.Lines.{lines}
use Rattle.vpg_diagram.specs.FeatureDiagram.{Line}
use Rattle.vpg_diagram.specs.DiagramText.{is_nonempty, words, Form, NamedDiagram}
use Rattle.vpg_diagram.specs.DiagramReading.{LineFault, Syntax, UnknownFeature, Fault, At, form_of, line_at, new_names, rules_in, with_line, after_line, after_form, read_lines, after_root, read_root}
use Rattle.vpg_diagram.specs.LineView.{line_of, lines_of}
use Rattle.vpg_diagram.specs.ReadCode.{ReadsLine, AddsLine, IsFormError, IsLineError, IsReadingFault}
use Rattle.vpg_diagram.specs.declared.fault.LineError.{LineError}
use Rattle.vpg_diagram.specs.declared.fault.LineError.TheVariants.{Memory, Refused}
use Rattle.vpg_diagram.specs.declared.line.Line as code
use Rattle.vpg_diagram.specs.declared.fault.DiagramFault.{DiagramFault}
use Rattle.vpg_diagram.specs.FormView.{view_form}
use Rattle.vpg_diagram.specs.declared.text.LineForm.{LineForm}
use Rattle.vpg_diagram.specs.declared.text.LineForm.TheVariants as kept
use Rattle.vpg_diagram.specs.declared.reading.Reader.{Reader}
use Rattle.vpg_diagram.specs.DiagramText.{rules_of}
use Rattle.vpg_diagram.proofs.LineLemmas.{rules_of_line}

-- what is read, in front of what is read behind it
abbrev pub continued : List (List ℕ) → List Line → Result NamedDiagram Fault → Result NamedDiagram Fault
continued names ls (Ok d) = Ok (record { names = names ++ d.names; lines = ls ++ d.lines })
continued names ls (Err fault) = Err fault

not_not : (b : Bool) (c : Bool) → b ≡ not c → b ≡ true → c ≡ false
not_not b true e f = absurd (let w : false ≡ true = sym e ∙ f in cc)
not_not b false e f = refl

not_blank : (b : Bool) (c : Bool) → b ≡ not c → b ≡ false → c ≡ true
not_blank b true e f = refl
not_blank b false e f = absurd (let w : true ≡ false = sym e ∙ f in cc)

pub no_words : (bytes : List ℕ) (b : Bool) → b ≡ not (is_nonempty (words bytes)) → b ≡ true → is_nonempty (words bytes) ≡ false
no_words bytes b e f = not_not b (is_nonempty (words bytes)) e f

pub some_words : (bytes : List ℕ) (b : Bool) → b ≡ not (is_nonempty (words bytes)) → b ≡ false → is_nonempty (words bytes) ≡ true
some_words bytes b e f = not_blank b (is_nonempty (words bytes)) e f

-- up to the root line
module _ (number : ℕ) (bytes : List ℕ) (rest : List (List ℕ)) where
  pub root_here : (o : Option Form) → is_nonempty (words bytes) ≡ true → form_of bytes ≡ o → read_root number (bytes ∷ rest) ≡ after_root number o rest
  root_here o w e = ap (λ t. cond t (after_root number (form_of bytes) rest) (read_root (number + 1) rest)) w ∙ ap (λ x. after_root number x rest) e

pub at_end : (names : List (List ℕ)) (ls : List Line) → continued names ls (Ok (record { names = []; lines = [] })) ≡ Ok (record { names = names; lines = ls })
at_end names ls = ap₂ (λ ns xs. Ok (record { names = ns; lines = xs })) (append-nil names) (append-nil ls)

line_continued : (names new : List (List ℕ)) (ls : List Line) (line : Line) (x : Result NamedDiagram Fault) → continued names ls (with_line line new x) ≡ continued (names ++ new) (ls ++ line ∷ []) x
line_continued names new ls line (Ok d) = ap₂ (λ ns xs. Ok (record { names = ns; lines = xs })) (sym (append_assoc names new d.names)) (sym (append_assoc ls (line ∷ []) d.lines))
line_continued names new ls line (Err fault) = refl

-- behind the root line
module _ (number : ℕ) (bytes : List ℕ) (rest : List (List ℕ)) where
  lines_here : (names : List (List ℕ)) (rules : ℕ) (o : Option Form) → is_nonempty (words bytes) ≡ true → form_of bytes ≡ o → read_lines number (bytes ∷ rest) names rules ≡ after_form number names rules o (read_lines (number + 1) rest)
  lines_here names rules o w e =
      ap (λ t. cond t (after_form number names rules (form_of bytes) (read_lines (number + 1) rest)) (read_lines (number + 1) rest names rules)) w
      ∙ ap (λ x. after_form number names rules x (read_lines (number + 1) rest)) e

  pub lines_after_line : (old new : Reader) → is_nonempty (words bytes) ≡ true → AddsLine old bytes new →
      continued old.names (lines_of old.lines.items) (read_lines number (bytes ∷ rest) old.names old.rules) ≡ continued new.names (lines_of new.lines.items) (read_lines (number + 1) rest new.names new.rules)
  lines_after_line old new w a =
      let ns = new_names a.form in
      ap (continued old.names (lines_of old.lines.items))
      (lines_here old.names old.rules (Some a.form) w a.form_is ∙ ap (λ x. after_line number old.names old.rules a.form x (read_lines (number + 1) rest)) a.line_is)
      ∙ (line_continued old.names ns (lines_of old.lines.items) a.line (read_lines (number + 1) rest (old.names ++ ns) (old.rules + rules_in a.form))
      ∙ (ap₂ (λ xs k. continued xs (lines_of old.lines.items ++ a.line ∷ []) (read_lines (number + 1) rest xs k)) (sym a.names_are) (sym a.rules_are)
      ∙ ap (λ xs. continued new.names xs (read_lines (number + 1) rest new.names new.rules)) (sym a.lines_are)))

  pub line_refused : (old : Reader) (kind : LineFault) → is_nonempty (words bytes) ≡ true →
      ((form_of bytes ≡ None) × (kind ≡ Syntax)) ⊎ ((form : Form) × (form_of bytes ≡ Some form) × (line_at old.names old.rules form ≡ Err kind)) →
      continued old.names (lines_of old.lines.items) (read_lines number (bytes ∷ rest) old.names old.rules) ≡ Err (At number kind)
  line_refused old kind w (inl h) = ap (continued old.names (lines_of old.lines.items)) (lines_here old.names old.rules None w h.0 ∙ ap (λ k. Err (At number k)) (sym h.1))
  line_refused old kind w (inr h) =
      ap (continued old.names (lines_of old.lines.items))
      (lines_here old.names old.rules (Some h.0) w h.1 ∙ ap (λ x. after_line number old.names old.rules h.0 x (read_lines (number + 1) rest)) h.2)

-- a form that is no root line, where the root line should stand
pub no_root_form : (number : ℕ) (form : LineForm) (rest : List (List ℕ)) → ((r : Bor (List ℕ)) → form ≡ kept.Root r → ⊥) → after_root number (Some (view_form form)) rest ≡ Err (At number UnknownFeature)
no_root_form number (kept.Root r) rest other = absurd (other r refl)
no_root_form number (kept.Mandatory p c) rest other = refl
no_root_form number (kept.Optional p c) rest other = refl
no_root_form number (kept.Alternative p cs) rest other = refl
no_root_form number (kept.Or p cs) rest other = refl
no_root_form number (kept.Group p low high cs) rest other = refl
no_root_form number (kept.Requires a b) rest other = refl
no_root_form number (kept.Excludes a b) rest other = refl

-- all is read
pub all_read : (rest : List ℕ) (number : ℕ) (names : List (List ℕ)) (ls : List Line) (rules : ℕ) → rest ≡ [] → continued names ls (read_lines number (lines rest) names rules) ≡ Ok (record { names = names; lines = ls })
all_read rest number names ls rules e = rw e (at_end names ls)

-- a line that is read by its form, or refused
pub form_read : (names after : List (List ℕ)) (rules : ℕ) (bytes : List ℕ) (form : Form) (r : Result code.Line LineError) → form_of bytes ≡ Some form →
    IfOk r (λ line. line_at names rules form ≡ Ok (line_of line)) → IfOk r (λ _. after ≡ names ++ new_names form) → IfOk r (λ line. ReadsLine names rules bytes after (line_of line) (rules_of (line_of line)))
form_read names after rules bytes form (Ok line) e l n = record { form = form; form_is = e; line_is = l; names_are = n; count_is = rules_of_line names rules form (line_of line) l }
form_read names after rules bytes form (Err x) e l n = tt

pub form_refused : (names : List (List ℕ)) (rules : ℕ) (bytes : List ℕ) (form : Form) (r : Result code.Line LineError) → form_of bytes ≡ Some form → IfErr r (IsFormError names rules form) → IfErr r (IsLineError names rules bytes)
form_refused names rules bytes form (Ok line) e h = tt
form_refused names rules bytes form (Err Memory) e h = tt
form_refused names rules bytes form (Err (Refused kind)) e h = inr (form, e, h)

-- what holds of the error of a result
pub ok_keeps : {T E : Type 0} (r : Result T E) (x : T) (P : E → Type 0) → r ≡ Ok x → IfErr r P
ok_keeps (Ok y) x P e = tt
ok_keeps (Err y) x P e = absurd (cc)

pub err_keeps : {T E : Type 0} (r : Result T E) (x : E) (P : E → Type 0) → r ≡ Err x → P x → IfErr r P
err_keeps (Ok y) x P e p = absurd (cc)
err_keeps (Err y) x P e p = let w : x ≡ y = cc in subst P w p

pub err_passed : {T E : Type 0} (r : Result T E) (x : E) (P : E → Type 0) → IsErrAnd r (λ y. y ≡ x) → P x → IfErr r P
err_passed (Ok y) x P e p = tt
err_passed (Err y) x P e p = subst P (sym e) p

-- a fault of what is read behind is a fault of the reading
pub fault_through : (a b : Result NamedDiagram Fault) (e : DiagramFault) → b ≡ a → IsReadingFault a e → IsReadingFault b e
fault_through a b e h (inl m) = inl m
fault_through a b e h (inr f) = inr (f.0, h ∙ f.1, f.2)
