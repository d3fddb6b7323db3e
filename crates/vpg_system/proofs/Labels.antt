-- What a line lacks, its label and its name lack.
use Rattle.std.proofs.Common.{◌≡◌, ℕ, true, List, [], ◌∷◌, ◌++◌, Option, Some, None, inl, inr, sym, ap, ◌∙◌, subst}
use Rattle.vpg_system.specs.SystemText.{Form, SpellsForm, SpellsLabel, HasName, lacks, trimmed}
use Rattle.vpg_system.specs.System.{IsActionName}
use Rattle.vpg_system.proofs.Cuts.{lacks_parts}
use Rattle.vpg_system.proofs.Trims.{trimmed_lacks, trimmed_again}

label_lacks : (s : ℕ) (text label : List ℕ) → SpellsLabel text label → lacks s text ≡ true → lacks s label ≡ true
label_lacks s text label (inl is) e = subst (λ (x : List ℕ). lacks s x ≡ true) is.0 e
label_lacks s text label (inr is) e =
    (lacks_parts s label (34 ∷ []) (lacks_parts s (34 ∷ []) (label ++ 34 ∷ []) (ap (lacks s) (sym is) ∙ e)).1).0

pub form_lacks : (s : ℕ) (bytes : List ℕ) (form : Form) → SpellsForm bytes form → lacks s bytes ≡ true → lacks s form.label ≡ true
form_lacks s bytes form f e =
    let a = lacks_parts s f.front (44 ∷ (f.middle ++ 44 ∷ f.back)) (ap (lacks s) (sym f.line_is) ∙ e) in
    let b = lacks_parts s (44 ∷ []) (f.middle ++ 44 ∷ f.back) a.1 in
    let m = lacks_parts s f.middle (44 ∷ f.back) b.1 in
    label_lacks s (trimmed f.middle) form.label f.label_is (trimmed_lacks s f.middle m.0)

-- a name that a label of one line has
pub action_name : (label name : List ℕ) (text : Option (List ℕ)) → HasName label name text → lacks 10 label ≡ true → IsActionName name
action_name label name None n e = record {
  some = n.some;
  trim = ap trimmed (sym n.name_is) ∙ (trimmed_again label ∙ n.name_is);
  one_line = subst (λ (x : List ℕ). lacks 10 x ≡ true) n.name_is (trimmed_lacks 10 label e);
}
action_name label name (Some t) n e =
    let w = lacks_parts 10 (n.front ++ 91 ∷ t) (93 ∷ []) (ap (lacks 10) (sym n.label_is) ∙ trimmed_lacks 10 label e) in
    let f = lacks_parts 10 n.front (91 ∷ t) w.0 in
    record {
      some = n.some;
      trim = ap trimmed (sym n.name_is) ∙ (trimmed_again n.front ∙ n.name_is);
      one_line = subst (λ (x : List ℕ). lacks 10 x ≡ true) n.name_is (trimmed_lacks 10 n.front f.0);
    }
