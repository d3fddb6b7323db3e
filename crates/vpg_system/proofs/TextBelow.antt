-- A line below the header that is refused has its first fault. The fault of a guard is a premise: `guard_case`.
use Rattle.std.proofs.Common.{◌≡◌, ℕ, ◌<◌, true, false, ◌&&◌, nat_lt, List, length, Option, Some, None, Err, ◌⊎◌, inl, inr, refl, sym, ◌∙◌, subst}
use Rattle.std.proofs.lemmas.Bool.{ltb-false, ltb-true, lt-ltb}
use Rattle.vpg_system.specs.SystemText.{Header, Form}
use Rattle.vpg_system.specs.SystemReading.{Refusal, NoForm, Beyond, NoLabel, NotState, At, Seen, form_of, label_of, guard_of, after_guard, after_label, after_form, line_at}
use Rattle.vpg_system.specs.ReadCode.{IsFaultOf}
use Rattle.vpg_system.specs.TextFaults.{IsLineFault, fault_at, HasStates}
use Rattle.vpg_system.specs.declared.fault.SystemFault.{SystemFault}
use Rattle.vpg_system.specs.declared.fault.LineFault.{LineFault}
use Rattle.vpg_system.specs.declared.fault.LineFault.TheVariants as line_faults
use Rattle.vpg_system.proofs.Forms.{form_sound, form_complete, label_sound, label_complete}
use Rattle.vpg_system.proofs.TextFirst.{split_checked, not_both}

module _ (features : List (List ℕ)) (e : SystemFault) (number : ℕ) (h : Header) (seen : Seen) (bytes : List ℕ) where
  abbrev pub Refused : Type 0
  Refused = (kind : LineFault) × IsLineFault features h (length seen.transitions) bytes kind × (e ≡ fault_at number kind)

  module _ (r : Refusal) (f : IsFaultOf (At number r) e) (guard_case : (form : Form) (l : List ℕ × Option (List ℕ)) → form_of bytes ≡ Some form → length seen.transitions < h.count → label_of form.label ≡ Some l →
      form.source < h.states → form.target < h.states → after_guard seen bytes form l.0 (guard_of features l.1) ≡ Err r → Refused) where
    told : (x : Refusal) → x ≡ r → IsFaultOf (At number x) e
    told x q = subst (λ (y : Refusal). IsFaultOf (At number y) e) (sym q) f

    states_case : (form : Form) (l : List ℕ × Option (List ℕ)) → form_of bytes ≡ Some form → length seen.transitions < h.count → label_of form.label ≡ Some l →
        (((nat_lt form.source h.states && nat_lt form.target h.states) ≡ false) × (NotState ≡ r)) ⊎ (((nat_lt form.source h.states && nat_lt form.target h.states) ≡ true) × (after_guard seen bytes form l.0 (guard_of features l.1) ≡ Err r)) → Refused
    states_case form l q m n (inl z) = (
      line_faults.NoState,
      (
        form,
        form_sound bytes form q,
        (
          m,
          (l.0, l.1, label_sound form.label l n),
          λ (w : HasStates h.states form). not_both (nat_lt form.source h.states) (nat_lt form.target h.states) z.0 (lt-ltb form.source h.states w.0) (lt-ltb form.target h.states w.1),
        ),
      ),
      told NotState z.1,
    )
    states_case form l q m n (inr z) =
        let b = Rattle.vpg_system.proofs.Forms.and_true (nat_lt form.source h.states) (nat_lt form.target h.states) z.0 in
        guard_case form l q m n (ltb-true form.source h.states b.0) (ltb-true form.target h.states b.1) z.1

    label_case : (form : Form) (o : Option (List ℕ × Option (List ℕ))) → form_of bytes ≡ Some form → length seen.transitions < h.count → label_of form.label ≡ o → after_label features h seen bytes form o ≡ Err r → Refused
    label_case form None q m n x =
        let z : NoLabel ≡ r = cc in
        (line_faults.Label, (form, form_sound bytes form q, (m, λ name text w. let y : ◌≡◌ {A = Option (List ℕ × Option (List ℕ))} None (Some (name, text)) = sym n ∙ label_complete form.label name text w in absurd (cc))), told NoLabel z)
    label_case form (Some l) q m n x =
        states_case form l q m n (split_checked (nat_lt form.source h.states && nat_lt form.target h.states) NotState (after_guard seen bytes form l.0 (guard_of features l.1)) r x)

    count_case : (form : Form) → form_of bytes ≡ Some form → ((nat_lt (length seen.transitions) h.count ≡ false) × (Beyond ≡ r)) ⊎ ((nat_lt (length seen.transitions) h.count ≡ true) × (after_label features h seen bytes form (label_of form.label) ≡ Err r)) → Refused
    count_case form q (inl z) = (line_faults.WrongCount, (form, form_sound bytes form q, ltb-false (length seen.transitions) h.count z.0), told Beyond z.1)
    count_case form q (inr z) = label_case form (label_of form.label) q (ltb-true (length seen.transitions) h.count z.0) refl z.1

    form_case : (o : Option Form) → form_of bytes ≡ o → after_form features h seen bytes o ≡ Err r → Refused
    form_case None q x =
        let z : NoForm ≡ r = cc in
        (line_faults.Syntax, (λ form s. let y : ◌≡◌ {A = Option Form} None (Some form) = sym q ∙ form_complete bytes form s in absurd (cc)), told NoForm z)
    form_case (Some form) q x = count_case form q (split_checked (nat_lt (length seen.transitions) h.count) Beyond (after_label features h seen bytes form (label_of form.label)) r x)

    pub line_refused : line_at features h seen bytes ≡ Err r → Refused
    line_refused x = form_case (form_of bytes) refl x
