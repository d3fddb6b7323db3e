-- The fault of a guard, and all faults together.
use Rattle.std.proofs.Common.{◌≡◌, ℕ, ◌+◌, ◌<◌, true, List, [], ◌∷◌, ◌++◌, length, Option, Some, None, Err, inl, inr, refl, sym, ap, ◌∙◌, subst, arith, append_assoc}
use Rattle.std.proofs.lemmas.List.{length-append}
use Rattle.std.specs.Str.Lines.{lines}
use Rattle.vpg_features.specs.Names.{AreNames}
use Rattle.vpg_guards.specs.Formula.{Formula}
use Rattle.vpg_system.specs.SystemText.{Header, Form, SpellsForm, IsGuarded, lacks}
use Rattle.vpg_system.specs.SystemReading.{Refusal, NoGuard, At, Seen, nothing, cut_last, form_of, label_of, guard_of, guard_place, behind_cut, after_guard, reading}
use Rattle.vpg_system.specs.ReadCode.{IsFaultOf, IsReadingFault}
use Rattle.vpg_system.specs.TextFaults.{IsFirstFault}
use Rattle.vpg_system.specs.declared.fault.SystemFault.{SystemFault}
use Rattle.vpg_system.specs.declared.fault.LineFault.TheVariants as line_faults
use Rattle.vpg_system.proofs.Cuts.{lacks_parts, last_lacks, last_found}
use Rattle.vpg_system.proofs.Trims.{trimmed_lacks}
use Rattle.vpg_system.proofs.Labels.{form_lacks}
use Rattle.vpg_system.proofs.Forms.{form_sound, label_sound}
use Rattle.vpg_system.proofs.TextLemmas.{guard_complete}
use Rattle.vpg_system.proofs.TextFirst.{walk_first}
use Rattle.vpg_system.proofs.TextBelow.{Refused, line_refused}
use Rattle.vpg_system.proofs.TextWalk.{walk_below}

-- where a label has a guard, its line has a `[`
not_without : (bytes : List ℕ) (form : Form) (name text : List ℕ) → SpellsForm bytes form → IsGuarded form.label name text → lacks 91 bytes ≡ true → ⊥
not_without bytes form name text f n e =
    let l = form_lacks 91 bytes form f e in
    let t = lacks_parts 91 (n.front ++ 91 ∷ text) (93 ∷ []) (ap (lacks 91) (sym n.label_is) ∙ trimmed_lacks 91 form.label l) in
    let z = (lacks_parts 91 n.front (91 ∷ text) t.0).1 in
    absurd (cc)

found_if : (bytes : List ℕ) (o : Option (List ℕ × List ℕ)) → cut_last 91 bytes ≡ o → (lacks 91 bytes ≡ true → ⊥) → (r : List ℕ × List ℕ) × (cut_last 91 bytes ≡ Some r)
found_if bytes None e n = absurd (n (last_lacks 91 bytes e))
found_if bytes (Some p) e n = (p, e)

pub bracket_there : (bytes : List ℕ) (form : Form) (name text : List ℕ) → SpellsForm bytes form → IsGuarded form.label name text → (r : List ℕ × List ℕ) × (cut_last 91 bytes ≡ Some r)
bracket_there bytes form name text f n = found_if bytes (cut_last 91 bytes) refl (not_without bytes form name text f n)

guard_wrong : (features : List (List ℕ)) (e : SystemFault) (number : ℕ) (h : Header) (seen : Seen) (bytes : List ℕ) (r : Refusal) → AreNames features → IsFaultOf (At number r) e → (form : Form) (name : List ℕ) (text : Option (List ℕ)) (o : Option Formula) → form_of bytes ≡ Some form →
    length seen.transitions < h.count → label_of form.label ≡ Some (name, text) → form.source < h.states → form.target < h.states → guard_of features text ≡ o → after_guard seen bytes form name o ≡ Err r → Refused features e number h seen bytes
guard_wrong features e number h seen bytes r n f form name text (Some g) q m l s t k x = absurd (cc)
guard_wrong features e number h seen bytes r n f form name None None q m l s t k x = absurd (cc)
guard_wrong features e number h seen bytes r n f form name (Some text) None q m l s t k x =
    let z : NoGuard (guard_place bytes) ≡ r = cc in
    let w = subst (λ (y : Refusal). IsFaultOf (At number y) e) (sym z) f in
    let lab = label_sound form.label (name, Some text) l in
    let there = bracket_there bytes form name text (form_sound bytes form q) lab in
    let place = last_found 91 bytes there.0 there.1 in (
      line_faults.Guard (guard_place bytes) w.0,
      (
        form,
        form_sound bytes form q,
        (
          m,
          record {
            name = name;
            text = text;
            label_is = lab;
            has_states = (s, t);
            front = there.0.0;
            behind = there.0.1;
            opened = place.0;
            last = place.1;
            at_is = ap behind_cut there.1;
            not_memory = w.1;
            no_guard = λ g y. let v : ◌≡◌ {A = Option Formula} None (Some g) = sym k ∙ guard_complete features (Some text) g n y in absurd (cc);
          },
        ),
      ),
      w.2,
    )

pub first_fault : (features : List (List ℕ)) (text : List ℕ) (e : SystemFault) → AreNames features → IsReadingFault (reading features text) e → IsFirstFault features text e
first_fault features text e n (inl m) = inl m
first_fault features text e n (inr x) =
    inr (walk_first features e (lines text) (λ before bytes rest h fault a k w sp good below r f.
    walk_below features e (lines text) before bytes k w h sp good below
    (λ number seen line r g. line_refused features e number h seen line r g (λ form l q m y s t. guard_wrong features e number h seen line r n g form l.0 l.1 (guard_of features l.1) q m y s t refl))
    fault f rest [] (length before + 1 + 1) nothing (a ∙ sym (append_assoc before (bytes ∷ []) rest)) (refl, omega arith) (let l = length-append before (bytes ∷ []) in omega (arith, l)) r)
    x.0 x.2 (lines text) [] 1 refl refl refl x.1)
