-- The steps of reading a line, as the code takes them.
use Rattle.std.proofs.Common.{◌≡◌, ℕ, ◌<◌, ◌≤◌, ◌+◌, Bool, true, false, ◌&&◌, nat_lt, nat_le, List, length, Option, Some, None, Result, Ok, Err, refl, sym, ap, ◌∙◌, subst, inr, IfOk, IfErr, arith}
use Rattle.std.proofs.lemmas.Bool.{lt-ltb, le-ltb, le-leb, lt-leb}
use Rattle.std.specs.Result.{IsErrAnd}
use Rattle.vpg_guards.specs.declared.fault.GuardFault.{GuardFault}
use Rattle.vpg_guards.specs.declared.fault.GuardFault.TheVariants as guard_faults
use Rattle.vpg_system.specs.ReadCode.{IsGuardError, guard_error, IsHeaderError, IsLineError}
use Rattle.vpg_system.specs.declared.fault.LineError.{LineError}
use Rattle.vpg_system.specs.declared.fault.LineError.TheVariants.{Memory, Refused}
use Rattle.vpg_system.specs.declared.fault.SystemFault.TheVariants as faults
use Rattle.vpg_guards.specs.Formula.{Formula}
use Rattle.vpg_guards.specs.Grammar.{Spells}
use Rattle.vpg_guards.specs.Reading.{guard_at}
use Rattle.vpg_guards.proofs.Found.{guard_found}
use Rattle.vpg_system.specs.SystemText.{Header, Form}
use Rattle.vpg_system.specs.SystemReading.{NoForm, Beyond, NoLabel, NotState, NoGuard, checked, form_of, label_of, guard_of, guard_place, Seen, seen_with, after_form, after_label, after_guard, line_at, is_within, after_header, read_lines, nothing, NoHeader, TooMany, NoFirst}

pub none_found : (names : List (List ℕ)) (text : List ℕ) → ((g : Formula) → Spells names text g → ⊥) → guard_at names text ≡ None
none_found names text none = go (guard_at names text) refl
  where
    go : (o : Option Formula) → guard_at names text ≡ o → o ≡ None
    go None e = refl
    go (Some g) e = absurd (none g (guard_found names text g e))

both : (a b : Bool) → a ≡ true → b ≡ true → (a && b) ≡ true
both a b p q = ap (λ x. x && b) p ∙ q

second : (a b : Bool) → a ≡ true → b ≡ false → (a && b) ≡ false
second a b p q = ap (λ x. x && b) p ∙ q

module _ (features : List (List ℕ)) (h : Header) (seen : Seen) (bytes : List ℕ) where
  pub no_form : form_of bytes ≡ None → line_at features h seen bytes ≡ Err NoForm
  no_form e = ap (after_form features h seen bytes) e

  module _ (form : Form) (e : form_of bytes ≡ Some form) where
    here : line_at features h seen bytes ≡ checked (nat_lt (length seen.transitions) h.count) Beyond (after_label features h seen bytes form (label_of form.label))
    here = ap (after_form features h seen bytes) e

    pub beyond : h.count ≤ length seen.transitions → line_at features h seen bytes ≡ Err Beyond
    beyond m = here ∙ ap (λ t. checked t Beyond (after_label features h seen bytes form (label_of form.label))) (le-ltb (length seen.transitions) h.count m)

    module _ (m : length seen.transitions < h.count) where
      within : line_at features h seen bytes ≡ after_label features h seen bytes form (label_of form.label)
      within = here ∙ ap (λ t. checked t Beyond (after_label features h seen bytes form (label_of form.label))) (lt-ltb (length seen.transitions) h.count m)

      pub no_label : label_of form.label ≡ None → line_at features h seen bytes ≡ Err NoLabel
      no_label n = within ∙ ap (after_label features h seen bytes form) n

      module _ (l : List ℕ × Option (List ℕ)) (n : label_of form.label ≡ Some l) where
        states : (t : Bool) → (nat_lt form.source h.states && nat_lt form.target h.states) ≡ t → line_at features h seen bytes ≡ checked t NotState (after_guard seen bytes form l.0 (guard_of features l.1))
        states t k = within ∙ (ap (after_label features h seen bytes form) n ∙ ap (λ b. checked b NotState (after_guard seen bytes form l.0 (guard_of features l.1))) k)

        pub no_source : h.states ≤ form.source → line_at features h seen bytes ≡ Err NotState
        no_source k = states false (ap (λ b. b && nat_lt form.target h.states) (le-ltb form.source h.states k))

        pub no_target : form.source < h.states → h.states ≤ form.target → line_at features h seen bytes ≡ Err NotState
        no_target s k = states false (second (nat_lt form.source h.states) (nat_lt form.target h.states) (lt-ltb form.source h.states s) (le-ltb form.target h.states k))

        module _ (s : form.source < h.states) (t : form.target < h.states) where
          guard_there : line_at features h seen bytes ≡ after_guard seen bytes form l.0 (guard_of features l.1)
          guard_there = states true (both (nat_lt form.source h.states) (nat_lt form.target h.states) (lt-ltb form.source h.states s) (lt-ltb form.target h.states t))

          pub no_guard : guard_of features l.1 ≡ None → line_at features h seen bytes ≡ Err (NoGuard (guard_place bytes))
          no_guard k = guard_there ∙ ap (after_guard seen bytes form l.0) k

          pub added : (g : Formula) → guard_of features l.1 ≡ Some g → line_at features h seen bytes ≡ Ok (seen_with seen form l.0 g)
          added g k = guard_there ∙ ap (after_guard seen bytes form l.0) k

pub guard_refused : (features : List (List ℕ)) (text bytes : List ℕ) (e : GuardFault) → ((g : Formula) → Spells features text g → e ≡ guard_faults.Memory) →
    IsGuardError (guard_at features text) bytes (guard_error (guard_place bytes) e)
guard_refused features text bytes (guard_faults.Syntax k) only =
    (none_found features text (λ g s. let h = only g s in absurd (cc)), (guard_faults.Syntax k, (λ h. absurd (cc)), refl))
guard_refused features text bytes (guard_faults.UnknownFeature k) only =
    (none_found features text (λ g s. let h = only g s in absurd (cc)), (guard_faults.UnknownFeature k, (λ h. absurd (cc)), refl))
guard_refused features text bytes (guard_faults.TooDeep k) only =
    (none_found features text (λ g s. let h = only g s in absurd (cc)), (guard_faults.TooDeep k, (λ h. absurd (cc)), refl))
guard_refused features text bytes guard_faults.Memory only = tt

-- what holds of a result
pub ok_holds : {T E : Type 0} (r : Result T E) (x : T) (P : T → Type 0) → r ≡ Ok x → P x → IfOk r P
ok_holds (Ok y) x P e p = let w : x ≡ y = cc in subst P w p
ok_holds (Err y) x P e p = absurd (cc)

pub ok_err : {T E : Type 0} (r : Result T E) (x : E) (P : T → Type 0) → r ≡ Err x → IfOk r P
ok_err (Ok y) x P e = absurd (cc)
ok_err (Err y) x P e = tt

pub err_passed : {T E : Type 0} (r : Result T E) (x : E) (P : E → Type 0) → IsErrAnd r (λ y. y ≡ x) → P x → IfErr r P
err_passed (Ok y) x P e p = tt
err_passed (Err y) x P e p = subst P (sym e) p

-- a header
module _ (number : ℕ) (o : Option Header) where
  pub header_none : o ≡ None → IsHeaderError o number (faults.NoHeader number)
  header_none e = inr (NoHeader number, (λ fs r. ap (λ x. after_header fs number x r) e), refl)

  module _ (h : Header) (e : o ≡ Some h) where
    many : is_within h ≡ false → IsHeaderError o number (faults.TooMany number)
    many w = inr (
      TooMany number,
      (λ fs r. ap (λ x. after_header fs number x r) e ∙
          ap (λ t. checked t (TooMany number) (checked (nat_lt h.first h.states) (NoFirst number) (read_lines fs h number (number + 1) r nothing))) w),
      refl,
    )

    pub header_states : 65537 ≤ h.states → IsHeaderError o number (faults.TooMany number)
    header_states m = many (ap (λ b. b && nat_le h.count 1048576) (lt-leb h.states 65536 (omega (arith, m))))

    pub header_count : h.states < 65537 → 1048577 ≤ h.count → IsHeaderError o number (faults.TooMany number)
    header_count s m = many (second (nat_le h.states 65536) (nat_le h.count 1048576) (le-leb h.states 65536 (omega (arith, s))) (lt-leb h.count 1048576 (omega (arith, m))))

    pub header_good : h.states < 65537 → h.count < 1048577 → is_within h ≡ true
    header_good s m = both (nat_le h.states 65536) (nat_le h.count 1048576) (le-leb h.states 65536 (omega (arith, s))) (le-leb h.count 1048576 (omega (arith, m)))

    pub header_first : h.states < 65537 → h.count < 1048577 → h.states ≤ h.first → IsHeaderError o number (faults.NoState number)
    header_first s m k = inr (
      NoFirst number,
      (λ fs r. ap (λ x. after_header fs number x r) e ∙
          (ap (λ t. checked t (TooMany number) (checked (nat_lt h.first h.states) (NoFirst number) (read_lines fs h number (number + 1) r nothing))) (header_good s m) ∙
          ap (λ t. checked t (NoFirst number) (read_lines fs h number (number + 1) r nothing)) (le-ltb h.first h.states k))),
      refl,
    )

-- a guard that is not read, on its line
module _ (features : List (List ℕ)) (h : Header) (seen : Seen) (bytes : List ℕ) (form : Form) (e : form_of bytes ≡ Some form) (m : length seen.transitions < h.count) where
  pub guard_error_passed : (l : List ℕ × Option (List ℕ)) → label_of form.label ≡ Some l → form.source < h.states → form.target < h.states → (x : LineError) →
      IsGuardError (guard_of features l.1) bytes x → IsLineError (line_at features h seen bytes) x
  guard_error_passed l n s t Memory g = tt
  guard_error_passed l n s t (Refused kind) g = (NoGuard (guard_place bytes), no_guard features h seen bytes form e m l n s t g.0, g.1)
