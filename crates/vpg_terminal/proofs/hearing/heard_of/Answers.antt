use Rattle.std.proofs.Common.{◌≡◌, ◌||◌, ◌∙◌, ℕ, List, Bool, true, false, refl, sym, ap}
use Rattle.std.specs.Prelude.{codes, if◌then◌else◌}
use Rattle.vpg_terminal.specs.Following.{begins, behind_word}
use Rattle.vpg_terminal.specs.declared.hearing.Heard.{Heard}
use Rattle.vpg_terminal.specs.declared.hearing.Heard.TheVariants as hears
use Rattle.vpg_terminal.proofs.hearing.heard_of.Goals.{then-starts_with, else-starts_with, then-starts_with-6, else-starts_with-6}
use Rattle.vpg_terminal.proofs.hearing.heard_of.Goals as goal

-- nothing else is told before the last test
none_before : (a b d r e f t : Bool) → a ≡ false → b ≡ false → d ≡ false → r ≡ false → e ≡ false → f ≡ t → (if t then hears.Hopeless else hears.Nothing)
    ≡ (if a then hears.Fault else (if b then hears.Unknown else (if d then hears.Conflict else (if r then hears.Refused else (if e then hears.Swept else (if f then hears.Hopeless else hears.Nothing))))))
none_before a b d r e f t p q s u v w = rw (p, q, s, u, v, w) refl

pub returns-then-starts_with-8 : goal.returns-then-starts_with-8
returns-then-starts_with-8 c =
    let a = c.args.answer.now in
    let first : c.if-starts_with.value ≡ (begins a (codes "refused Word") || begins a (codes "refused Args")) = elim c.if-starts_with.branch [
      | then-starts_with w ↦ w.value-is ∙ w.if-starts_with.true ∙ sym (ap (λ (b : Bool). b || begins a (codes "refused Args")) (sym c.starts_with.ensures.value ∙ w.if-starts_with.true))
      | else-starts_with w ↦ w.value-is ∙ w.starts_with-else-starts_with.ensures.value ∙ sym (ap (λ (b : Bool). b || begins a (codes "refused Args")) (sym c.starts_with.ensures.value ∙ w.if-starts_with.false))
    ] in
    let swept : c.if-starts_with-6.value ≡ (begins a (codes "settled ") || begins a (codes "unsettled ")) = elim c.if-starts_with-6.branch [
      | then-starts_with-6 w ↦ w.value-is ∙ w.if-starts_with-6.true ∙ sym (ap (λ (b : Bool). b || begins a (codes "unsettled ")) (sym c.starts_with-else-starts_with-5.ensures.value ∙ w.if-starts_with-6.true))
      | else-starts_with-6 w ↦ w.value-is ∙ w.starts_with-else-starts_with-6.ensures.value ∙ sym (ap (λ (b : Bool). b || begins a (codes "unsettled ")) (sym c.starts_with-else-starts_with-5.ensures.value ∙ w.if-starts_with-6.false))
    ] in
    let behind = c.behind_word-else-starts_with-7-2.ensures ∙ ap behind_word (c.behind_word-else-starts_with-7.ensures ∙ ap behind_word c.behind_word.ensures) in
    none_before _ _ _ _ _ _ true (sym first ∙ c.if-starts_with-2.false) (sym c.starts_with-else-starts_with-2.ensures.value ∙ c.if-starts_with-3.false)
    (sym c.starts_with-else-starts_with-3.ensures.value ∙ c.if-starts_with-4.false) (sym c.starts_with-else-starts_with-4.ensures.value ∙ c.if-starts_with-5.false)
    (sym swept ∙ c.if-starts_with-7.false)
    (sym (c.starts_with-else-starts_with-7.ensures.value ∙ ap (λ (l : List ℕ). begins l (codes "hopeless ")) behind) ∙ c.if-starts_with-8.true)

pub returns-else-starts_with-8 : goal.returns-else-starts_with-8
returns-else-starts_with-8 c =
    let a = c.args.answer.now in
    let first : c.if-starts_with.value ≡ (begins a (codes "refused Word") || begins a (codes "refused Args")) = elim c.if-starts_with.branch [
      | then-starts_with w ↦ w.value-is ∙ w.if-starts_with.true ∙ sym (ap (λ (b : Bool). b || begins a (codes "refused Args")) (sym c.starts_with.ensures.value ∙ w.if-starts_with.true))
      | else-starts_with w ↦ w.value-is ∙ w.starts_with-else-starts_with.ensures.value ∙ sym (ap (λ (b : Bool). b || begins a (codes "refused Args")) (sym c.starts_with.ensures.value ∙ w.if-starts_with.false))
    ] in
    let swept : c.if-starts_with-6.value ≡ (begins a (codes "settled ") || begins a (codes "unsettled ")) = elim c.if-starts_with-6.branch [
      | then-starts_with-6 w ↦ w.value-is ∙ w.if-starts_with-6.true ∙ sym (ap (λ (b : Bool). b || begins a (codes "unsettled ")) (sym c.starts_with-else-starts_with-5.ensures.value ∙ w.if-starts_with-6.true))
      | else-starts_with-6 w ↦ w.value-is ∙ w.starts_with-else-starts_with-6.ensures.value ∙ sym (ap (λ (b : Bool). b || begins a (codes "unsettled ")) (sym c.starts_with-else-starts_with-5.ensures.value ∙ w.if-starts_with-6.false))
    ] in
    let behind = c.behind_word-else-starts_with-7-2.ensures ∙ ap behind_word (c.behind_word-else-starts_with-7.ensures ∙ ap behind_word c.behind_word.ensures) in
    none_before _ _ _ _ _ _ false (sym first ∙ c.if-starts_with-2.false) (sym c.starts_with-else-starts_with-2.ensures.value ∙ c.if-starts_with-3.false)
    (sym c.starts_with-else-starts_with-3.ensures.value ∙ c.if-starts_with-4.false) (sym c.starts_with-else-starts_with-4.ensures.value ∙ c.if-starts_with-5.false)
    (sym swept ∙ c.if-starts_with-7.false)
    (sym (c.starts_with-else-starts_with-7.ensures.value ∙ ap (λ (l : List ℕ). begins l (codes "hopeless ")) behind) ∙ c.if-starts_with-8.false)
