use Rattle.std.proofs.Common.{◌≡◌, List, ℕ, ap, subst, ◌∙◌}
use Rattle.vpg_formula.specs.Words.{words_of}
use Rattle.vpg_formula.specs.ReadCode.{texts}
use Rattle.vpg_formula.specs.EntryReading.{requirements_at}
use Rattle.vpg_formula.specs.EntryCode.{entries_of, Refuses, AreWhole}
use Rattle.vpg_formula.specs.FaultCode.{HaltsAt}
use Rattle.vpg_formula.proofs.EntryCode.{text_refused, refused_only, text_read, text_only}
use Rattle.vpg_formula.proofs.Faults.{halt_is_at}
use Rattle.vpg_formula.proofs.requirement.Requirements.read.Goals as goal

pub returns-in-Ok-whole-clause-found : goal.returns-in-Ok-whole-clause-found
returns-in-Ok-whole-clause-found c =
    let text = c.args.text.now in
    let made = entries_of c.in-Ok-whole.entries.items in
    let same : texts c.deref.result.now ≡ words_of text = ap texts c.deref.ensures.value ∙ c.in-Ok.ensures.words in
    text_read text made (subst (λ (ws : List (List ℕ)). AreWhole made (requirements_at ws)) same c.in-Ok-whole.ensures.whole)

pub returns-in-Ok-whole-clause-only : goal.returns-in-Ok-whole-clause-only
returns-in-Ok-whole-clause-only c es s =
    let text = c.args.text.now in
    let made = entries_of c.in-Ok-whole.entries.items in
    let same : texts c.deref.result.now ≡ words_of text = ap texts c.deref.ensures.value ∙ c.in-Ok.ensures.words in
    text_only text made es (subst (λ (ws : List (List ℕ)). AreWhole made (requirements_at ws)) same c.in-Ok-whole.ensures.whole) s

pub returns-clause-refused : goal.returns-clause-refused
returns-clause-refused c =
    let text = c.args.text.now in
    let halt = c.in-Err.halt in
    let same : texts c.deref.result.now ≡ words_of text = ap texts c.deref.ensures.value ∙ c.in-Ok.ensures.words in
    text_refused text halt c.fault.result c.fault.ensures.memory c.fault.ensures.negated (subst (λ (ws : List (List ℕ)). Refuses halt (requirements_at ws)) same c.in-Err.ensures.none)

pub returns-clause-only : goal.returns-clause-only
returns-clause-only c es s =
    let text = c.args.text.now in
    let halt = c.in-Err.halt in
    let same : texts c.deref.result.now ≡ words_of text = ap texts c.deref.ensures.value ∙ c.in-Ok.ensures.words in
    refused_only text c.fault.result es (text_refused text halt c.fault.result c.fault.ensures.memory c.fault.ensures.negated (subst (λ (ws : List (List ℕ)). Refuses halt (requirements_at ws)) same c.in-Err.ensures.none)) s

pub returns-clause-at : goal.returns-clause-at
returns-clause-at c =
    let text = c.args.text.now in
    let halt = c.in-Err.halt in
    let same : texts c.deref.result.now ≡ words_of text = ap texts c.deref.ensures.value ∙ c.in-Ok.ensures.words in
    rw c.fault.ensures.at (halt_is_at text c.in-Ok.words.places.items halt c.in-Ok.ensures.places (subst (λ (ws : List (List ℕ)). HaltsAt ws halt) same c.in-Err.ensures.at))
