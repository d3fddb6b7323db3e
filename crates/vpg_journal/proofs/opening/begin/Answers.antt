use Rattle.std.proofs.Common.{◌∙◌, ◌-◌, ◌++◌, [], ◌∷◌, List, ℕ, length, take, drop, ap, subst, arith}
use Rattle.std.proofs.lemmas.List.{take_rest}
use Rattle.vpg_journal.specs.Frames.{records_of}
use Rattle.vpg_journal.specs.Head.{head_of}
use Rattle.vpg_journal.specs.Journal.{IsBeforeOrAfter}
use Rattle.vpg_journal.proofs.Steps.{tail_of}
use Rattle.vpg_journal.proofs.opening.begin.Goals as goal

pub append-requires-clause-batch : goal.append-requires-clause-batch
append-requires-clause-batch g c =
    (tail_of (head_of c.args.family.now ∷ []) c.deref.result.now _ (omega arith) c.in_ok-bytes.ensures.short (c.deref.ensures.value ∙ c.in_ok-bytes.ensures.bytes) (take_rest c.deref.result.now 1)).batch

pub returns-in-Err-append-clause-any_crash : goal.returns-in-Err-append-clause-any_crash
returns-in-Err-append-clause-any_crash g c clean x left =
    let bytes = c.deref.result.now in
    let heads = head_of c.args.family.now ∷ [] in
    let tail = tail_of heads bytes _ (omega arith) c.in_ok-bytes.ensures.short (c.deref.ensures.value ∙ c.in_ok-bytes.ensures.bytes) (take_rest bytes 1) in
    let none = c.in_default.ensures.none (c.append.ensures.clean clean) in
    subst (λ (rs : List (List ℕ)). IsBeforeOrAfter [] rs x) tail.same
    (subst (λ (rs : List (List ℕ)). IsBeforeOrAfter rs (records_of (1 ∷ take (length bytes - 1) (drop 1 bytes))) x) none (c.append.ensures.any_crash clean x left))

pub returns-clause-head : goal.returns-clause-head
returns-clause-head g c clean =
    let bytes = c.deref.result.now in
    let heads = head_of c.args.family.now ∷ [] in
    let tail = tail_of heads bytes _ (omega arith) c.in_ok-bytes.ensures.short (c.deref.ensures.value ∙ c.in_ok-bytes.ensures.bytes) (take_rest bytes 1) in
    let none = c.in_default.ensures.none (c.append.ensures.clean clean) in
    c.in_default-append.ensures.added clean ∙ ap (λ (rs : List (List ℕ)). rs ++ records_of (1 ∷ take (length bytes - 1) (drop 1 bytes))) none ∙ tail.same

pub returns-clause-any_crash : goal.returns-clause-any_crash
returns-clause-any_crash g c clean x left =
    let bytes = c.deref.result.now in
    let heads = head_of c.args.family.now ∷ [] in
    let tail = tail_of heads bytes _ (omega arith) c.in_ok-bytes.ensures.short (c.deref.ensures.value ∙ c.in_ok-bytes.ensures.bytes) (take_rest bytes 1) in
    let none = c.in_default.ensures.none (c.append.ensures.clean clean) in
    subst (λ (rs : List (List ℕ)). IsBeforeOrAfter [] rs x) tail.same
    (subst (λ (rs : List (List ℕ)). IsBeforeOrAfter rs (records_of (1 ∷ take (length bytes - 1) (drop 1 bytes))) x) none (c.append.ensures.any_crash clean x left))
