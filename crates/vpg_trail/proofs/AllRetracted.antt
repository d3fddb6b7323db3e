-- Retracting every decision leaves a well-formed page without decisions, in whatever order.
use Rattle.std.proofs.Common.{◌≡◌, ℕ, ◌≤◌, Bool, true, false, cond, not, ◌==◌, List, [], ◌∷◌, ◌++◌, map, filter, length, arith, refl, sym, ap, ◌∙◌, subst, append_assoc, append-nil, length-append, ne_eqb}
use Rattle.std.specs.List.{list_any}
use Rattle.std.proofs.lemmas.Bool.{or_left, false≢true}
use Rattle.std.proofs.lemmas.List.Elements.{filter-append}
use Rattle.vpg_trail.specs.Page.{Which, Literal, Decision, Lift, Entry, Decided, Lifted, stands, AllStand, decisions_of, choices_of, literal_of, has_decided, value_at, assumes, before_decision, after_decision, reset, reset_all, kept_after, retracted, is_free, free_after, all_retracted}
use Rattle.vpg_trail.specs.WellFormed.{IsWellFormedAfter, IsWellFormed}
use Rattle.vpg_trail.proofs.PageLemmas.{value_at-append, decisions_of-append, same_literal-refl, well_formed_parts}
use Rattle.vpg_trail.proofs.Retracting.{Split, split_at}

-- ---- what free lifts are

none_assumed : (under : List Literal) → (length under == 0) ≡ true → (c : Literal) → stands under c ≡ true → ⊥
none_assumed [] e c s = false≢true s
none_assumed (a ∷ under) e c s = false≢true (sym (ne_eqb (length (a ∷ under)) 0 (λ z. omega (arith, z))) ∙ e)

assumed_some : (f : ℕ) (under : List Literal) → list_any (λ c. c.feature == f) under ≡ true → (length under == 0) ≡ true → ⊥
assumed_some f [] a e = false≢true a
assumed_some f (c ∷ under) a e = false≢true (sym (ne_eqb (length (c ∷ under)) 0 (λ z. omega (arith, z))) ∙ e)

assumes_nothing : (under : List Literal) → AllStand under [] → (length under == 0) ≡ true
assumes_nothing [] a = refl
assumes_nothing (c ∷ under) a = absurd (false≢true (a c (or_left _ _ (same_literal-refl c))))

-- ---- the page that is left

pub free_undecided : (before later : List Entry) → decisions_of (free_after before later) ≡ []
free_undecided before [] = refl
free_undecided before (Decided d ∷ later) = free_undecided before later
free_undecided before (Lifted l ∷ later) = go (length l.under == 0) (free_undecided before later) (free_undecided (before ++ reset before (Lifted l) ∷ []) later)
  where
    go : (b : Bool) → decisions_of (free_after before later) ≡ [] → decisions_of (free_after (before ++ reset before (Lifted l) ∷ []) later) ≡ [] →
        decisions_of (reset_all before (cond b (Lifted l ∷ filter is_free later) (filter is_free later))) ≡ []
    go true dropped stays = stays
    go false dropped stays = dropped

free_well_formed : (old new later : List Entry) → ((table : Which) (v : ℕ) → value_at table v new ≤ value_at table v old) → IsWellFormedAfter old later → IsWellFormedAfter new (free_after new later)
free_well_formed old new [] t w = tt
free_well_formed old new (Decided d ∷ later) t w =
    free_well_formed (old ++ Decided d ∷ []) new later (λ table v. omega (arith, value_at-append table v old (Decided d ∷ []), t table v)) w.1
free_well_formed old new (Lifted l ∷ later) t w =
    go (length l.under == 0) refl
    (free_well_formed (old ++ Lifted l ∷ []) new later (λ table v. omega (arith, value_at-append table v old (Lifted l ∷ []), t table v)) w.1)
    (free_well_formed (old ++ Lifted l ∷ []) (new ++ reset new (Lifted l) ∷ []) later (λ table v. omega (arith, value_at-append table v old (Lifted l ∷ []), value_at-append table v new (reset new (Lifted l) ∷ []), t table v)) w.1)
  where
    go : (b : Bool) → (length l.under == 0) ≡ b → IsWellFormedAfter new (free_after new later) →
        IsWellFormedAfter (new ++ reset new (Lifted l) ∷ []) (free_after (new ++ reset new (Lifted l) ∷ []) later) →
        IsWellFormedAfter new (reset_all new (cond b (Lifted l ∷ filter is_free later) (filter is_free later)))
    go true e dropped stays = (((refl, omega (arith, t l.table l.vertex, w.0.0.0, w.0.0.1)), λ c s. absurd (none_assumed l.under e c s)), stays)
    go false e dropped stays = dropped

pub all_retracted_well_formed : (page : List Entry) → IsWellFormed page → IsWellFormed (all_retracted page)
all_retracted_well_formed page w = free_well_formed [] [] page (λ table v. omega arith) w

-- ---- one part of a page after another

reset_all-append : (before xs ys : List Entry) → reset_all before (xs ++ ys) ≡ reset_all before xs ++ reset_all (before ++ reset_all before xs) ys
reset_all-append before [] ys = ap (λ (l : List Entry). reset_all l ys) (sym (append-nil before))
reset_all-append before (x ∷ xs) ys =
    ap (λ (l : List Entry). reset before x ∷ l) (
    reset_all-append (before ++ reset before x ∷ []) xs ys
    ∙ ap (λ (l : List Entry). reset_all (before ++ reset before x ∷ []) xs ++ reset_all l ys) (append_assoc before (reset before x ∷ []) (reset_all (before ++ reset before x ∷ []) xs)))

free_after-append : (before xs ys : List Entry) → free_after before (xs ++ ys) ≡ free_after before xs ++ free_after (before ++ free_after before xs) ys
free_after-append before xs ys = ap (reset_all before) (filter-append is_free xs ys) ∙ reset_all-append before (filter is_free xs) (filter is_free ys)

-- before the first decision each lift is free
pub undecided_is_free : (before page : List Entry) → decisions_of (before ++ page) ≡ [] → IsWellFormedAfter before page → free_after before page ≡ page
undecided_is_free before [] n w = refl
undecided_is_free before (Decided d ∷ page) n w =
    absurd (omega (arith, ap length (sym (decisions_of-append before (Decided d ∷ page)) ∙ n), length-append (decisions_of before) (d ∷ decisions_of page)))
undecided_is_free before (Lifted l ∷ page) n w =
    ap (λ (b : Bool). reset_all before (cond b (Lifted l ∷ filter is_free page) (filter is_free page))) free
    ∙ ap (λ (e : Entry). e ∷ free_after (before ++ e ∷ []) page) same
    ∙ ap (λ (k : List Entry). Lifted l ∷ k) (undecided_is_free (before ++ Lifted l ∷ []) page (ap decisions_of (append_assoc before (Lifted l ∷ []) page) ∙ n) w.1)
  where
    none : decisions_of before ≡ []
    none = empty_left (decisions_of before) (decisions_of page) (sym (decisions_of-append before (Lifted l ∷ page)) ∙ n)
      where
        empty_left : (xs ys : List Decision) → xs ++ ys ≡ [] → xs ≡ []
        empty_left [] ys e = refl
        empty_left (x ∷ xs) ys e = cc

    free : (length l.under == 0) ≡ true
    free = assumes_nothing l.under (subst (λ (ds : List Decision). AllStand l.under (map literal_of ds)) none w.0.1)

    same : reset before (Lifted l) ≡ Lifted l
    same = ap (λ (old : ℕ). Lifted (record l { old = old })) (sym w.0.0.0)

-- a reset cuts at the first decision
pub cut_at_first : (before later : List Entry) (d : Decision) → IsWellFormed (before ++ Decided d ∷ later) → decisions_of before ≡ [] → before ++ free_after before later ≡ all_retracted (before ++ Decided d ∷ later)
cut_at_first before later d w n =
    sym (free_after-append [] before (Decided d ∷ later)
    ∙ ap (λ (l : List Entry). l ++ free_after l later) (undecided_is_free [] before n (well_formed_parts [] before (Decided d ∷ later) w).0))

-- ---- one decision after another

free_of_kept : (f : ℕ) (b before later : List Entry) → free_after b (reset_all before (filter (λ e. not (assumes f e)) later)) ≡ free_after b later
free_of_kept f b before [] = refl
free_of_kept f b before (Decided d ∷ later) = free_of_kept f b (before ++ Decided d ∷ []) later
free_of_kept f b before (Lifted l ∷ later) =
    go (assumes f (Lifted l)) (length l.under == 0) refl refl (free_of_kept f b before later) (free_of_kept f b (before ++ reset before (Lifted l) ∷ []) later)
    (free_of_kept f (b ++ reset b (Lifted l) ∷ []) (before ++ reset before (Lifted l) ∷ []) later)
  where
    rest : List Entry
    rest = filter (λ e. not (assumes f e)) later

    go : (a k : Bool) → assumes f (Lifted l) ≡ a → (length l.under == 0) ≡ k → free_after b (reset_all before rest) ≡ free_after b later →
        free_after b (reset_all (before ++ reset before (Lifted l) ∷ []) rest) ≡ free_after b later →
        free_after (b ++ reset b (Lifted l) ∷ []) (reset_all (before ++ reset before (Lifted l) ∷ []) rest) ≡ free_after (b ++ reset b (Lifted l) ∷ []) later →
        free_after b (reset_all before (cond (not a) (Lifted l ∷ rest) rest)) ≡ reset_all b (cond k (Lifted l ∷ filter is_free later) (filter is_free later))
    go true true ea ek dropped kept both = absurd (assumed_some f l.under ea ek)
    go true false ea ek dropped kept both = dropped
    go false true ea ek dropped kept both =
        ap (λ (k : Bool). reset_all b (cond k (reset before (Lifted l) ∷ filter is_free (reset_all (before ++ reset before (Lifted l) ∷ []) rest)) (filter is_free (reset_all (before ++ reset before (Lifted l) ∷ []) rest)))) ek
        ∙ ap (λ (x : List Entry). reset b (Lifted l) ∷ x) both
    go false false ea ek dropped kept both =
        ap (λ (k : Bool). reset_all b (cond k (reset before (Lifted l) ∷ filter is_free (reset_all (before ++ reset before (Lifted l) ∷ []) rest)) (filter is_free (reset_all (before ++ reset before (Lifted l) ∷ []) rest)))) ek
        ∙ kept

-- retracting one decision first changes nothing
pub free_of_retracted : (f : ℕ) (page : List Entry) → has_decided f page ≡ true → all_retracted (retracted f page) ≡ all_retracted page
free_of_retracted f page h =
    let s : Split f page = split_at f page h in
    free_after-append [] (before_decision f page) (kept_after f page)
    ∙ ap (λ (l : List Entry). all_retracted (before_decision f page) ++ l) (free_of_kept f (all_retracted (before_decision f page)) (before_decision f page) (after_decision f page))
    ∙ sym (ap all_retracted s.parts ∙ free_after-append [] (before_decision f page) (Decided s.decision ∷ after_decision f page))
