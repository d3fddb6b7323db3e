-- The decisions among entries, one entry more, and the place of one.
use Rattle.std.proofs.Common.{◌≡◌, ℕ, ◌+◌, ◌<◌, Bool, true, false, ◌||◌, ◌==◌, List, [], ◌∷◌, ◌++◌, map, length, take, drop, get_or, refl, sym, ap, ◌∙◌, eq-eqb, ne_eqb, take-append-drop}
use Rattle.std.proofs.Common.{Option, Some, None, find}
use Rattle.std.proofs.lemmas.Bool.{or_parts, or_right, or_from, cond-true, cond-false}
use Rattle.std.proofs.lemmas.List.{map-append, map_more, drop_more}
use Rattle.std.proofs.lemmas.List.Folds.{find-append}
use Rattle.std.specs.Option.{option_or}
use Rattle.vpg_trail.specs.Page.{Decision, Entry as Step, Decided, Lifted, decisions_of, decision_on, has_decided, before_decision, after_decision}
use Rattle.vpg_trail.specs.declared.entry.Entry.{Entry}
use Rattle.vpg_trail.specs.Shown.{entry_of}
use Rattle.vpg_trail.proofs.PageLemmas.{decisions_of-append, has_decided-append}

-- the entries round the one that a loop reads
pub split_read : (entries : List Entry) (i : ℕ) (x : Entry) → i < length entries → x ≡ get_or entries i x →
    map entry_of entries ≡ map entry_of (take i entries) ++ entry_of x ∷ map entry_of (drop (i + 1) entries)
split_read entries i x h r =
    ap (map entry_of) (sym (take-append-drop i entries))
    ∙ map-append entry_of (take i entries) (drop i entries)
    ∙ ap (λ (l : List Entry). map entry_of (take i entries) ++ map entry_of l) (drop_more entries i x h ∙ ap (λ (y : Entry). y ∷ drop (i + 1) entries) (sym r))

pub read_more : (entries : List Entry) (i : ℕ) (x : Entry) → i < length entries → x ≡ get_or entries i x → map entry_of (take (i + 1) entries) ≡ map entry_of (take i entries) ++ entry_of x ∷ []
read_more entries i x h r = map_more entry_of entries i x h ∙ ap (λ (y : Entry). map entry_of (take i entries) ++ entry_of y ∷ []) (sym r)

decision_on-append : (f : ℕ) (xs ys : List Step) → decision_on f (xs ++ ys) ≡ option_or (decision_on f xs) (decision_on f ys)
decision_on-append f xs ys = ap (find (λ d. d.feature == f)) (decisions_of-append xs ys) ∙ find-append (λ d. d.feature == f) (decisions_of xs) (decisions_of ys)

pub decided_found : (f : ℕ) (before : List Step) (d : Decision) (after : List Step) → decision_on f before ≡ None → d.feature ≡ f → Some d ≡ decision_on f (before ++ Decided d ∷ after)
decided_found f before d after n e =
    sym (decision_on-append f before (Decided d ∷ after) ∙ ap (λ (o : Option Decision). option_or o (decision_on f (Decided d ∷ after))) n ∙ cond-true _ _ _ (eq-eqb d.feature f e))

pub none_more : (f : ℕ) (before : List Step) (e : Step) → decision_on f before ≡ None → decision_on f (e ∷ []) ≡ None → decision_on f (before ++ e ∷ []) ≡ None
none_more f before e n m = decision_on-append f before (e ∷ []) ∙ ap (λ (o : Option Decision). option_or o (decision_on f (e ∷ []))) n ∙ m

pub none_here : (f : ℕ) (d : Decision) → (d.feature ≡ f → ⊥) → decision_on f (Decided d ∷ []) ≡ None
none_here f d n = cond-false _ _ _ (ne_eqb d.feature f n)

-- ---- the place of the decision

pub found_before : (f : ℕ) (before : List Step) (d : Decision) (after : List Step) → has_decided f before ≡ false → d.feature ≡ f → before_decision f (before ++ Decided d ∷ after) ≡ before
found_before f [] d after n e = cond-true _ _ _ (eq-eqb d.feature f e)
found_before f (Decided x ∷ before) d after n e =
    cond-false _ _ _ (or_parts (x.feature == f) _ n).0 ∙ ap (λ (l : List Step). Decided x ∷ l) (found_before f before d after (or_parts (x.feature == f) _ n).1 e)
found_before f (Lifted l ∷ before) d after n e = ap (λ (k : List Step). Lifted l ∷ k) (found_before f before d after n e)

pub found_after : (f : ℕ) (before : List Step) (d : Decision) (after : List Step) → has_decided f before ≡ false → d.feature ≡ f → after_decision f (before ++ Decided d ∷ after) ≡ after
found_after f [] d after n e = cond-true _ _ _ (eq-eqb d.feature f e)
found_after f (Decided x ∷ before) d after n e = cond-false _ _ _ (or_parts (x.feature == f) _ n).0 ∙ found_after f before d after (or_parts (x.feature == f) _ n).1 e
found_after f (Lifted l ∷ before) d after n e = found_after f before d after n e

pub found_decided : (f : ℕ) (before : List Step) (d : Decision) (after : List Step) → d.feature ≡ f → has_decided f (before ++ Decided d ∷ after) ≡ true
found_decided f before d after e = has_decided-append f before (Decided d ∷ after) ∙ or_right _ _ (ap (λ (b : Bool). b || has_decided f after) (eq-eqb d.feature f e))

pub undecided_more : (f : ℕ) (before : List Step) (e : Step) → has_decided f before ≡ false → has_decided f (e ∷ []) ≡ false → has_decided f (before ++ e ∷ []) ≡ false
undecided_more f before e n m = has_decided-append f before (e ∷ []) ∙ or_from _ _ n m

pub undecided_here : (f : ℕ) (d : Decision) → (d.feature ≡ f → ⊥) → has_decided f (Decided d ∷ []) ≡ false
undecided_here f d n = or_from (d.feature == f) false (ne_eqb d.feature f n) refl
