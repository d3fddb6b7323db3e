-- A worklist: what stays done, and that rules add nothing where nothing waits.
use Rattle.std.proofs.Common.{◌≡◌, ◌≢◌, ℕ, ◌+◌, ◌-◌, ◌<◌, ◌≤◌, Bool, true, false, not, ◌&&◌, ◌==◌, cond, List, [], ◌∷◌, ◌++◌, length, take, get_or, Some, slice_get, Contains, count_by, IsTrue, Result, Ok, Err, OnOk, ◌⊎◌, inl, inr, refl, sym, ap, ◌∙◌, subst, arith}
use Rattle.std.specs.List.{AllByRecursion}
use Rattle.std.proofs.lemmas.Bool.{cases_Bool, cases_eq, cases_lt}
use Rattle.std.proofs.lemmas.List.{length-append, take_more}
use Rattle.std.proofs.lemmas.Option.{slice_get_within}
use Rattle.std.proofs.lemmas.List.Elements.{Contains-append_left, Contains-append_right, Contains-append_cases}
use Rattle.vpg_diagram.specs.declared.clause.Literal.{Literal}
use Rattle.vpg_diagram.specs.Tally.{Tally}
use Rattle.vpg_diagram.specs.Clauses.{feature_in, feature_out}
use Rattle.vpg_guards.specs.declared.tri.Tri.{Tri}
use Rattle.vpg_diagram.proofs.Lists.{Contains-here, Contains-there, Contains-cons, Contains-nil, Contains-only, All-contained, All-from_contained, All-at, All-from_at}
use Rattle.vpg_partial.specs.Known.{negation, IsClosed, IsClosedAtClause, IsClosedAtCount, count_known_in, count_known_out, count_others_in, count_others_out}
use Rattle.vpg_partial.specs.KnownTable.{literals_in}
use Rattle.vpg_partial.specs.Propagation.{AddsLiteral}
use Rattle.vpg_partial.specs.Rules.{Rule, AtClause, AtCount, HasNumber, features_of, IsClosedAt, IsIndex, IsMissing, IsDone, IsDoneAt, AreDone, Advances}
use Rattle.vpg_partial.proofs.KnownLemmas.{count_by-cons}
use Rattle.vpg_partial.proofs.RuleSteps.{Contains-map}
use Rattle.vpg_partial.proofs.TableSteps.{grows_more, grows_by}

contains_cases : (xs : List ℕ) (f : ℕ) → Contains xs f ⊎ (Contains xs f → ⊥)
contains_cases [] f = inr (λ h. Contains-nil f h)
contains_cases (x ∷ xs) f = go (cases_eq x f) (contains_cases xs f)
  where
    go : (x ≡ f) ⊎ (x ≡ f → ⊥) → Contains xs f ⊎ (Contains xs f → ⊥) → Contains (x ∷ xs) f ⊎ (Contains (x ∷ xs) f → ⊥)
    go (inl e) c = inl (subst (λ (y : ℕ). Contains (x ∷ xs) y) e (Contains-here x xs))
    go (inr n) (inl h) = inl (Contains-there x xs f h)
    go (inr n) (inr m) = inr (λ h. apart (Contains-cons x xs f h))
      where
        apart : (x ≡ f) ⊎ Contains xs f → ⊥
        apart (inl e) = n e
        apart (inr h) = m h

-- ---- a rule that does not speak of the feature

-- a literal of another feature is as it was
same_elsewhere : (old new : List Tri) (l : Literal) → AddsLiteral old l new → (x : Literal) → (x.feature ≡ l.feature → ⊥) → literals_in new x ≡ literals_in old x
same_elsewhere old new l a x n = go (cases_Bool (literals_in new x)) (cases_Bool (literals_in old x))
  where
    from : (x ≡ l) ⊎ IsTrue (literals_in old x) → IsTrue (literals_in old x)
    from (inl e) = absurd (n (ap (λ (y : Literal). y.feature) e))
    from (inr h) = h

    go : (literals_in new x ≡ true) ⊎ (literals_in new x ≡ false) → (literals_in old x ≡ true) ⊎ (literals_in old x ≡ false) → literals_in new x ≡ literals_in old x
    go (inl p) q = p ∙ sym (from (a.only x p))
    go (inr p) (inl q) = let h : literals_in new x ≡ true = a.kept x q in let c : true ≡ false = sym h ∙ p in absurd (cc)
    go (inr p) (inr q) = p ∙ sym q

count_by-agree_on : (p q : ℕ → Bool) (xs : List ℕ) → AllByRecursion (λ x. p x ≡ q x) xs → count_by p xs ≡ count_by q xs
count_by-agree_on p q [] a = refl
count_by-agree_on p q (x ∷ xs) a =
    let e : ◌≡◌ {A = ℕ} (cond (p x) 1 0) (cond (q x) 1 0) = ap (λ b. cond b 1 0) a.0 in
    omega (arith, count_by-cons p x xs, count_by-cons q x xs, e, count_by-agree_on p q xs a.1)

-- two sets that agree on the features of a rule are both closed at it, or neither
closed_agree : (s t : Literal → Bool) (rule : Rule) → ((x : Literal) → Contains (features_of rule) x.feature → t x ≡ s x) → IsClosedAt s rule → IsClosedAt t rule
closed_agree s t (AtClause clause) same closed = λ one c others. same one (Contains-map (λ (x : Literal). x.feature) clause one c)
    ∙ closed one c (All-from_contained (λ l. l ≢ one → IsTrue (s (negation l))) clause
    (λ l h n. sym (same (negation l) (Contains-map (λ (x : Literal). x.feature) clause l h)) ∙ All-contained (λ k. k ≢ one → IsTrue (t (negation k))) clause l others h n))
closed_agree s t (AtCount n) same closed = record {
  member_out = λ c h p k. same (feature_out c) (Contains-there n.parent n.members c h) ∙ closed.member_out c h (parent_in p) (omega (arith, k, others_in c));
  member_in = λ c h p k. same (feature_in c) (Contains-there n.parent n.members c h) ∙ closed.member_in c h (parent_in p) (omega (arith, k, others_out c));
  too_many_in = λ k. same (feature_out n.parent) (Contains-here n.parent n.members) ∙ closed.too_many_in (omega (arith, k, ins));
  too_many_out = λ k. same (feature_out n.parent) (Contains-here n.parent n.members) ∙ closed.too_many_out (omega (arith, k, outs));
}
  where
    parent_in : IsTrue (t (feature_in n.parent)) → IsTrue (s (feature_in n.parent))
    parent_in p = sym (same (feature_in n.parent) (Contains-here n.parent n.members)) ∙ p

    in_same : (d : ℕ) → Contains n.members d → t (feature_in d) ≡ s (feature_in d)
    in_same d h = same (feature_in d) (Contains-there n.parent n.members d h)

    out_same : (d : ℕ) → Contains n.members d → t (feature_out d) ≡ s (feature_out d)
    out_same d h = same (feature_out d) (Contains-there n.parent n.members d h)

    ins : count_known_in t n.members ≡ count_known_in s n.members
    ins = count_by-agree_on (λ d. t (feature_in d)) (λ d. s (feature_in d)) n.members (All-from_contained (λ d. t (feature_in d) ≡ s (feature_in d)) n.members in_same)

    outs : count_known_out t n.members ≡ count_known_out s n.members
    outs = count_by-agree_on (λ d. t (feature_out d)) (λ d. s (feature_out d)) n.members (All-from_contained (λ d. t (feature_out d) ≡ s (feature_out d)) n.members out_same)

    others_in : (c : ℕ) → count_others_in t n.members c ≡ count_others_in s n.members c
    others_in c = count_by-agree_on (λ d. t (feature_in d) && not (d == c)) (λ d. s (feature_in d) && not (d == c)) n.members
        (All-from_contained (λ d. (t (feature_in d) && not (d == c)) ≡ (s (feature_in d) && not (d == c))) n.members (λ d h. ap (λ b. b && not (d == c)) (in_same d h)))

    others_out : (c : ℕ) → count_others_out t n.members c ≡ count_others_out s n.members c
    others_out c = count_by-agree_on (λ d. t (feature_out d) && not (d == c)) (λ d. s (feature_out d) && not (d == c)) n.members
        (All-from_contained (λ d. (t (feature_out d) && not (d == c)) ≡ (s (feature_out d) && not (d == c))) n.members (λ d h. ap (λ b. b && not (d == c)) (out_same d h)))

-- ---- steps

-- what is done stays done where the feature of what is added waits
pub done_after : (old new : List Tri) (waiting : List ℕ) (l : Literal) (rule : Rule) → AddsLiteral old l new → IsDone old waiting rule → IsDone new (waiting ++ l.feature ∷ []) rule
done_after old new waiting l rule a (inr w) = inr (w.0, Contains-append_left waiting (l.feature ∷ []) w.0 w.1, w.2)
done_after old new waiting l rule a (inl closed) = go (contains_cases (features_of rule) l.feature)
  where
    go : Contains (features_of rule) l.feature ⊎ (Contains (features_of rule) l.feature → ⊥) → IsDone new (waiting ++ l.feature ∷ []) rule
    go (inl h) = inr (l.feature, Contains-append_right waiting (l.feature ∷ []) l.feature (Contains-here l.feature []), h)
    go (inr n) = inl (closed_agree (literals_in old) (literals_in new) rule
        (λ x c. same_elsewhere old new l a x (λ e. n (subst (λ (f : ℕ). Contains (features_of rule) f) e c))) closed)

module _ (clauses : List (List Literal)) (counts : List Tally) where
  pub advances_more : (a b c : List Tri) (x y z : List ℕ) → Advances clauses counts a x b y → Advances clauses counts b y c z → Advances clauses counts a x c z
  advances_more a b c x y z p q = record {
    grows = grows_more (IsClosed clauses counts) a b c p.grows q.grows;
    stays = λ rule d. q.stays rule (p.stays rule d);
    work = omega (arith, p.work, q.work);
  }

  pub advances_by : (old new : List Tri) (waiting later : List ℕ) (l : Literal) → IsMissing clauses counts old l → AddsLiteral old l new → later ≡ waiting ++ l.feature ∷ [] → Advances clauses counts old waiting new later
  advances_by old new waiting later l m a e = record {
    grows = grows_by (IsClosed clauses counts) old new l a m.follows;
    stays = λ rule d. subst (λ (w : List ℕ). IsDone new w rule) (sym e) (done_after old new waiting l rule a d);
    work = omega (arith, a.fewer m.absent, ap length e, length-append waiting (l.feature ∷ []));
  }

  -- the next rule, and the rule of the next number in a list
  pub done_next : (known more : List Tri) (waiting later : List ℕ) (next : ℕ) → ((number : ℕ) → number < next → IsDoneAt clauses counts known waiting number) →
      Advances clauses counts known waiting more later → IsDoneAt clauses counts more later next → (number : ℕ) → number < next + 1 → IsDoneAt clauses counts more later number
  done_next known more waiting later next before steps at number b = go (cases_lt number next)
    where
      go : (number < next) ⊎ (next ≤ number) → IsDoneAt clauses counts more later number
      go (inl l) = λ rule h. steps.stays rule (before number l rule h)
      go (inr l) = let e : next ≡ number = omega arith in subst (λ (n : ℕ). IsDoneAt clauses counts more later n) e at

  pub done_each : (known more : List Tri) (waiting later numbers : List ℕ) (i d : ℕ) → i < length numbers → ((number : ℕ) → Contains (take i numbers) number → IsDoneAt clauses counts known waiting number) →
      Advances clauses counts known waiting more later → IsDoneAt clauses counts more later (get_or numbers i d) → (number : ℕ) → Contains (take (i + 1) numbers) number → IsDoneAt clauses counts more later number
  done_each known more waiting later numbers i d l before steps at number b = go (Contains-append_cases (take i numbers) (get_or numbers i d ∷ []) number (subst (λ (ns : List ℕ). Contains ns number) (take_more numbers i d l) b))
    where
      go : Contains (take i numbers) number ⊎ Contains (get_or numbers i d ∷ []) number → IsDoneAt clauses counts more later number
      go (inl h) = λ rule k. steps.stays rule (before number h rule k)
      go (inr h) = subst (λ (n : ℕ). IsDoneAt clauses counts more later n) (Contains-only (get_or numbers i d) number h) at

  -- no rule has a number beyond all clauses and counts
  pub all_done : (known : List Tri) (waiting : List ℕ) (bound : ℕ) → length clauses + length counts ≤ bound → ((number : ℕ) → number < bound → IsDoneAt clauses counts known waiting number) → AreDone clauses counts known waiting
  all_done known waiting bound l done number (AtClause clause) h = let b : number < length clauses = slice_get_within clauses number clause h in done number (omega (arith, b, l)) (AtClause clause) h
  all_done known waiting bound l done number (AtCount count) h =
      let b : number - length clauses < length counts = slice_get_within counts (number - length clauses) count h.1 in done number (omega (arith, b, h.0, l)) (AtCount count) h

  -- a feature leaves the list, and the rules that speak of it are visited
  pub done_without : (known more : List Tri) (waiting rest later row : List ℕ) (index : List (List ℕ)) (f : ℕ) → IsIndex clauses counts index → waiting ≡ rest ++ f ∷ [] → row ≡ get_or index f [] →
      AreDone clauses counts known waiting → Advances clauses counts known rest more later → ((number : ℕ) → Contains row number → IsDoneAt clauses counts more later number) → AreDone clauses counts more later
  done_without known more waiting rest later row index f indexed e is_row done steps visited number rule h = go (done number rule h)
    where
      go : IsDone known waiting rule → IsDone more later rule
      go (inl closed) = steps.stays rule (inl closed)
      go (inr w) = which (Contains-append_cases rest (f ∷ []) w.0 (subst (λ (ws : List ℕ). Contains ws w.0) e w.1))
        where
          which : Contains rest w.0 ⊎ Contains (f ∷ []) w.0 → IsDone more later rule
          which (inl r) = steps.stays rule (inr (w.0, r, w.2))
          which (inr o) = visited number
              (subst (λ (r : List ℕ). Contains r number) (sym is_row) (indexed number rule f h (subst (λ (g : ℕ). Contains (features_of rule) g) (sym (Contains-only f w.0 o)) w.2))) rule h

  -- a literal is added to a closed table, and its feature waits
  pub done_when_added : (old new : List Tri) (waiting later : List ℕ) (l : Literal) → IsClosed clauses counts (literals_in old) → AddsLiteral old l new → later ≡ waiting ++ l.feature ∷ [] → AreDone clauses counts new later
  done_when_added old new waiting later l closed a e number rule h =
      subst (λ (w : List ℕ). IsDone new w rule) (sym e) (done_after old new waiting l rule a (inl (at rule h)))
    where
      at : (rule : Rule) → HasNumber clauses counts number rule → IsClosedAt (literals_in old) rule
      at (AtClause clause) h = All-at (IsClosedAtClause (literals_in old)) clauses number clause closed.at_clauses h
      at (AtCount count) h = All-at (IsClosedAtCount (literals_in old)) counts (number - length clauses) count closed.at_counts h.1

  -- where nothing waits, no rule adds anything
  pub closed_when_none_waits : (known : List Tri) (waiting : List ℕ) → waiting ≡ [] → AreDone clauses counts known waiting → IsClosed clauses counts (literals_in known)
  closed_when_none_waits known waiting e done = record {
    at_clauses = All-from_at (IsClosedAtClause (literals_in known)) clauses (λ k clause h. closed (AtClause clause) (done k (AtClause clause) h));
    at_counts = All-from_at (IsClosedAtCount (literals_in known)) counts (λ k count h. closed (AtCount count) (done (length clauses + k) (AtCount count)
        (omega arith, subst (λ (j : ℕ). slice_get counts j ≡ Some count) (let j : k ≡ length clauses + k - length clauses = omega arith in j) h)));
  }
    where
      closed : (rule : Rule) → IsDone known waiting rule → IsClosedAt (literals_in known) rule
      closed rule (inl c) = c
      closed rule (inr w) = absurd (Contains-nil w.0 (subst (λ (ws : List ℕ). Contains ws w.0) e w.1))

-- an error that a `?` passes on is the callee's
pub passed_on : {T U E : Type 0} (r : Result T E) (s : Result U E) (x y z : E) → r ≡ Err y → y ≡ x → s ≡ Err x → r ≡ Err z → s ≡ Err z
passed_on {T} r s x y z p q h e =
    let w : ◌≡◌ {A = Result T _} (Err y) (Err z) = sym p ∙ e in
    let v : y ≡ z = cc in
    h ∙ ap Err (sym q ∙ v)

pub on_ok_both : {T E P Q S : Type 0} (r : Result T E) → (P → Q → S) → OnOk r P → OnOk r Q → OnOk r S
on_ok_both (Ok x) f p q = f p q
on_ok_both (Err e) f p q = tt
