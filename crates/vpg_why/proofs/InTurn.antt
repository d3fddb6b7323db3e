-- What is needed in turn and suffices is one list.
use Rattle.std.proofs.Common.{◌≡◌, ℕ, zero, suc, ◌<◌, ◌≤◌, ◌⊎◌, inl, inr, Bool, true, IsTrue, List, [], ◌∷◌, ◌++◌, length, take, drop, get_or, Contains, refl, sym, ap, ◌∙◌, subst, append-nil, append_assoc, arith}
use Rattle.std.specs.List.{AllByRecursion}
use Rattle.std.proofs.Math.Seq.{take-suc, drop-cons, drop-length}
use Rattle.std.proofs.lemmas.List.{map-append, take-append-drop}
use Rattle.std.proofs.lemmas.List.Elements.{Contains-append_left, Contains-append_right, Contains-append_cases}
use Rattle.vpg_diagram.specs.declared.clause.Literal.{Literal}
use Rattle.vpg_diagram.proofs.Lists.{Contains-there, All-append}
use Rattle.vpg_partial.specs.Known.{literal_of}
use Rattle.vpg_partial.specs.TableLaws.{AreAmong}
use Rattle.vpg_partial.specs.declared.decision.Decision.{Decision}
use Rattle.vpg_why.specs.Explained.{choices, AreNeededInTurn, done, skipped, taken}

module _ (Suffices : List Literal → Type 0) where
  -- one more decision in the middle
  wider : (before listed : List Decision) (d : Decision) → AreAmong (choices (before ++ listed)) (choices ((before ++ d ∷ []) ++ listed))
  wider before listed d c h = rw same (of (Contains-append_cases (choices before) (choices listed) c (rw (map-append literal_of before listed) at h)))
    where
      same : choices ((before ++ d ∷ []) ++ listed) ≡ choices before ++ literal_of d ∷ choices listed
      same = ap choices (append_assoc before (d ∷ []) listed) ∙ map-append literal_of before (d ∷ listed)

      of : Contains (choices before) c ⊎ Contains (choices listed) c → Contains (choices before ++ literal_of d ∷ choices listed) c
      of (inl k) = Contains-append_left (choices before) (literal_of d ∷ choices listed) c k
      of (inr k) = Contains-append_right (choices before) (literal_of d ∷ choices listed) c (Contains-there (literal_of d) (choices listed) c k)

  module _ (P : Literal → Type 0) (more : (few many : List Literal) → AllByRecursion P few → AreAmong few many → Suffices few → Suffices many) where
    wide : (before listed : List Decision) (d : Decision) → AllByRecursion P (choices before) → AllByRecursion P (choices listed) → Suffices (choices (before ++ listed)) → Suffices (choices ((before ++ d ∷ []) ++ listed))
    wide before listed d nb nl h = more (choices (before ++ listed)) (choices ((before ++ d ∷ []) ++ listed)) (rw (map-append literal_of before listed) (All-append P (choices before) (choices listed) nb nl)) (wider before listed d) h

    moved : (before listed : List Decision) (d : Decision) → Suffices (choices (before ++ d ∷ listed)) → Suffices (choices ((before ++ d ∷ []) ++ listed))
    moved before listed d h = subst (λ (ds : List Decision). Suffices (choices ds)) (sym (append_assoc before (d ∷ []) listed)) h

    -- the same list, whatever other one there is
    abbrev IsOne : (before rest one : List Decision) → Type 0
    IsOne before rest one = (other : List Decision) → AreNeededInTurn Suffices true before rest other → AllByRecursion P (choices other) → Suffices (choices (before ++ one)) → Suffices (choices (before ++ other)) → one ≡ other

    one_after_skip : (before rest one : List Decision) (d : Decision) → AllByRecursion P (choices before) → AllByRecursion P (choices one) → IsOne (before ++ d ∷ []) rest one → {other : List Decision} → AreNeededInTurn Suffices true before (d ∷ rest) other → AllByRecursion P (choices other) →
        Suffices (choices (before ++ one)) → Suffices (choices (before ++ other)) → one ≡ other
    one_after_skip before rest one d nb named same (skipped {listed = other} b) nt h k = same other b nt (wide before one d nb named h) (wide before other d nb nt k)
    one_after_skip before rest one d nb named same (taken {listed = other} short b) nt h k =
        absurd (short refl (subst (λ (ds : List Decision). Suffices (choices (before ++ ds))) (same other b nt.1 (wide before one d nb named h) (moved before other d k)) h))

    one_after_taking : (before rest one : List Decision) (d : Decision) → AllByRecursion P (choices before) → (Suffices (choices (before ++ one)) → ⊥) → IsOne (before ++ d ∷ []) rest one → {other : List Decision} → AreNeededInTurn Suffices true before (d ∷ rest) other → AllByRecursion P (choices other) →
        Suffices (choices (before ++ d ∷ one)) → Suffices (choices (before ++ other)) → d ∷ one ≡ other
    one_after_taking before rest one d nb lacks same (skipped {listed = other} b) nt h k =
        absurd (lacks (subst (λ (ds : List Decision). Suffices (choices (before ++ ds))) (sym (same other b nt (moved before one d h) (wide before other d nb nt k))) k))
    one_after_taking before rest one d nb lacks same (taken {listed = other} short b) nt h k = ap (λ (ds : List Decision). d ∷ ds) (same other b nt.1 (moved before one d h) (moved before other d k))

    further : (before : List Decision) (d : Decision) → AllByRecursion P (choices before) → P (literal_of d) → AllByRecursion P (choices (before ++ d ∷ []))
    further before d nb n = rw (map-append literal_of before (d ∷ [])) (All-append P (choices before) (literal_of d ∷ []) nb (n, tt))

    pub one_list : {before rest one : List Decision} → AreNeededInTurn Suffices true before rest one → AllByRecursion P (choices before) → AllByRecursion P (choices rest) → AllByRecursion P (choices one) → IsOne before rest one
    one_list (done {before}) nb nr named other b nt h k = none b
      where
        none : {other : List Decision} → AreNeededInTurn Suffices true before [] other → [] ≡ other
        none done = refl
    one_list (skipped {d} {before} {rest} {listed} a) nb nr named other b nt h k = one_after_skip before rest listed d nb named (one_list a (further before d nb nr.0) nr.1 named) b nt h k
    one_list (taken {d} {before} {rest} {listed} short a) nb nr named other b nt h k = one_after_taking before rest listed d nb (short refl) (one_list a (further before d nb nr.0) nr.1 named.1) b nt h k

-- where less is shown
pub weaker : (Suffices : List Literal → Type 0) (exact final : Bool) → (IsTrue final → IsTrue exact) → {before rest listed : List Decision} → AreNeededInTurn Suffices exact before rest listed → AreNeededInTurn Suffices final before rest listed
weaker Suffices exact final i done = done
weaker Suffices exact final i (skipped a) = skipped (weaker Suffices exact final i a)
weaker Suffices exact final i (taken short a) = taken (λ t. short (i t)) (weaker Suffices exact final i a)

module _ (Suffices : List Literal → Type 0) (exact : Bool) where
  -- those that stand in a front are skipped
  skip_front : (before front rest listed : List Decision) → AreNeededInTurn Suffices exact (before ++ front) rest listed → AreNeededInTurn Suffices exact before (front ++ rest) listed
  skip_front before [] rest listed h = subst (λ (ds : List Decision). AreNeededInTurn Suffices exact ds rest listed) (append-nil before) h
  skip_front before (d ∷ front) rest listed h = skipped (skip_front (before ++ d ∷ []) front rest listed (subst (λ (ds : List Decision). AreNeededInTurn Suffices exact ds rest listed) (sym (append_assoc before (d ∷ []) front)) h))

  skip_back : (before ds listed : List Decision) (place most : ℕ) → place ≤ most → AreNeededInTurn Suffices exact (before ++ take most ds) (drop most ds) listed → AreNeededInTurn Suffices exact (before ++ take place ds) (drop place ds) listed
  skip_back before ds listed zero most le h = subst (λ (bs : List Decision). AreNeededInTurn Suffices exact bs ds listed) (sym (append-nil before))
      (subst (λ (rs : List Decision). AreNeededInTurn Suffices exact before rs listed) (take-append-drop most ds) (skip_front before (take most ds) (drop most ds) listed h))
  skip_back before [] listed (suc place) zero le h = absurd (omega (arith, le))
  skip_back before [] listed (suc place) (suc most) le h = h
  skip_back before (d ∷ ds) listed (suc place) zero le h = absurd (omega (arith, le))
  skip_back before (d ∷ ds) listed (suc place) (suc most) le h = subst (λ (bs : List Decision). AreNeededInTurn Suffices exact bs (drop place ds) listed) (append_assoc before (d ∷ []) (take place ds))
      (skip_back (before ++ d ∷ []) ds listed place most (omega (arith, le)) (subst (λ (bs : List Decision). AreNeededInTurn Suffices exact bs (drop most ds) listed) (sym (append_assoc before (d ∷ []) (take most ds))) h))

  pub shorter : (ds listed : List Decision) (place most : ℕ) → place ≤ most → AreNeededInTurn Suffices exact (take most ds) (drop most ds) listed → AreNeededInTurn Suffices exact (take place ds) (drop place ds) listed
  shorter ds listed place most le h = skip_back [] ds listed place most le h

  -- one more is listed
  pub one_more : (ds listed : List Decision) (place most : ℕ) (x : Decision) → place < most → place < length ds → (IsTrue exact → Suffices (choices (take place ds ++ listed)) → ⊥) → AreNeededInTurn Suffices exact (take most ds) (drop most ds) listed →
      AreNeededInTurn Suffices exact (take place ds) (drop place ds) (get_or ds place x ∷ listed)
  one_more ds listed place most x less inside lacks h = subst (λ (rs : List Decision). AreNeededInTurn Suffices exact (take place ds) rs (get_or ds place x ∷ listed)) (sym (drop-cons ds place x inside))
      (taken lacks (subst (λ (bs : List Decision). AreNeededInTurn Suffices exact bs (drop (suc place) ds) listed) (take-suc ds place x inside) (shorter ds listed (suc place) most (omega (arith, less)) h)))

  -- nothing is listed yet
  pub none_yet : (ds : List Decision) → AreNeededInTurn Suffices exact (take (length ds) ds) (drop (length ds) ds) []
  none_yet ds = subst (λ (rs : List Decision). AreNeededInTurn Suffices exact (take (length ds) ds) rs []) (sym (drop-length ds)) done
