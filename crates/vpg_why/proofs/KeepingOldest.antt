-- Going through decisions so that the oldest are kept, and each step of it.
use Rattle.std.proofs.Common.{◌≡◌, ℕ, suc, ◌<◌, ◌≤◌, ◌&&◌, Bool, true, false, List, [], ◌∷◌, ◌++◌, length, drop, get_or, IsTrue, Contains, refl, sym, subst, append-nil, append_assoc}
use Rattle.std.specs.List.{AllByRecursion}
use Rattle.std.proofs.Math.Seq.{drop-cons}
use Rattle.std.proofs.Math.ListN.{drop_of_length-le}
use Rattle.std.proofs.lemmas.List.{map-append, length-map}
use Rattle.std.proofs.lemmas.List.Elements.{Contains-get_or}
use Rattle.vpg_diagram.specs.FeatureDiagram.{Line, feature_count}
use Rattle.vpg_partial.specs.TableLaws.{AreAmong, AreChoicesOf}
use Rattle.vpg_diagram.specs.declared.clause.Literal.{Literal}
use Rattle.vpg_diagram.proofs.Lists.{All-append, All-contained, All-from_contained}
use Rattle.vpg_partial.specs.Known.{literal_of}
use Rattle.vpg_partial.specs.declared.decision.Decision.{Decision}
use Rattle.vpg_why.specs.Explained.{choices}
use Rattle.vpg_why.specs.Repaired.{KeepsOldest, ends, keeps, gives_up, IsRepair}
use Rattle.vpg_why.proofs.Next.{both_hold, choice_at}

-- The first decisions are gone through: those kept do not suffice, and whatever comes of the others behind them comes of all.
pub record IsGoing (Suffices : List Literal → Type 0) (P : Literal → Type 0) (decisions kept given : List Decision) (place : ℕ) (exact : Bool) : Type 0 where
  pub so_far : (final : Bool) → (IsTrue final → IsTrue exact) → (k g : List Decision) → KeepsOldest Suffices final kept (drop place decisions) k g → KeepsOldest Suffices final [] decisions (kept ++ k) (given ++ g)
  pub possible : Suffices (choices kept) → ⊥
  pub named : AllByRecursion P (choices kept)

-- each decision's choice is named where all are
pub one_named : (lines : List Line) (decisions : List Decision) (i : ℕ) (x : Decision) → AreChoicesOf lines (choices decisions) → i < length decisions → (literal_of (get_or decisions i x)).feature < feature_count lines
one_named lines decisions i x named inside = All-contained (λ c. c.feature < feature_count lines) (choices decisions) (literal_of (get_or decisions i x)) named
    (subst (λ (c : Literal). Contains (choices decisions) c) (choice_at decisions i x (literal_of (get_or decisions i x)) inside)
    (Contains-get_or (choices decisions) i (literal_of (get_or decisions i x)) (subst (λ (n : ℕ). i < n) (sym (length-map decisions literal_of)) inside)))

pub more_named : (lines : List Line) (decisions kept : List Decision) (i : ℕ) (x : Decision) → AreChoicesOf lines (choices decisions) → i < length decisions → AreChoicesOf lines (choices kept) → AreChoicesOf lines (choices (kept ++ get_or decisions i x ∷ []))
more_named lines decisions kept i x named inside before = rw (map-append literal_of kept (get_or decisions i x ∷ []))
    (All-append (λ c. c.feature < feature_count lines) (choices kept) (literal_of (get_or decisions i x) ∷ []) before (one_named lines decisions i x named inside, tt))

-- one of the decisions' choices, named in the diagram
abbrev pub IsOwn : List Line → List Decision → Literal → Type 0
IsOwn lines decisions c = (c.feature < feature_count lines) × Contains (choices decisions) c

pub own_named : (lines : List Line) (decisions : List Decision) (few : List Literal) → AllByRecursion (IsOwn lines decisions) few → AreChoicesOf lines few
own_named lines decisions few all = All-from_contained (λ c. c.feature < feature_count lines) few (λ c within. (All-contained (IsOwn lines decisions) few c all within).0)

pub one_own : (lines : List Line) (decisions : List Decision) (i : ℕ) (x : Decision) → AreChoicesOf lines (choices decisions) → i < length decisions → IsOwn lines decisions (literal_of (get_or decisions i x))
one_own lines decisions i x named inside = (
  one_named lines decisions i x named inside,
  subst (λ (c : Literal). Contains (choices decisions) c) (choice_at decisions i x (literal_of (get_or decisions i x)) inside)
      (Contains-get_or (choices decisions) i (literal_of (get_or decisions i x)) (subst (λ (n : ℕ). i < n) (sym (length-map decisions literal_of)) inside)),
)

-- those kept and one more are among all
pub more_among : (lines : List Line) (decisions kept : List Decision) (i : ℕ) (x : Decision) → AreChoicesOf lines (choices decisions) → i < length decisions → AllByRecursion (IsOwn lines decisions) (choices kept) →
    AreAmong (choices (kept ++ get_or decisions i x ∷ [])) (choices decisions)
more_among lines decisions kept i x named inside own c within = (All-contained (IsOwn lines decisions) (choices (kept ++ get_or decisions i x ∷ [])) c
    (rw (map-append literal_of kept (get_or decisions i x ∷ [])) (All-append (IsOwn lines decisions) (choices kept) (literal_of (get_or decisions i x) ∷ []) own (one_own lines decisions i x named inside, tt))) within).1

module _ (Suffices : List Literal → Type 0) (P : Literal → Type 0) (decisions : List Decision) where
  pub going_begun : (kept given : List Decision) → kept ≡ [] → given ≡ [] → (Suffices [] → ⊥) → IsGoing Suffices P decisions kept given 0 true
  going_begun kept given e f h = subst (λ (ks : List Decision). IsGoing Suffices P decisions ks given 0 true) (sym e) (subst (λ (gs : List Decision). IsGoing Suffices P decisions [] gs 0 true) (sym f)
      (record { so_far = λ final i k g h. h; possible = h; named = tt }))

  module _ (kept given : List Decision) (place : ℕ) (exact : Bool) (is : IsGoing Suffices P decisions kept given place exact) (inside : place < length decisions) (x : Decision) where
    d : Decision
    d = get_or decisions place x

    onward : (final : Bool) (k g : List Decision) → KeepsOldest Suffices final kept (get_or decisions place x ∷ drop (suc place) decisions) k g → KeepsOldest Suffices final kept (drop place decisions) k g
    onward final k g h = subst (λ (rs : List Decision). KeepsOldest Suffices final kept rs k g) (sym (drop-cons decisions place x inside)) h

    pub kept_more : (Suffices (choices (kept ++ get_or decisions place x ∷ [])) → ⊥) → P (literal_of (get_or decisions place x)) → IsGoing Suffices P decisions (kept ++ get_or decisions place x ∷ []) given (suc place) exact
    kept_more lacks named = record {
      so_far = λ final i k g h. subst (λ (ks : List Decision). KeepsOldest Suffices final [] decisions ks (given ++ g)) (sym (append_assoc kept (get_or decisions place x ∷ []) k))
          (is.so_far final i (get_or decisions place x ∷ k) g (onward final (get_or decisions place x ∷ k) g (keeps h)));
      possible = lacks;
      named = rw (map-append literal_of kept (get_or decisions place x ∷ [])) (All-append P (choices kept) (literal_of (get_or decisions place x) ∷ []) is.named (named, tt));
    }

    pub given_more : (also : Bool) → (IsTrue also → Suffices (choices (kept ++ get_or decisions place x ∷ []))) → IsGoing Suffices P decisions kept (given ++ get_or decisions place x ∷ []) (suc place) (exact && also)
    given_more also so = record {
      so_far = λ final i k g h. subst (λ (gs : List Decision). KeepsOldest Suffices final [] decisions (kept ++ k) gs) (sym (append_assoc given (get_or decisions place x ∷ []) g))
          (is.so_far final (λ t. (both_hold exact also (i t)).0) k (get_or decisions place x ∷ g) (onward final k (get_or decisions place x ∷ g) (gives_up (λ t. so (both_hold exact also (i t)).1) h)));
      possible = is.possible;
      named = is.named;
    }

    pub given_then : (also : Bool) → exact ≡ true → (IsTrue also → Suffices (choices (kept ++ get_or decisions place x ∷ []))) → IsGoing Suffices P decisions kept (given ++ get_or decisions place x ∷ []) (suc place) also
    given_then also e so = subst (λ (b : Bool). IsGoing Suffices P decisions kept (given ++ get_or decisions place x ∷ []) (suc place) b) (same exact e) (given_more also so)
      where
        same : (b : Bool) → b ≡ true → (b && also) ≡ also
        same true f = refl
        same false f = absurd (clash f)
          where
            clash : false ≡ true → ⊥
            clash g = cc

    pub given_else : exact ≡ false → IsGoing Suffices P decisions kept (given ++ get_or decisions place x ∷ []) (suc place) false
    given_else e = subst (λ (b : Bool). IsGoing Suffices P decisions kept (given ++ get_or decisions place x ∷ []) (suc place) b) (same exact e) (given_more false (λ t. absurd (clash t)))
      where
        clash : false ≡ true → ⊥
        clash g = cc

        same : (b : Bool) → b ≡ false → (b && false) ≡ false
        same true f = refl
        same false f = refl

  pub gone : (kept given : List Decision) (place : ℕ) (exact : Bool) → length decisions ≤ place → IsGoing Suffices P decisions kept given place exact → IsRepair Suffices decisions kept given exact
  gone kept given place exact all is = record {
    split = subst (λ (ks : List Decision). KeepsOldest Suffices exact [] decisions ks given) (append-nil kept) (subst (λ (gs : List Decision). KeepsOldest Suffices exact [] decisions (kept ++ []) gs) (append-nil given)
        (is.so_far exact (λ t. t) [] [] (subst (λ (rs : List Decision). KeepsOldest Suffices exact kept rs [] []) (sym (drop_of_length-le decisions all)) ends)));
    possible = is.possible;
  }
