-- The halves of parts, joined by looking for the same part.
use Rattle.std.proofs.Common.{◌≡◌, ℕ, zero, suc, ◌<◌, ◌⊎◌, inl, inr, Bool, true, false, not, List, [], ◌∷◌, ◌++◌, length, map, get_or, refl, sym, ap, ◌∙◌, subst, append_assoc, arith}
use Rattle.std.specs.List.{AllByRecursion, remove}
use Rattle.std.proofs.lemmas.List.{length-append, length-map}
use Rattle.std.proofs.lemmas.List.Elements.{All-from_recursion, recursion_from_All}
use Rattle.vpg_diagram.specs.declared.clause.Literal.{Literal}
use Rattle.vpg_winners.specs.Pairs.{IsBehind, AreBehind, IsPaired}
use Rattle.vpg_partial.specs.Known.{negation}
use Rattle.vpg_why.specs.Suffices.{choice}
use Rattle.vpg_diagram.proofs.Lists.{All-append}
use Rattle.vpg_winners.proofs.Differing.{not_its_negation}
use Rattle.vpg_winners.specs.Winners.{AreJoined}
use Rattle.vpg_winners.specs.Joined.{PartView, DiffersAt, JoinsAt, CanJoin, HasNoMate, IsPut, alone, joined, cut_by}

-- a list of later features and one that begins with this feature do not differ in a sign alone
not_behind : (f : ℕ) (value : Bool) (one other front back : List Literal) (m : Literal) →
    choice f value ∷ one ≡ front ++ m ∷ back → other ≡ front ++ negation m ∷ back →
    AllByRecursion (λ l. f < l.feature) other → ⊥
not_behind f value one other [] back m e g all = omega (arith, same, later)
  where
    first : choice f value ≡ m
    first = cc

    same : f ≡ m.feature
    same = ap (λ (l : Literal). l.feature) first

    later : f < m.feature
    later = (subst (λ (ls : List Literal). AllByRecursion (λ l. f < l.feature) ls) g all).0
not_behind f value one other (x ∷ front) back m e g all = omega (arith, same, later)
  where
    first : choice f value ≡ x
    first = cc

    same : f ≡ x.feature
    same = ap (λ (l : Literal). l.feature) first

    later : f < x.feature
    later = (subst (λ (ls : List Literal). AllByRecursion (λ l. f < l.feature) ls) g all).0

not_behind_back : (f : ℕ) (value : Bool) (one other front back : List Literal) (m : Literal) →
    one ≡ front ++ m ∷ back → choice f value ∷ other ≡ front ++ negation m ∷ back →
    AllByRecursion (λ l. f < l.feature) one → ⊥
not_behind_back f value one other [] back m e g all = omega (arith, same, later)
  where
    first : choice f value ≡ negation m
    first = cc

    same : f ≡ m.feature
    same = ap (λ (l : Literal). l.feature) first

    later : f < m.feature
    later = (subst (λ (ls : List Literal). AllByRecursion (λ l. f < l.feature) ls) e all).0
not_behind_back f value one other (x ∷ front) back m e g all = omega (arith, same, later)
  where
    first : choice f value ≡ x
    first = cc

    same : f ≡ x.feature
    same = ap (λ (l : Literal). l.feature) first

    later : f < x.feature
    later = (subst (λ (ls : List Literal). AllByRecursion (λ l. f < l.feature) ls) e all).0

-- with this literal and without it: the rest is the same
same_rest : (f : ℕ) (one other front back : List Literal) (m : Literal) →
    choice f true ∷ one ≡ front ++ m ∷ back → choice f false ∷ other ≡ front ++ negation m ∷ back → one ≡ other
same_rest f one other [] back m e g = cc
same_rest f one other (x ∷ front) back m e g = absurd (clash (ap (λ (l : Literal). l.value) both))
  where
    first : choice f true ≡ x
    first = cc

    second : choice f false ≡ x
    second = cc

    both : choice f true ≡ choice f false
    both = first ∙ sym second

    clash : true ≡ false → ⊥
    clash e = cc

-- both without it: the rest differs in a sign
rest_differs : (f : ℕ) (one other front back : List Literal) (m : Literal) →
    choice f false ∷ one ≡ front ++ m ∷ back → choice f false ∷ other ≡ front ++ negation m ∷ back →
    (place : ℕ) × DiffersAt one other place
rest_differs f one other [] back m e g = absurd (not_its_negation m (sym first ∙ second))
  where
    first : choice f false ≡ m
    first = cc

    second : choice f false ≡ negation m
    second = cc
rest_differs f one other (x ∷ front) back m e g = (
  length front,
  record { front = front; literal = m; back = back; one_is = cc; other_is = cc; place_is = refl },
)

module _ (f : ℕ) where
  abbrev with_it : PartView → PartView
  with_it = cut_by (choice f true)

  abbrev without : PartView → PartView
  without = cut_by (choice f false)

  -- a part with the literal can be joined with one without it only if they are the same else
  same_mate : (one other : PartView) → CanJoin (with_it one) (without other) → one ≡ other
  same_mate one other can = let d = can.1.literals in
      let w : one.winner ≡ other.winner = can.1.winner in
      let l : one.literals ≡ other.literals = same_rest f one.literals other.literals d.front d.back d.literal d.one_is d.other_is in
      λ i. record { winner = w i; literals = l i }

  cut_mates : (one other : PartView) → CanJoin (without one) (without other) → CanJoin one other
  cut_mates one other can = let d = can.1.literals in
      let r = rest_differs f one.literals other.literals d.front d.back d.literal d.one_is d.other_is in
      (r.0, record { winner = can.1.winner; literals = r.1 })

  no_mate : (value : Bool) (one other : PartView) → IsBehind f other → CanJoin (cut_by (choice f value) one) other → ⊥
  no_mate value one other behind can = let d = can.1.literals in
      not_behind f value one.literals other.literals d.front d.back d.literal d.one_is d.other_is behind

  no_mate_back : (value : Bool) (one other : PartView) → IsBehind f one → CanJoin one (cut_by (choice f value) other) → ⊥
  no_mate_back value one other behind can = let d = can.1.literals in
      not_behind_back f value one.literals other.literals d.front d.back d.literal d.one_is d.other_is behind

  -- ---- the parts that are done can be joined with none of the rest

  -- a part that is done can be joined with none of the rest, neither with its literal nor without
  pub record IsApart (done : List PartView) (part : PartView) : Type 0 where
    pub cut : HasNoMate done (without part)
    pub whole : HasNoMate done part

  abbrev pub AreApart : List PartView → List PartView → Type 0
  AreApart done rest = AllByRecursion (IsApart done) rest

  pub apart_none : (rest : List PartView) → AreApart [] rest
  apart_none [] = tt
  apart_none (p ∷ ps) = (
    record {
      cut = λ k d less. absurd (omega (arith, less));
      whole = λ k d less. absurd (omega (arith, less));
    },
    apart_none ps,
  )

  one_more : (done : List PartView) (new part : PartView) → HasNoMate done part → (CanJoin new part → ⊥) →
      HasNoMate (done ++ new ∷ []) part
  one_more done new part none not = All-from_recursion (λ other. CanJoin other part → ⊥) (done ++ new ∷ [])
      (All-append (λ other. CanJoin other part → ⊥) done (new ∷ [])
      (recursion_from_All (λ other. CanJoin other part → ⊥) done none) (not, tt))

  abbrev pub IsNoMate : PartView → PartView → Type 0
  IsNoMate part other = CanJoin part other → ⊥

  -- the part is done, as it is or with its literal
  pub apart_next : (done rest : List PartView) (part new : PartView) → (new ≡ part) ⊎ (new ≡ without part) →
      AllByRecursion (IsNoMate part) rest → IsBehind f part → AreBehind f rest → AreApart done rest →
      AreApart (done ++ new ∷ []) rest
  apart_next done [] part new is none behind all apart = tt
  apart_next done (p ∷ ps) part new is none behind all apart = (
    record {
      cut = one_more done new (without p) apart.0.cut (cut is);
      whole = one_more done new p apart.0.whole (whole is);
    },
    apart_next done ps part new is none.1 behind all.1 apart.1,
  )
    where
      cut : (new ≡ part) ⊎ (new ≡ without part) → CanJoin new (without p) → ⊥
      cut (inl e) can = no_mate_back false part p behind (subst (λ (v : PartView). CanJoin v (without p)) e can)
      cut (inr e) can = none.0 (cut_mates part p (subst (λ (v : PartView). CanJoin v (without p)) e can))

      whole : (new ≡ part) ⊎ (new ≡ without part) → CanJoin new p → ⊥
      whole (inl e) can = none.0 (subst (λ (v : PartView). CanJoin v p) e can)
      whole (inr e) can = no_mate false part p all.0 (subst (λ (v : PartView). CanJoin v p) e can)

  -- ---- one part is put

  no_same : (left : List PartView) (part : PartView) → AllByRecursion (λ v. v ≡ part → ⊥) left →
      AllByRecursion (λ other. CanJoin other (without part) → ⊥) (map with_it left)
  no_same [] part none = tt
  no_same (p ∷ ps) part none = (λ can. none.0 (same_mate p part can), no_same ps part none.1)

  no_mates : (parts : List PartView) (part : PartView) → IsBehind f part →
      AllByRecursion (λ other. CanJoin other part → ⊥) (map with_it parts)
  no_mates [] part behind = tt
  no_mates (p ∷ ps) part behind = (no_mate true p part behind, no_mates ps part behind)

  -- none is the same: it stands last
  pub put_lonely : (left done : List PartView) (part : PartView) → AllByRecursion (λ v. v ≡ part → ⊥) left →
      HasNoMate done (without part) →
      IsPut (map with_it left ++ done) (without part) (map with_it left ++ (done ++ without part ∷ []))
  put_lonely left done part none apart =
      subst (λ (vs : List PartView). IsPut (map with_it left ++ done) (without part) vs)
      (append_assoc (map with_it left) done (without part ∷ []))
      (alone (All-from_recursion (λ other. CanJoin other (without part) → ⊥) (map with_it left ++ done)
      (All-append (λ other. CanJoin other (without part) → ⊥) (map with_it left) done (no_same left part none)
      (recursion_from_All (λ other. CanJoin other (without part) → ⊥) done apart))))

  removed : (left done : List PartView) (place : ℕ) → place < length left →
      remove (map with_it left ++ done) place ≡ map with_it (remove left place) ++ done
  removed [] done place less = absurd (omega (arith, less))
  removed (p ∷ ps) done zero less = refl
  removed (p ∷ ps) done (suc n) less = ap (λ (vs : List PartView). with_it p ∷ vs) (removed ps done n (omega (arith, less)))

  at : (left done : List PartView) (k : ℕ) (d : PartView) → k < length left →
      get_or (map with_it left ++ done) k d ≡ with_it (get_or left k d)
  at [] done k d less = absurd (omega (arith, less))
  at (p ∷ ps) done zero d less = refl
  at (p ∷ ps) done (suc k) d less = at ps done k d (omega (arith, less))

  pub own_join : (part : PartView) → JoinsAt (with_it part) (without part) 0
  own_join part = record {
    winner = refl;
    literals = record {
      front = [];
      literal = choice f true;
      back = part.literals;
      one_is = refl;
      other_is = refl;
      place_is = refl;
    };
  }

  -- one is the same: both are one part
  pub put_same : (left done : List PartView) (part : PartView) (place : ℕ) → place < length left →
      ((d : PartView) → get_or left place d ≡ part) →
      ((k : ℕ) (d : PartView) → k < place → get_or left k d ≡ part → ⊥) → IsBehind f part → HasNoMate done part →
      IsPut (map with_it left ++ done) (without part) (map with_it (remove left place) ++ (done ++ part ∷ []))
  put_same left done part place within same before behind apart = joined place 0
      (record {
        within = let e = length-append (map with_it left) done in let g = length-map left with_it in omega (arith, within, e, g);
        joins = λ d. subst (λ (v : PartView). JoinsAt v (without part) 0)
            (sym (at left done place d within ∙ ap with_it (same d))) (own_join part);
        before = λ k d less can. before k d less (same_mate (get_or left k d) part
            (subst (λ (v : PartView). CanJoin v (without part)) (at left done k d (omega (arith, less, within))) can));
      })
      (subst (λ (vs : List PartView). IsPut vs part (map with_it (remove left place) ++ (done ++ part ∷ [])))
      (sym (removed left done place within))
      (subst (λ (vs : List PartView). IsPut (map with_it (remove left place) ++ done) part vs)
      (append_assoc (map with_it (remove left place)) done (part ∷ []))
      (alone (All-from_recursion (λ other. CanJoin other part → ⊥) (map with_it (remove left place) ++ done)
      (All-append (λ other. CanJoin other part → ⊥) (map with_it (remove left place)) done
      (no_mates (remove left place) part behind)
      (recursion_from_All (λ other. CanJoin other part → ⊥) done apart))))))

  -- ---- a pair

  pub paired_put : (left fewer ready : List PartView) (part new : PartView) → IsPaired f left part fewer new →
      IsApart ready part → IsBehind f part →
      IsPut (map with_it left ++ ready) (without part) (map with_it fewer ++ (ready ++ new ∷ []))
  paired_put left fewer ready part new (inl (none, n, e)) apart behind =
      subst (λ (vs : List PartView). IsPut (map with_it left ++ ready) (without part) (map with_it vs ++ (ready ++ new ∷ []))) (sym n)
      (subst (λ (v : PartView). IsPut (map with_it left ++ ready) (without part) (map with_it left ++ (ready ++ v ∷ []))) (sym e)
      (put_lonely left ready part none apart.cut))
  paired_put left fewer ready part new (inr (place, first, n, e)) apart behind =
      subst (λ (vs : List PartView). IsPut (map with_it left ++ ready) (without part) (map with_it vs ++ (ready ++ new ∷ []))) (sym n)
      (subst (λ (v : PartView). IsPut (map with_it left ++ ready) (without part)
      (map with_it (remove left place) ++ (ready ++ v ∷ []))) (sym e)
      (put_same left ready part place first.within first.same first.before behind apart.whole))

  pub paired_is : (left fewer : List PartView) (part new : PartView) → IsPaired f left part fewer new →
      (new ≡ part) ⊎ (new ≡ without part)
  paired_is left fewer part new (inl p) = inr p.2
  paired_is left fewer part new (inr p) = inl p.3

pub head_none : (part : PartView) (rest : List PartView) → AreJoined (part ∷ rest) →
    AllByRecursion (λ other. CanJoin part other → ⊥) rest
head_none part rest are = recursion_from_All (λ other. CanJoin part other → ⊥) rest
    (λ k d less. are 0 (suc k) d (omega arith) (omega (arith, less)))

pub tail_joined : (part : PartView) (rest : List PartView) → AreJoined (part ∷ rest) → AreJoined rest
tail_joined part rest are i j d less within = are (suc i) (suc j) d (omega (arith, less)) (omega (arith, within))
