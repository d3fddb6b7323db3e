-- A rule that is read with something else for each name is the rule over names, renamed.
use Rattle.std.proofs.Common.{◌≡◌, ℕ, zero, suc, Bool, true, false, cond, List, [], ◌∷◌, ◌++◌, length, take, drop, Option, Some, None, refl, sym, ap, ap₂, ◌∙◌}
use Rattle.std.specs.Prelude.{codes, ◌<◌, ◌↔◌}
use Rattle.std.specs.List.{AllByRecursion, prefix_len}
use Rattle.vpg_features.specs.Names.{is_name_byte, constant_of}
use Rattle.vpg_guards.specs.Reading.{◌>>=◌, after_blanks}
use Rattle.vpg_rules.specs.Constraint.{Constraint, Parts, always, never, feature, negation, all, any, implication, equivalence, no_parts, part, renamed, each_renamed, features_in, all_features, IsBelow, AreBelow}
use Rattle.vpg_rules.specs.Grammar.{NamedRule, constant_rule, added, alone_or}
use Rattle.vpg_rules.specs.Reading.{Read, is_feature_name, constant_or, word_rule, word_at, after_mark, choice, more, made, series_at, arrow_at, conjunction_with, disjunction_with, close, enclosed_with, inverted_with, factor_with, factor_at, implication_at, rule_at, if_blank, whole_at, named_rule_at}
use Rattle.vpg_rules.proofs.Words.{same}

abbrev Names : Type 0
Names = List ℕ

module _ {A : Type 0} (to : List ℕ → A) where
  abbrev pub renamed_rule : Option NamedRule → Option (Constraint A)
  renamed_rule None = None
  renamed_rule (Some c) = Some (renamed to c)

  abbrev pub mapped : Read (List ℕ) → Read A
  mapped None = None
  mapped (Some x) = Some (renamed to x.0, x.1)

  abbrev mapped_parts : Option (Parts (List ℕ) × List ℕ) → Option (Parts A × List ℕ)
  mapped_parts None = None
  mapped_parts (Some x) = Some (each_renamed to x.0, x.1)

  abbrev IsSeen : (List ℕ → Read (List ℕ)) → (List ℕ → Read A) → Type 0
  IsSeen read reads = (text : List ℕ) → reads text ≡ mapped (read text)

  -- ---- words

  constant_seen : (b : Bool) → renamed to (constant_rule b) ≡ constant_rule b
  constant_seen true = refl
  constant_seen false = refl

  word_seen : (word : List ℕ) → word_rule to word ≡ renamed_rule (word_rule same word)
  word_seen word = go (constant_of word) (is_feature_name word)
    where
      go : (o : Option Bool) (t : Bool) → constant_or o (cond t (Some (feature (to word))) None) ≡ renamed_rule (constant_or o (cond t (Some (feature (same word))) None))
      go (Some b) t = ap Some (sym (constant_seen b))
      go None true = refl
      go None false = refl

  word_at_seen : IsSeen (word_at same) (word_at to)
  unfolding word_at
  word_at_seen text =
      let word = take (prefix_len is_name_byte text) text in
      let rest = drop (prefix_len is_name_byte text) text in
      ap (λ (o : Option (Constraint A)). o >>= λ c. Some (c, rest)) (word_seen word) ∙ go (word_rule same word) rest
    where
      go : (o : Option NamedRule) (rest : List ℕ) → (renamed_rule o >>= λ c. Some (c, rest)) ≡ mapped (o >>= λ c. Some (c, rest))
      go None rest = refl
      go (Some c) rest = refl

  -- ---- series

  added_seen : (cs : Parts (List ℕ)) (d : NamedRule) → each_renamed to (added cs d) ≡ added (each_renamed to cs) (renamed to d)
  added_seen no_parts d = refl
  added_seen (part c cs) d = ap (part (renamed to c)) (added_seen cs d)

  module _ (read : List ℕ → Read (List ℕ)) (reads : List ℕ → Read A) (mark : List ℕ) (seen : IsSeen read reads) where
    more_step : (n : ℕ) (cs : Parts (List ℕ)) (text : List ℕ) (next : Option (List ℕ))
        → ((ds : Parts (List ℕ)) (rest : List ℕ) → more reads mark n (each_renamed to ds) rest ≡ mapped_parts (more read mark n ds rest))
        → choice next (λ rest. reads rest >>= λ x. more reads mark n (added (each_renamed to cs) x.0) x.1) (Some (each_renamed to cs, text))
        ≡ mapped_parts (choice next (λ rest. read rest >>= λ x. more read mark n (added cs x.0) x.1) (Some (cs, text)))
    more_step n cs text None later = refl
    more_step n cs text (Some rest) later =
        ap (λ (o : Read A). o >>= λ x. more reads mark n (added (each_renamed to cs) x.0) x.1) (seen rest) ∙ go (read rest)
      where
        go : (o : Read (List ℕ)) → (mapped o >>= λ x. more reads mark n (added (each_renamed to cs) x.0) x.1) ≡ mapped_parts (o >>= λ x. more read mark n (added cs x.0) x.1)
        go None = refl
        go (Some x) = ap (λ (ds : Parts A). more reads mark n ds x.1) (sym (added_seen cs x.0)) ∙ later (added cs x.0) x.1

    more_seen : (n : ℕ) (cs : Parts (List ℕ)) (text : List ℕ) → more reads mark n (each_renamed to cs) text ≡ mapped_parts (more read mark n cs text)
    unfolding more
    more_seen zero cs text = refl
    more_seen (suc n) cs text = more_step n cs text (after_mark mark text) (λ ds rest. more_seen n ds rest)

    module _ (make : Parts (List ℕ) → NamedRule) (makes : Parts A → Constraint A) (fits : (cs : Parts (List ℕ)) → makes (each_renamed to cs) ≡ renamed to (make cs)) where
      alone_seen : (cs : Parts (List ℕ)) → alone_or makes (each_renamed to cs) ≡ renamed to (alone_or make cs)
      alone_seen no_parts = fits no_parts
      alone_seen (part c no_parts) = refl
      alone_seen (part c (part d cs)) = fits (part c (part d cs))

      made_seen : (o : Option (Parts (List ℕ) × List ℕ)) → made makes (mapped_parts o) ≡ mapped (made make o)
      made_seen None = refl
      made_seen (Some x) = ap (λ (c : Constraint A). Some (c, x.1)) (alone_seen x.0)

      series_seen : IsSeen (series_at read mark make) (series_at reads mark makes)
      unfolding series_at
      series_seen text = ap (λ (o : Read A). o >>= λ x. made makes (more reads mark (length x.1) (part x.0 no_parts) x.1)) (seen text) ∙ go (read text)
        where
          go : (o : Read (List ℕ)) → (mapped o >>= λ x. made makes (more reads mark (length x.1) (part x.0 no_parts) x.1)) ≡ mapped (o >>= λ x. made make (more read mark (length x.1) (part x.0 no_parts) x.1))
          go None = refl
          go (Some x) = ap (made makes) (more_seen (length x.1) (part x.0 no_parts) x.1) ∙ made_seen (more read mark (length x.1) (part x.0 no_parts) x.1)

  disjunction_seen : (read : List ℕ → Read (List ℕ)) (reads : List ℕ → Read A) → IsSeen read reads → IsSeen (disjunction_with read) (disjunction_with reads)
  disjunction_seen read reads seen =
      series_seen (conjunction_with read) (conjunction_with reads) (codes "|") (series_seen read reads (codes "&") seen all all (λ cs. refl)) any any (λ cs. refl)

  -- ---- arrows

  module _ (read right : List ℕ → Read (List ℕ)) (reads rights : List ℕ → Read A) (mark : List ℕ)
      (make : NamedRule → NamedRule → NamedRule) (makes : Constraint A → Constraint A → Constraint A)
      (fits : (c d : NamedRule) → makes (renamed to c) (renamed to d) ≡ renamed to (make c d)) where
    behind_seen : IsSeen right rights → (x : NamedRule × List ℕ) (next : Option (List ℕ))
        → choice next (λ rest. rights rest >>= λ y. Some (makes (renamed to x.0) y.0, y.1)) (Some (renamed to x.0, x.1))
        ≡ mapped (choice next (λ rest. right rest >>= λ y. Some (make x.0 y.0, y.1)) (Some x))
    behind_seen seen x None = refl
    behind_seen seen x (Some rest) = ap (λ (o : Read A). o >>= λ y. Some (makes (renamed to x.0) y.0, y.1)) (seen rest) ∙ go (right rest)
      where
        go : (o : Read (List ℕ)) → (mapped o >>= λ y. Some (makes (renamed to x.0) y.0, y.1)) ≡ mapped (o >>= λ y. Some (make x.0 y.0, y.1))
        go None = refl
        go (Some y) = ap (λ (c : Constraint A). Some (c, y.1)) (fits x.0 y.0)

    arrow_seen : IsSeen read reads → IsSeen right rights → IsSeen (arrow_at read right mark make) (arrow_at reads rights mark makes)
    unfolding arrow_at
    arrow_seen seen sees text = ap (λ (o : Read A). o >>= λ x. choice (after_mark mark x.1) (λ rest. rights rest >>= λ y. Some (makes x.0 y.0, y.1)) (Some x)) (seen text) ∙ go (read text)
      where
        go : (o : Read (List ℕ)) → (mapped o >>= λ x. choice (after_mark mark x.1) (λ rest. rights rest >>= λ y. Some (makes x.0 y.0, y.1)) (Some x))
            ≡ mapped (o >>= λ x. choice (after_mark mark x.1) (λ rest. right rest >>= λ y. Some (make x.0 y.0, y.1)) (Some x))
        go None = refl
        go (Some x) = behind_seen sees x (after_mark mark x.1)

  -- ---- factors

  module _ (factor rule : List ℕ → Read (List ℕ)) (factors rules : List ℕ → Read A) (seen : IsSeen factor factors) (sees : IsSeen rule rules) where
    inverted_seen : IsSeen (inverted_with factor) (inverted_with factors)
    inverted_seen rest = ap (λ (o : Read A). o >>= λ x. Some (negation x.0, x.1)) (seen rest) ∙ go (factor rest)
      where
        go : (o : Read (List ℕ)) → (mapped o >>= λ x. Some (negation x.0, x.1)) ≡ mapped (o >>= λ x. Some (negation x.0, x.1))
        go None = refl
        go (Some x) = refl

    close_seen : (c : NamedRule) (next : Option (List ℕ)) → close (renamed to c) next ≡ mapped (close c next)
    close_seen c None = refl
    close_seen c (Some rest) = refl

    enclosed_seen : IsSeen (enclosed_with rule) (enclosed_with rules)
    enclosed_seen rest = ap (λ (o : Read A). o >>= λ x. close x.0 (after_mark (codes ")") x.1)) (sees rest) ∙ go (rule rest)
      where
        go : (o : Read (List ℕ)) → (mapped o >>= λ x. close x.0 (after_mark (codes ")") x.1)) ≡ mapped (o >>= λ x. close x.0 (after_mark (codes ")") x.1))
        go None = refl
        go (Some x) = close_seen x.0 (after_mark (codes ")") x.1)

    choice_seen : (next : Option (List ℕ)) (behind : List ℕ → Read (List ℕ)) (behinds : List ℕ → Read A) (other : Read (List ℕ)) (others : Read A)
        → IsSeen behind behinds → others ≡ mapped other → choice next behinds others ≡ mapped (choice next behind other)
    choice_seen None behind behinds other others h k = k
    choice_seen (Some rest) behind behinds other others h k = h rest

    factor_seen : IsSeen (factor_with same factor rule) (factor_with to factors rules)
    factor_seen text =
        choice_seen (after_mark (codes "!") text) (inverted_with factor) (inverted_with factors) _ _ inverted_seen
        (choice_seen (after_mark (codes "(") text) (enclosed_with rule) (enclosed_with rules) _ _ enclosed_seen (word_at_seen (after_blanks text)))

  -- ---- levels

  record AreSeen (n : ℕ) : Type 0 where
    factors : IsSeen (factor_at same n) (factor_at to n)
    implications : IsSeen (implication_at same n) (implication_at to n)
    rules : IsSeen (rule_at same n) (rule_at to n)

  level_seen : (n : ℕ) → AreSeen n
  unfolding factor_at implication_at rule_at
  level_seen zero = record { factors = λ text. refl; implications = λ text. refl; rules = λ text. refl }
  level_seen (suc n) =
      let inner = level_seen n in
      let factor : List ℕ → Read (List ℕ) = factor_with same (factor_at same n) (rule_at same n) in
      let factors : List ℕ → Read A = factor_with to (factor_at to n) (rule_at to n) in
      let seen : IsSeen factor factors = factor_seen (factor_at same n) (rule_at same n) (factor_at to n) (rule_at to n) inner.factors inner.rules in
      let arrows : IsSeen (implication_at same (suc n)) (implication_at to (suc n)) =
      arrow_seen (disjunction_with factor) (implication_at same n) (disjunction_with factors) (implication_at to n) (codes "=>") implication implication (λ c d. refl)
      (disjunction_seen factor factors seen) inner.implications in
      record {
        factors = seen;
        implications = arrows;
        rules = arrow_seen (implication_at same (suc n)) (rule_at same n) (implication_at to (suc n)) (rule_at to n) (codes "<=>") equivalence equivalence (λ c d. refl) arrows inner.rules;
      }

  pub whole_seen : (text : List ℕ) → whole_at to text ≡ renamed_rule (named_rule_at text)
  whole_seen text = ap (λ (o : Read A). o >>= λ x. if_blank x.0 (after_blanks x.1)) ((level_seen 65).rules text) ∙ go (rule_at same 65 text)
    where
      ended : (c : NamedRule) (rest : List ℕ) → if_blank (renamed to c) rest ≡ renamed_rule (if_blank c rest)
      ended c [] = refl
      ended c (b ∷ rest) = refl

      go : (o : Read (List ℕ)) → (mapped o >>= λ x. if_blank x.0 (after_blanks x.1)) ≡ renamed_rule (o >>= λ x. if_blank x.0 (after_blanks x.1))
      go None = refl
      go (Some x) = ended x.0 (after_blanks x.1)
