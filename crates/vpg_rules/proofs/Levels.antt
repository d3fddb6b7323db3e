-- Rules are read as they are spelled, both ways.
use Rattle.std.proofs.Common.{◌≡◌, ℕ, zero, suc, true, false, List, [], ◌∷◌, ◌++◌, take, Some, None, refl, sym, ap, subst, ◌∙◌, arith}
use Rattle.std.specs.Prelude.{codes}
use Rattle.std.specs.List.{list_all, prefix_len}
use Rattle.std.proofs.lemmas.Bool.Decides.{nat_tests}
use Rattle.std.proofs.lemmas.List.{append-nil}
use Rattle.vpg_features.specs.Names.{is_name_byte}
use Rattle.vpg_features.proofs.Held.{both_true}
use Rattle.vpg_guards.specs.Grammar.{is_blank, AreBlank}
use Rattle.vpg_guards.specs.Reading.{◌>>=◌, after_blanks}
use Rattle.vpg_guards.proofs.Blanks.{bind_some, front_all, front_split, Stops, after_blanks_is}
use Rattle.vpg_rules.specs.Constraint.{all, any, implication, equivalence}
use Rattle.vpg_rules.specs.Grammar.{Form, NamedRule, Factor, Series, Disjunction, IsFactor, IsImplication, IsRule, Spells}
use Rattle.vpg_rules.specs.Reading.{Read, after_mark, conjunction_with, disjunction_with, factor_with, factor_at, implication_at, rule_at, named_rule_at, if_blank}
use Rattle.vpg_rules.proofs.Marks.{some_is, mark_next, no_mark}
use Rattle.vpg_rules.proofs.Series.{Finds, Rereads, series_found, series_rereads, arrow_found, arrow_rereads}
use Rattle.vpg_rules.proofs.Words.{same, factor_found, factor_again}

-- ---- what is read is spelled so

disjunction_found : (Item : Form) (read : List ℕ → Read (List ℕ)) → Finds Item read → Finds (Disjunction Item) (disjunction_with read)
disjunction_found Item read finds =
    series_found (Series Item (codes "&") all) (conjunction_with read) (codes "|") any (series_found Item read (codes "&") all finds)

pub record LevelFound (n : ℕ) : Type 0 where
  pub factors : Finds (IsFactor n) (factor_at same n)
  pub implications : Finds (IsImplication n) (implication_at same n)
  pub rules : Finds (IsRule n) (rule_at same n)

level_found : (n : ℕ) → LevelFound n
unfolding IsFactor IsImplication IsRule factor_at implication_at rule_at
level_found zero = record { factors = λ text x e. absurd cc; implications = λ text x e. absurd cc; rules = λ text x e. absurd cc }
level_found (suc n) =
    let inner = level_found n in
    let Item : Form = Factor (IsFactor n) (IsRule n) in
    let read : List ℕ → Read (List ℕ) = factor_with same (factor_at same n) (rule_at same n) in
    let factors : Finds Item read = factor_found (IsFactor n) (IsRule n) (factor_at same n) (rule_at same n) inner.factors inner.rules in
    let implications = arrow_found (Disjunction Item) (IsImplication n) (disjunction_with read) (implication_at same n) (codes "=>") implication (disjunction_found Item read factors) inner.implications in
    record {
      factors = factors;
      implications = implications;
      rules = arrow_found _ (IsRule n) _ (rule_at same n) (codes "<=>") equivalence implications inner.rules;
    }

if_blank_is : (c d : NamedRule) (rest : List ℕ) → if_blank c rest ≡ Some d → (rest ≡ []) × (c ≡ d)
if_blank_is c d [] e = (refl, some_is c d e)
if_blank_is c d (b ∷ rest) e = absurd cc

pub rule_found : (text : List ℕ) (c : NamedRule) → named_rule_at text ≡ Some c → Spells text c
rule_found text c e =
    let h = bind_some (rule_at same 65 text) (λ x. if_blank x.0 (after_blanks x.1)) c e in
    let f = (level_found 65).rules text h.0 h.1 in
    let last = if_blank_is h.0.0 c (after_blanks h.0.1) h.2 in
    let blanks = take (prefix_len is_blank h.0.1) h.0.1 in
    record {
      rule = f.front;
      blanks = blanks;
      blank = front_all is_blank h.0.1;
      parts = f.parts ∙ ap (λ (t : List ℕ). f.front ++ t) (front_split is_blank h.0.1 ∙ ap (λ (t : List ℕ). blanks ++ t) last.0 ∙ append-nil blanks);
      is = subst (λ (d : NamedRule). IsRule 65 f.front d) last.1 f.is;
    }

-- ---- what is spelled so is read

blank_no_name : (b : ℕ) → is_blank b ≡ true → is_name_byte b ≡ false
blank_no_name b e = grind (arith, nat_tests)

-- a name ends before blanks and a mark
stops_before : (blanks rest : List ℕ) (b : ℕ) → AreBlank blanks → is_name_byte b ≡ false → Stops is_name_byte (blanks ++ b ∷ rest)
stops_before [] rest b are e = e
stops_before (a ∷ blanks) rest b are e = blank_no_name a (both_true (is_blank a) (list_all is_blank blanks) are).0

stops_blanks : (blanks : List ℕ) → AreBlank blanks → Stops is_name_byte blanks
stops_blanks [] are = tt
stops_blanks (b ∷ blanks) are = blank_no_name b (both_true (is_blank b) (list_all is_blank blanks) are).0

-- what may follow
abbrev AfterFactor : List ℕ → Type 0
AfterFactor rest = Stops is_name_byte rest

abbrev AfterConjunction : List ℕ → Type 0
AfterConjunction rest = AfterFactor rest × (after_mark (codes "&") rest ≡ None)

abbrev AfterDisjunction : List ℕ → Type 0
AfterDisjunction rest = AfterConjunction rest × (after_mark (codes "|") rest ≡ None)

pub record AfterImplication (rest : List ℕ) : Type 0 where
  pub disjunction : AfterDisjunction rest
  pub arrow : after_mark (codes "=>") rest ≡ None

pub record AfterRule (rest : List ℕ) : Type 0 where
  pub implication : AfterImplication rest
  pub arrow : after_mark (codes "<=>") rest ≡ None

module _ (Item : Form) (read : List ℕ → Read (List ℕ)) (rereads : Rereads Item AfterFactor read) where
  conjunction_again : Rereads (Series Item (codes "&") all) AfterConjunction (conjunction_with read)
  conjunction_again =
      series_rereads Item read (codes "&") all AfterFactor rereads (omega arith) (λ blanks rest are. stops_before blanks rest 38 are refl)
      (λ blanks rest are. mark_next (codes "&") blanks 38 rest are refl)

  disjunction_again : Rereads (Disjunction Item) AfterDisjunction (disjunction_with read)
  disjunction_again =
      series_rereads (Series Item (codes "&") all) (conjunction_with read) (codes "|") any AfterConjunction conjunction_again (omega arith)
      (λ blanks rest are. (stops_before blanks rest 124 are refl, mark_next (codes "&") blanks 124 rest are refl))
      (λ blanks rest are. mark_next (codes "|") blanks 124 rest are refl)

implication_follows : (blanks rest : List ℕ) → AreBlank blanks → AfterDisjunction (blanks ++ (codes "=>" ++ rest))
implication_follows blanks rest are =
    let behind = 62 ∷ rest in
    ((stops_before blanks behind 61 are refl, mark_next (codes "&") blanks 61 behind are refl), mark_next (codes "|") blanks 61 behind are refl)

equivalence_follows : (blanks rest : List ℕ) → AreBlank blanks → AfterImplication (blanks ++ (codes "<=>" ++ rest))
equivalence_follows blanks rest are =
    let behind = 61 ∷ 62 ∷ rest in
    record {
      disjunction = ((stops_before blanks behind 60 are refl, mark_next (codes "&") blanks 60 behind are refl), mark_next (codes "|") blanks 60 behind are refl);
      arrow = mark_next (codes "=>") blanks 60 behind are refl;
    }

close_follows : (blanks rest : List ℕ) → AreBlank blanks → AfterRule (blanks ++ 41 ∷ rest)
close_follows blanks rest are = record {
  implication = record {
    disjunction = ((stops_before blanks rest 41 are refl, mark_next (codes "&") blanks 41 rest are refl), mark_next (codes "|") blanks 41 rest are refl);
    arrow = mark_next (codes "=>") blanks 41 rest are refl;
  };
  arrow = mark_next (codes "<=>") blanks 41 rest are refl;
}

blanks_follow : (blanks : List ℕ) → AreBlank blanks → AfterRule blanks
blanks_follow blanks are = record {
  implication = record {
    disjunction = ((stops_blanks blanks are, no_mark 38 [] blanks are), no_mark 124 [] blanks are);
    arrow = no_mark 61 (62 ∷ []) blanks are;
  };
  arrow = no_mark 60 (61 ∷ 62 ∷ []) blanks are;
}

pub record LevelAgain (n : ℕ) : Type 0 where
  pub factors : Rereads (IsFactor n) AfterFactor (factor_at same n)
  pub implications : Rereads (IsImplication n) AfterImplication (implication_at same n)
  pub rules : Rereads (IsRule n) AfterRule (rule_at same n)

level_again : (n : ℕ) → LevelAgain n
unfolding IsFactor IsImplication IsRule factor_at implication_at rule_at
level_again zero = record { factors = λ text rest c i f. absurd i; implications = λ text rest c i f. absurd i; rules = λ text rest c i f. absurd i }
level_again (suc n) =
    let inner = level_again n in
    let Item : Form = Factor (IsFactor n) (IsRule n) in
    let read : List ℕ → Read (List ℕ) = factor_with same (factor_at same n) (rule_at same n) in
    let factors : Rereads Item AfterFactor read = factor_again (factor_at same n) (rule_at same n) (IsFactor n) (IsRule n) AfterRule inner.factors inner.rules close_follows in
    let arrows = arrow_rereads (Disjunction Item) (IsImplication n) (disjunction_with read) (implication_at same n) (codes "=>") implication AfterDisjunction AfterImplication
    (disjunction_again Item read factors) inner.implications implication_follows (λ blanks rest blank. mark_next (codes "=>") blanks 61 (62 ∷ rest) blank refl) in
    let implications : Rereads (IsImplication (suc n)) AfterImplication (implication_at same (suc n)) = λ text rest c i f. arrows text rest c i (f.disjunction, f, f.arrow) in
    let rules = arrow_rereads (IsImplication (suc n)) (IsRule n) (implication_at same (suc n)) (rule_at same n) (codes "<=>") equivalence AfterImplication AfterRule
    implications inner.rules equivalence_follows (λ blanks rest blank. mark_next (codes "<=>") blanks 60 (61 ∷ 62 ∷ rest) blank refl) in
    record {
      factors = factors;
      implications = implications;
      rules = λ text rest c i f. rules text rest c i (f.implication, f, f.arrow);
    }

pub rule_again : (text : List ℕ) (c : NamedRule) → Spells text c → named_rule_at text ≡ Some c
rule_again text c s =
    let inner = (level_again 65).rules s.rule s.blanks c s.is (blanks_follow s.blanks s.blank) in
    let ended : after_blanks s.blanks ≡ [] = ap after_blanks (sym (append-nil s.blanks)) ∙ after_blanks_is s.blanks [] s.blank tt in
    ap named_rule_at s.parts ∙ ap (λ (r : Read (List ℕ)). r >>= λ x. if_blank x.0 (after_blanks x.1)) inner ∙ ap (if_blank c) ended
