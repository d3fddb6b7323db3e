-- A rule as a propositional formula over features, without its place in memory, and its truth in a set of features. It
-- is a cross-tree constraint of a feature model, as Batory (2005) writes them; `=>` and `<=>` are the implication and
-- the equivalence of propositional logic.
use Rattle.std.specs.Prelude.{ℕ, ◌<◌, List, [], ◌∷◌, ◌++◌, Bool, true, false, not, ◌&&◌, ◌||◌, IsTrue}

-- a propositional formula over features, each given by its name or by its index
mutual
  pub data Constraint (A : Type 0) : Type 0 where
    always : Constraint A
    never : Constraint A
    feature : A → Constraint A
    negation : Constraint A → Constraint A
    all : Parts A → Constraint A
    any : Parts A → Constraint A
    implication : Constraint A → Constraint A → Constraint A
    equivalence : Constraint A → Constraint A → Constraint A

  pub data Parts (A : Type 0) : Type 0 where
    no_parts : Parts A
    part : Constraint A → Parts A → Parts A

-- the constraint with another feature in place of each
abbrev mutual
  pub renamed : {A B : Type 0} → (A → B) → Constraint A → Constraint B
  renamed to always = always
  renamed to never = never
  renamed to (feature f) = feature (to f)
  renamed to (negation c) = negation (renamed to c)
  renamed to (all cs) = all (each_renamed to cs)
  renamed to (any cs) = any (each_renamed to cs)
  renamed to (implication c d) = implication (renamed to c) (renamed to d)
  renamed to (equivalence c d) = equivalence (renamed to c) (renamed to d)

  pub each_renamed : {A B : Type 0} → (A → B) → Parts A → Parts B
  each_renamed to no_parts = no_parts
  each_renamed to (part c cs) = part (renamed to c) (each_renamed to cs)

-- the features that the constraint names, in order
abbrev mutual
  pub features_in : {A : Type 0} → Constraint A → List A
  features_in always = []
  features_in never = []
  features_in (feature f) = f ∷ []
  features_in (negation c) = features_in c
  features_in (all cs) = all_features cs
  features_in (any cs) = all_features cs
  features_in (implication c d) = features_in c ++ features_in d
  features_in (equivalence c d) = features_in c ++ features_in d

  pub all_features : {A : Type 0} → Parts A → List A
  all_features no_parts = []
  all_features (part c cs) = features_in c ++ all_features cs

-- the truth table of `=>`
abbrev pub implies : Bool → Bool → Bool
implies false false = true
implies false true = true
implies true false = false
implies true true = true

-- the truth table of `<=>`
abbrev pub equals : Bool → Bool → Bool
equals false false = true
equals false true = false
equals true false = false
equals true true = true

-- the truth where the test says which features are in
abbrev mutual
  pub truth : (ℕ → Bool) → Constraint ℕ → Bool
  truth chosen always = true
  truth chosen never = false
  truth chosen (feature f) = chosen f
  truth chosen (negation c) = not (truth chosen c)
  truth chosen (all cs) = all_true chosen cs
  truth chosen (any cs) = any_true chosen cs
  truth chosen (implication c d) = implies (truth chosen c) (truth chosen d)
  truth chosen (equivalence c d) = equals (truth chosen c) (truth chosen d)

  pub all_true : (ℕ → Bool) → Parts ℕ → Bool
  all_true chosen no_parts = true
  all_true chosen (part c cs) = truth chosen c && all_true chosen cs

  pub any_true : (ℕ → Bool) → Parts ℕ → Bool
  any_true chosen no_parts = false
  any_true chosen (part c cs) = truth chosen c || any_true chosen cs

-- the features that are in meet the constraint
abbrev pub IsMet : Constraint ℕ → (ℕ → Bool) → Type 0
IsMet c chosen = IsTrue (truth chosen c)

-- each feature named is below n
abbrev mutual
  pub IsBelow : ℕ → Constraint ℕ → Type 0
  IsBelow n always = Unit {0}
  IsBelow n never = Unit {0}
  IsBelow n (feature f) = f < n
  IsBelow n (negation c) = IsBelow n c
  IsBelow n (all cs) = AreBelow n cs
  IsBelow n (any cs) = AreBelow n cs
  IsBelow n (implication c d) = IsBelow n c × IsBelow n d
  IsBelow n (equivalence c d) = IsBelow n c × IsBelow n d

  pub AreBelow : ℕ → Parts ℕ → Type 0
  AreBelow n no_parts = Unit {0}
  AreBelow n (part c cs) = IsBelow n c × AreBelow n cs
