-- Requirements in their written form: the state formulas of mCRL2 without data, with regular formulas inside
-- modalities, and this project's words for common formulas.
use Rattle.std.specs.Prelude.{ℕ, List, length, Bool, true, false, not, ◌&&◌, if◌then◌else◌, codes, bytes_eq, Option, Some, None, nat_le}
use Rattle.std.specs.List.{list_all}
use Rattle.vpg_features.specs.Names.{is_name_byte, starts_as_name}
use Rattle.vpg_formula.specs.Words.{is_keyword}
use Rattle.vpg_formula.specs.Regular.{Regular}

-- a modality or a word in front of a formula
pub data Prefix : Type 0 where
  -- !f, <R>f, [R]f
  negated : Prefix
  some_path : Regular → Prefix
  every_path : Regular → Prefix
  -- always f, never f, possibly f, inevitably f, again and again f, after A f
  always : Prefix
  never : Prefix
  possibly : Prefix
  inevitably : Prefix
  again_and_again : Prefix
  after : Regular → Prefix

-- which fixpoint: mu or nu
pub data Fixpoint : Type 0 where
  mu : Fixpoint
  nu : Fixpoint

-- a formula in its written form
pub data Written : Type 0 where
  -- true, false
  constant : Bool → Written
  -- a variable, or the name of an earlier entry
  named : List ℕ → Written
  -- deadlock free, can A, will A
  deadlock_free : Written
  can : Regular → Written
  will : Regular → Written
  prefixed : Prefix → Written → Written
  -- f && g, f || g, f => g
  conjunction : Written → Written → Written
  disjunction : Written → Written → Written
  implication : Written → Written → Written
  -- mu X. f, nu X. f
  binding : Fixpoint → List ℕ → Written → Written

-- a variable or an entry: a letter or `_`, then letters, digits and `_`, 64 bytes at most, and none of the words of
-- requirements
abbrev pub is_variable : List ℕ → Bool
is_variable word =
    starts_as_name word && (list_all is_name_byte word && (nat_le (length word) 64 && not (is_keyword word)))

-- `<` and `[`
pub data Modality : Type 0 where
  diamond : Modality
  box : Modality

-- the closing bracket
abbrev pub closing : Modality → List ℕ
closing diamond = codes ">"
closing box = codes "]"

abbrev pub along : Modality → Regular → Prefix
along diamond x = some_path x
along box x = every_path x

-- the beginning of a formula, by its first word
pub data Head : Type 0 where
  -- true, false, a variable, deadlock free
  leaf : Written → Head
  deadlock : Head
  -- can, will
  of_action : (Regular → Written) → Head
  -- (
  parenthesis : Head
  -- !, always, never, possibly, inevitably
  in_front : Prefix → Head
  -- < and [
  modality : Modality → Head
  -- again and again, after
  again : Head
  after_action : Head
  -- mu, nu
  binder : Fixpoint → Head
  -- a word that begins no formula
  other : Head

abbrev pub head_of : List ℕ → Head
head_of w =
    if bytes_eq w (codes "true") then leaf (constant true)
    else (if bytes_eq w (codes "false") then leaf (constant false)
    else (if bytes_eq w (codes "deadlock") then deadlock
    else (if bytes_eq w (codes "can") then of_action can
    else (if bytes_eq w (codes "will") then of_action will
    else (if bytes_eq w (codes "(") then parenthesis
    else (if bytes_eq w (codes "!") then in_front negated
    else (if bytes_eq w (codes "always") then in_front always
    else (if bytes_eq w (codes "never") then in_front never
    else (if bytes_eq w (codes "possibly") then in_front possibly
    else (if bytes_eq w (codes "inevitably") then in_front inevitably
    else (if bytes_eq w (codes "again") then again
    else (if bytes_eq w (codes "after") then after_action
    else (if bytes_eq w (codes "<") then modality diamond
    else (if bytes_eq w (codes "[") then modality box
    else (if bytes_eq w (codes "mu") then binder mu
    else (if bytes_eq w (codes "nu") then binder nu
    else (if is_variable w then leaf (named w) else other)))))))))))))))))

-- A formula, and whether it ends with a fixpoint's. Such a formula goes on as long as it can, so nothing can be joined
-- after it.
pub record Phrase : Type 0 where
  pub written : Written
  pub is_endless : Bool

abbrev pub whole : Written → Phrase
whole f = record { written = f; is_endless = false }

abbrev pub behind : Prefix → Phrase → Phrase
behind prefix p = record { written = prefixed prefix p.written; is_endless = p.is_endless }

abbrev pub joined : (Written → Written → Written) → Phrase → Phrase → Option Phrase
joined sign p q =
    if p.is_endless then None else Some (record { written = sign p.written q.written; is_endless = q.is_endless })

abbrev pub conjunction_of : Phrase → Phrase → Option Phrase
conjunction_of p q = joined conjunction p q

abbrev pub disjunction_of : Phrase → Phrase → Option Phrase
disjunction_of p q = joined disjunction p q

abbrev pub implication_of : Phrase → Phrase → Option Phrase
implication_of p q = joined implication p q
