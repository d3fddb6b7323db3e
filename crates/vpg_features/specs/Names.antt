-- Feature names, and lists of them. This project's own.
use Rattle.std.specs.Prelude.{◌≡◌, ◌≢◌, ℕ, ◌<◌, ◌≤◌, List, [], ◌∷◌, length, Bool, true, false, ◌||◌, ◌==◌, if◌then◌else◌, codes, Option, Some, None, slice_get, position}
use Rattle.std.specs.Char.{is_ascii_alphabetic, is_ascii_alphanumeric}
use Rattle.std.specs.List.{list_all}
use Rattle.std.specs.Str.{bytes_eq}
use Rattle.vpg_features.specs.declared.fault.NameFault.{NameFault}
use Rattle.vpg_features.specs.declared.fault.NameFault.TheVariants as faults

-- a letter or _
abbrev pub is_name_start : ℕ → Bool
is_name_start b = is_ascii_alphabetic b || b == 95

-- a letter, a digit or _
abbrev pub is_name_byte : ℕ → Bool
is_name_byte b = is_ascii_alphanumeric b || b == 95

abbrev pub starts_as_name : List ℕ → Bool
starts_as_name [] = false
starts_as_name (b ∷ bs) = is_name_start b

-- the constant that a word stands for: `true` or `false`
abbrev pub constant_of : List ℕ → Option Bool
constant_of word =
    if bytes_eq word (codes "true") then Some true else (if bytes_eq word (codes "false") then Some false else None)

-- a letter or _ and then letters, digits and _, 64 bytes at most, and neither `true` nor `false`
pub record IsFeatureName (name : List ℕ) : Type 0 where
  pub start : starts_as_name name ≡ true
  pub bytes : list_all is_name_byte name ≡ true
  pub short : length name ≤ 64
  pub no_constant : constant_of name ≡ None

-- the name isn't among the names
abbrev pub Lacks : List (List ℕ) → List ℕ → Type 0
Lacks names name = (i : ℕ) → slice_get names i ≢ Some name

abbrev pub AreDistinct : List (List ℕ) → Type 0
AreDistinct [] = Unit {0}
AreDistinct (name ∷ names) = Lacks names name × AreDistinct names

abbrev pub EachIsName : List (List ℕ) → Type 0
EachIsName [] = Unit {0}
EachIsName (name ∷ names) = IsFeatureName name × EachIsName names

-- feature names, each once, 512 at most
pub record AreNames (names : List (List ℕ)) : Type 0 where
  pub each : EachIsName names
  pub distinct : AreDistinct names
  pub few : length names ≤ 512

-- a name that can be added
pub record IsNew (names : List (List ℕ)) (name : List ℕ) : Type 0 where
  pub is_name : IsFeatureName name
  pub absent : Lacks names name

-- why a name is not added, the first reason that holds
abbrev pub IsRefused : List (List ℕ) → List ℕ → NameFault → Type 0
IsRefused names name faults.BadName = ¬ IsFeatureName name
IsRefused names name (faults.Twice i) = slice_get names i ≡ Some name
IsRefused names name faults.TooMany = IsNew names name × (length names ≡ 512)
IsRefused names name faults.Memory = IsNew names name × (length names < 512)

-- the index of a name
abbrev pub index_of : List (List ℕ) → List ℕ → Option ℕ
index_of names name = position (λ n. bytes_eq name n) names
