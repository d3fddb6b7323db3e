-- Which records a file holds. The form of the kit's journal of pairs, with a length before each record; the rest is
-- this project's own.
use Rattle.std.specs.Prelude.{◌≡◌, ◌<◌, ℕ, zero, suc, ◌+◌, ◌*◌, ◌/◌, ◌%◌, List, [], ◌∷◌, ◌++◌, map, length, take, Vec, if◌then◌else◌, ◌==◌, ◌&&◌, nat_le}
use Rattle.std.specs.List.{flat_map}
use Rattle.std.specs.declared.alloc.Global.{Global}

-- an open gate, the length of the record in two bytes, the lower one first, and the record
abbrev pub frame : List ℕ → List ℕ
frame text = 1 ∷ length text % 256 ∷ length text / 256 ∷ text

abbrev pub frames : List (List ℕ) → List ℕ
frames records = flat_map frame records

-- each has at most 65,535 bytes
abbrev pub AreShort : List (List ℕ) → Type 0
AreShort [] = Unit {0}
AreShort (text ∷ records) = (length text < 65536) × AreShort records

-- the records of the frames behind the first n bytes, up to the first frame that is closed or cut short
abbrev pub records_behind : ℕ → List ℕ → List (List ℕ)
records_behind (suc n) (byte ∷ rest) = records_behind n rest
records_behind zero (gate ∷ low ∷ high ∷ rest) =
    if gate == 1 && nat_le (low + 256 * high) (length rest)
    then take (low + 256 * high) rest ∷ records_behind (low + 256 * high) rest
    else []
records_behind n rest = []

-- the records that a file holds
abbrev pub records_of : List ℕ → List (List ℕ)
records_of file = records_behind 0 file

-- lists of bytes of the code as definitions see them
abbrev pub texts : List (Vec ℕ Global) → List (List ℕ)
texts records = map (λ (v : Vec ℕ Global). v.items) records

-- the file begins with the frame of this record, and this stands behind it
pub record IsFirst (file text rest : List ℕ) : Type 0 where
  pub short : length text < 65536
  pub whole : file ≡ frame text ++ rest

-- the frames of these records, and from the gate on no whole open frame
pub record IsParted (file : List ℕ) (records : List (List ℕ)) (gate : ℕ) : Type 0 where
  pub short : AreShort records
  pub place : gate ≡ length (frames records)
  pub rest : List ℕ
  pub whole : file ≡ frames records ++ rest
  pub nothing : records_of rest ≡ []
