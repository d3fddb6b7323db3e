-- Putting labels into the text of a game, byte by byte, for the contracts of private functions. This project's own.
use Rattle.std.specs.Prelude.{ℕ, suc, List, [], ◌∷◌, ◌++◌, Bool, true, false, ◌==◌, if◌then◌else◌, codes}
use Rattle.std.specs.Char.{is_ascii_digit}
use Rattle.vpg_labels.specs.Labels.{label_of}
use Rattle.vpg_labels.specs.declared.labels.Mode.{Mode}
use Rattle.vpg_labels.specs.declared.labels.Mode.TheVariants.{Front, Header, Start, Between, Guard, Quoted}

-- where the text stands after a byte
abbrev pub mode_behind : Mode → ℕ → Mode
mode_behind Front b =
    if is_ascii_digit b then Between else (if b == 112 then Header else (if b == 115 then Start else Front))
mode_behind Header b = if b == 59 then Front else Header
mode_behind Start b = if b == 59 then Front else Start
mode_behind Between b = if b == 34 then Quoted else (if b == 91 then Guard else Between)
mode_behind Guard b = if b == 93 then Between else Guard
mode_behind Quoted b = if b == 34 then Between else Quoted

-- the vertex after a byte
abbrev pub vertex_behind : Mode → ℕ → ℕ → ℕ
vertex_behind Front v b = v
vertex_behind Header v b = v
vertex_behind Start v b = v
vertex_behind Between v b = if b == 59 then suc v else v
vertex_behind Guard v b = v
vertex_behind Quoted v b = v

-- a label in quotes
abbrev pub label_text : List (List ℕ) → ℕ → List ℕ
label_text labels v = 32 ∷ 34 ∷ (label_of labels v ++ 34 ∷ [])

-- the start, if there is to be one
abbrev pub start_text : Bool → List ℕ
start_text false = []
start_text true = codes "start 0;\n"

-- the text in front of a byte: the start before the first entry, the label before the end of each
abbrev pub before_text : List (List ℕ) → Bool → Mode → ℕ → ℕ → List ℕ
before_text labels is_started Front v b = if is_ascii_digit b then start_text is_started else []
before_text labels is_started Header v b = []
before_text labels is_started Start v b = []
before_text labels is_started Between v b = if b == 59 then label_text labels v else []
before_text labels is_started Guard v b = []
before_text labels is_started Quoted v b = []

-- the byte, unless it is of a start or a name
abbrev pub kept_text : Mode → ℕ → List ℕ
kept_text Front b = if b == 115 then [] else b ∷ []
kept_text Header b = b ∷ []
kept_text Start b = []
kept_text Between b = if b == 34 then [] else b ∷ []
kept_text Guard b = b ∷ []
kept_text Quoted b = []

-- The text with labels, from here on, if the present entry is that of this vertex.
abbrev pub labelled_text : List (List ℕ) → Bool → Mode → ℕ → List ℕ → List ℕ
labelled_text labels is_started mode v [] = []
labelled_text labels is_started mode v (b ∷ text) =
    before_text labels is_started mode v b ++ (kept_text mode b
    ++ labelled_text labels is_started (mode_behind mode b) (vertex_behind mode v b) text)
