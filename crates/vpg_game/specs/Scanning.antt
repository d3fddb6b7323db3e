-- Going through a text, byte by byte, for the contracts of private functions. This project's own.
use Rattle.std.specs.Prelude.{ℕ, ◌+◌, ◌*◌, min, Bool, if◌then◌else◌, ◌==◌, List, [], ◌∷◌, ◌++◌, Option, Some, None, option_map}
use Rattle.std.specs.Char.{is_ascii_digit, digit_value}
use Rattle.vpg_game.specs.SpelledNames.{no_identifier}
use Rattle.vpg_game.specs.declared.scanning.Mode.{Mode}
use Rattle.vpg_game.specs.declared.scanning.Mode.TheVariants.{Between, Header, Start, Guard, Quoted}

-- the mode, the start, the bytes of the present entry's name, and the names of earlier entries
pub record State : Type 0 where
  pub mode : Mode
  pub start : Option ℕ
  pub name : List ℕ
  pub names : List (List ℕ)

abbrev pub at : Mode → Option ℕ → List ℕ → List (List ℕ) → State
at mode start name names = record { mode = mode; start = start; name = name; names = names }

-- a byte outside of headings, guards and names
abbrev pub between : Option ℕ → List ℕ → List (List ℕ) → ℕ → State
between start name names b =
    if b == 59 then at Between start [] (names ++ name ∷ [])
    else (if b == 34 then at Quoted start name names
    else (if b == 91 then at Guard start name names
    else (if b == 112 then at Header start name names
    else (if b == 115 then at Start (Some 0) name names
    else at Between start name names))))

-- one more digit
abbrev pub longer : Option ℕ → ℕ → Option ℕ
longer start b = option_map (λ n. min no_identifier (n * 10 + digit_value b)) start

abbrev pub stepped : Mode → Option ℕ → List ℕ → List (List ℕ) → ℕ → State
stepped Between start name names b = between start name names b
stepped Header start name names b = if b == 59 then at Between start name names else at Header start name names
stepped Start start name names b =
    if b == 59 then at Between start name names
    else (if is_ascii_digit b then at Start (longer start b) name names else at Start start name names)
stepped Guard start name names b = if b == 93 then at Between start name names else at Guard start name names
stepped Quoted start name names b =
    if b == 34 then at Between start name names else at Quoted start (name ++ b ∷ []) names

abbrev pub step : State → ℕ → State
step s b = stepped s.mode s.start s.name s.names b

abbrev pub run : State → List ℕ → State
run s [] = s
run s (b ∷ text) = run (step s b) text
