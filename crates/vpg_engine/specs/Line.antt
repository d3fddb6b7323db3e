-- How a line of a script changes the book of an office's desk and what the engine holds, and what it writes.
use Rattle.std.specs.Prelude.{◌≡◌, ℕ, ◌+◌, List, length, Result}
use Rattle.vpg_script.specs.Answer.{Answer}
use Rattle.vpg_desk.specs.Book.{Book, Call, Reply, opened}
use Rattle.vpg_desk.specs.History.{Event, IsLegalFrom, book_after}
use Rattle.vpg_desk.specs.Desk.{family_of}
use Rattle.vpg_engine.specs.Held.{Held, nothing_held}
use Rattle.vpg_engine.specs.Answers.{Begins, Own, Rest}
use Rattle.vpg_engine.specs.Setting.{setting_in}
use Rattle.vpg_texts.specs.Scene.{Scene}

-- between two lines: the book of the desk, how many calls were made on it, and what the engine holds
pub record Between : Type 0 where
  pub book : Book
  pub calls : ℕ
  pub held : Held

-- before the first line
abbrev pub begun : Between
begun = record { book = opened; calls = 0; held = nothing_held }

-- A line of this beginning makes calls, each with the reply that the book gives at that point. It has this answer, and
-- leaves the book after the calls.
abbrev pub beginning : Scene → ℕ → Result Call Own → (Reply → Rest) → Between → Answer → Between → Type 0
beginning scene label first P old answer new =
    (calls : List Event) ×
    (Begins scene old.held old.calls label P first calls answer new.held ×
    IsLegalFrom (family_of (setting_in scene)) old.book calls
    × (new.book ≡ book_after (family_of (setting_in scene)) old.book calls) × (new.calls ≡ old.calls + length calls))
