-- Tokens as callers see them.
use Rattle.std.specs.Prelude.{◌≡◌, ℕ, zero, suc, ◌+◌, List, [], ◌∷◌, ◌++◌}
use Rattle.boxcar.specs.Table.{Shelves}
use Rattle.vpg_desk.specs.Book.{Reply}
use Rattle.vpg_desk.specs.History.{Event}

-- the change, and the history up to the call that gave the token
pub record TokenView : Type 0 where
  pub serial : ℕ
  pub history : List Event

-- the history ends with a call that gave a token of this serial
pub record EndsWith (gives : Reply → Type 0) (history : List Event) : Type 0 where
  pub before : List Event
  pub own : Event
  pub is : history ≡ before ++ own ∷ []
  pub gave : gives own.reply

-- a session: its number, and how many calls of the log are its own
pub record Caller : Type 0 where
  pub number : ℕ
  pub calls : ℕ

-- the base of an office: the name of its row, and its ledger's name and parts
pub record Named : Type 0 where
  pub row : Shelves
  pub name : ℕ
  pub parts : ℕ

-- the sum of the numbers from 1 to this one: the parts of the ledger that this many sessions have
abbrev pub up_to : ℕ → ℕ
up_to zero = 0
up_to (suc n) = suc n + up_to n
