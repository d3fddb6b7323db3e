-- Reading whole texts of requirements from left to right, as functions on lists, for the reader's private contracts.
-- This project's own.
use Rattle.std.specs.Prelude.{ℕ, zero, suc, List, [], ◌∷◌, ◌++◌, Bool, true, false, if◌then◌else◌, codes, Option, Some, None, option_map}
use Rattle.vpg_formula.specs.Written.{Phrase, is_variable}
use Rattle.vpg_formula.specs.FormulaGrammar.{a_formula}
use Rattle.vpg_formula.specs.Reading.{Read, ◌>>=◌, after_word, phrase_at, if_last}
use Rattle.vpg_formula.specs.Standings.{Context, nothing_around, negated_in, inside, standing_of, is_among, is_like, has}
use Rattle.vpg_formula.specs.Requirements.{Entry, begins_entry, lone_entry}
use Rattle.vpg_formula.specs.declared.mark.Mark.{Mark}
use Rattle.vpg_formula.specs.declared.mark.Mark.TheVariants as marks
use Rattle.vpg_formula.specs.declared.uses.Standing.{Standing}
use Rattle.vpg_formula.specs.declared.uses.Standing.TheVariants.{Unknown}

-- ---- names

-- Contexts of the parts of a formula that are still to come, and how the names after them stand. The marks are visited
-- from the last to the first.
abbrev pub Visit : Type 0
Visit = List Context × List Standing

abbrev pub is_of_formula : Mark → Bool
is_of_formula marks.EveryAction = false
is_of_formula marks.NoAction = false
is_of_formula (marks.Action label) = false
is_of_formula marks.OtherThan = false
is_of_formula marks.BothOf = false
is_of_formula marks.EitherOf = false
is_of_formula marks.Sequence = false
is_of_formula marks.Choice = false
is_of_formula marks.Repeated = false
is_of_formula marks.RepeatedOnce = false
is_of_formula mark = true

-- a mark in a known context
abbrev pub go_on : List (List ℕ) → Mark → Context → Visit → Visit
go_on earlier (marks.Named x) c v = (v.0, standing_of earlier c x ∷ v.1)
go_on earlier marks.Not c v = (negated_in c ∷ v.0, v.1)
go_on earlier marks.Never c v = (negated_in c ∷ v.0, v.1)
go_on earlier marks.SomePath c v = (c ∷ v.0, v.1)
go_on earlier marks.EveryPath c v = (c ∷ v.0, v.1)
go_on earlier marks.Always c v = (c ∷ v.0, v.1)
go_on earlier marks.Possibly c v = (c ∷ v.0, v.1)
go_on earlier marks.Inevitably c v = (c ∷ v.0, v.1)
go_on earlier marks.AgainAndAgain c v = (c ∷ v.0, v.1)
go_on earlier marks.After c v = (c ∷ v.0, v.1)
go_on earlier marks.And c v = (c ∷ c ∷ v.0, v.1)
go_on earlier marks.Or c v = (c ∷ c ∷ v.0, v.1)
go_on earlier marks.Implies c v = (c ∷ negated_in c ∷ v.0, v.1)
go_on earlier (marks.Least x) c v = (inside x c ∷ v.0, v.1)
go_on earlier (marks.Greatest x) c v = (inside x c ∷ v.0, v.1)
go_on earlier mark c v = v

abbrev pub with_first : (Context → Visit → Visit) → Visit → Visit
with_first f ([], ss) = ([], ss)
with_first f (c ∷ parts, ss) = f c (parts, ss)

abbrev pub step : List (List ℕ) → Mark → Visit → Visit
step earlier mark v = if is_of_formula mark then with_first (go_on earlier mark) v else v

-- the last mark first
abbrev pub visit : List (List ℕ) → List Mark → Visit → Visit
visit earlier [] v = v
visit earlier (mark ∷ ms) v = step earlier mark (visit earlier ms v)

-- how the names stand in the formula of these marks
abbrev pub standings_of : List (List ℕ) → List Mark → List Standing
standings_of earlier ms = (visit earlier ms (nothing_around ∷ [], [])).1

-- the place of the first that stands so
abbrev pub first_like : Standing → List Standing → Option ℕ
first_like wanted [] = None
first_like wanted (s ∷ ss) = if is_like wanted s then Some 0 else option_map suc (first_like wanted ss)

-- ---- entries

-- a formula, if each of its names is bound or an earlier entry's
abbrev pub if_known : List (List ℕ) → Phrase × List (List ℕ) → Option (Phrase × List (List ℕ))
if_known earlier p = if has Unknown earlier p.0.written then None else Some p

abbrev pub body_at : List (List ℕ) → Read Phrase
body_at earlier ws = phrase_at a_formula 64 ws >>= if_known earlier

-- the entry of this name, after its `=`
abbrev pub item_behind : List (List ℕ) → List ℕ → Read Entry
item_behind earlier name ws =
    body_at earlier ws >>= λ p. after_word (codes ";") p.1 >>=
    λ left. Some (record { name = name; formula = p.0.written }, left)

abbrev pub entry_behind : List (List ℕ) → List ℕ → Read Entry
entry_behind earlier name ws = after_word (codes "=") ws >>= λ rest. item_behind earlier name rest

abbrev pub new_entry : List (List ℕ) → List ℕ → Read Entry
new_entry earlier name ws = if is_among earlier name then None else entry_behind earlier name ws

abbrev pub entry_at : List (List ℕ) → Read Entry
entry_at earlier [] = None
entry_at earlier (name ∷ ws) = if is_variable name then new_entry earlier name ws else None

-- at most this many entries, after entries of these names
unfoldable pub entries_at : ℕ → List (List ℕ) → List (List ℕ) → Option (List Entry)
entries_at n earlier [] = Some []
entries_at zero earlier (w ∷ ws) = None
entries_at (suc n) earlier (w ∷ ws) =
    entry_at earlier (w ∷ ws) >>= λ e. entries_at n (earlier ++ e.0.name ∷ []) e.1 >>= λ entries. Some (e.0 ∷ entries)

-- one formula alone
abbrev pub lone_at : List (List ℕ) → Option (List Entry)
lone_at ws = body_at [] ws >>= λ p. if_last (lone_entry p.0.written ∷ []) p.1

-- the entries that all the words are
abbrev pub requirements_at : List (List ℕ) → Option (List Entry)
requirements_at ws = if begins_entry ws then entries_at 64 [] ws else lone_at ws
