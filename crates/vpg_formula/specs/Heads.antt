-- The code's form of a formula's first word.
use Rattle.std.specs.Prelude.{ℕ, List, codes, true, false, Option, Some}
use Rattle.vpg_formula.specs.Reading.{after_word}
use Rattle.vpg_formula.specs.Regular.{Regular}
use Rattle.vpg_formula.specs.Written as written
use Rattle.vpg_formula.specs.Written.{Prefix, Fixpoint, Modality, Written, Head as SpecHead, closing, along}
use Rattle.vpg_formula.specs.declared.mark.Mark.{Mark}
use Rattle.vpg_formula.specs.declared.mark.Mark.TheVariants as marks
use Rattle.vpg_formula.specs.declared.head.ActionWord.{ActionWord}
use Rattle.vpg_formula.specs.declared.head.ActionWord.TheVariants as action_words
use Rattle.vpg_formula.specs.declared.head.Front.{Front}
use Rattle.vpg_formula.specs.declared.head.Front.TheVariants as fronts
use Rattle.vpg_formula.specs.declared.head.Bracket.{Bracket}
use Rattle.vpg_formula.specs.declared.head.Bracket.TheVariants as brackets
use Rattle.vpg_formula.specs.declared.head.Binder.{Binder}
use Rattle.vpg_formula.specs.declared.head.Binder.TheVariants as binders
use Rattle.vpg_formula.specs.declared.head.Leaf.{Leaf}
use Rattle.vpg_formula.specs.declared.head.Leaf.TheVariants as leaves
use Rattle.vpg_formula.specs.declared.head.Opening.{Opening}
use Rattle.vpg_formula.specs.declared.head.Opening.TheVariants as openings
use Rattle.vpg_formula.specs.declared.head.Head.{Head}
use Rattle.vpg_formula.specs.declared.head.Head.TheVariants as heads

abbrev pub made_by : ActionWord → Regular → Written
made_by action_words.Can = written.can
made_by action_words.Will = written.will

abbrev pub action_mark : ActionWord → Mark
action_mark action_words.Can = marks.Can
action_mark action_words.Will = marks.Will

abbrev pub front_of : Front → Prefix
front_of fronts.Not = written.negated
front_of fronts.Always = written.always
front_of fronts.Never = written.never
front_of fronts.Possibly = written.possibly
front_of fronts.Inevitably = written.inevitably

abbrev pub modality_of : Bracket → Modality
modality_of brackets.Diamond = written.diamond
modality_of brackets.Box = written.box

abbrev pub modal_mark : Bracket → Mark
modal_mark brackets.Diamond = marks.SomePath
modal_mark brackets.Box = marks.EveryPath

abbrev pub modal_close : Bracket → List ℕ
modal_close brackets.Diamond = codes ">"
modal_close brackets.Box = codes "]"

abbrev pub binder_of : Binder → Fixpoint
binder_of binders.Mu = written.mu
binder_of binders.Nu = written.nu

abbrev pub leaf_head : List ℕ → Leaf → SpecHead
leaf_head word leaves.True = written.leaf (written.constant true)
leaf_head word leaves.False = written.leaf (written.constant false)
leaf_head word leaves.Name = written.leaf (written.named word)
leaf_head word leaves.Deadlock = written.deadlock

abbrev pub opening_head : Opening → SpecHead
opening_head (openings.Action w) = written.of_action (made_by w)
opening_head openings.Parenthesis = written.parenthesis
opening_head (openings.Front f) = written.in_front (front_of f)
opening_head (openings.Bracket b) = written.modality (modality_of b)
opening_head openings.Again = written.again
opening_head openings.After = written.after_action
opening_head (openings.Binder b) = written.binder (binder_of b)

abbrev pub view_head : List ℕ → Head → SpecHead
view_head word (heads.Leaf leaf) = leaf_head word leaf
view_head word (heads.Opening opening) = opening_head opening
view_head word heads.Other = written.other

abbrev pub leaf_mark : List ℕ → Leaf → Mark
leaf_mark word leaves.True = marks.True
leaf_mark word leaves.False = marks.False
leaf_mark word leaves.Name = marks.Named word
leaf_mark word leaves.Deadlock = marks.DeadlockFree

-- the words after the leaf
abbrev pub after_leaf : Leaf → List (List ℕ) → Option (List (List ℕ))
after_leaf leaves.True ws = Some ws
after_leaf leaves.False ws = Some ws
after_leaf leaves.Name ws = Some ws
after_leaf leaves.Deadlock ws = after_word (codes "free") ws
