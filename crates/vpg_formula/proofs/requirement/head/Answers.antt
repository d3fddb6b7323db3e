use Rattle.std.proofs.Common.{◌-◌, length, refl, sym, ◌∙◌, arith}
use Rattle.vpg_formula.specs.ReadCode.{texts}
use Rattle.vpg_formula.specs.EntryCode.{earlier_of}
use Rattle.vpg_formula.specs.declared.stop.Halt.TheVariants as halts
use Rattle.vpg_formula.proofs.EntryCode.{no_variable, no_new_name, no_more, no_sign}
use Rattle.vpg_formula.proofs.requirement.head.Goals as goal

pub returns-then-not-is_variable-clause-none : goal.returns-then-not-is_variable-clause-none
returns-then-not-is_variable-clause-none c =
    no_variable (halts.Syntax 0) (64 - length c.args.entries.now) (earlier_of c.args.entries.now) c.args.name.now (texts c.args.words.now) refl (sym c.is_variable.ensures ∙ c.if-not-is_variable.true)

pub returns-then-is_entry-clause-none : goal.returns-then-is_entry-clause-none
returns-then-is_entry-clause-none c =
    no_new_name (halts.Twice 0) (64 - length c.args.entries.now) (earlier_of c.args.entries.now) c.args.name.now (texts c.args.words.now) refl (sym c.is_variable.ensures ∙ c.if-not-is_variable.false) (sym c.is_entry.ensures ∙ c.if-is_entry.true)

pub returns-then-entries-ge-MOST_ENTRIES-clause-none : goal.returns-then-entries-ge-MOST_ENTRIES-clause-none
returns-then-entries-ge-MOST_ENTRIES-clause-none c =
    no_more (halts.TooMany 0) (64 - length c.args.entries.now) (earlier_of c.args.entries.now) c.args.name.now (texts c.args.words.now) refl (omega (arith, c.if-entries-ge-MOST_ENTRIES.true))

pub returns-in-None-clause-none : goal.returns-in-None-clause-none
returns-in-None-clause-none c =
    no_sign (halts.Syntax 0) (64 - length c.args.entries.now) (earlier_of c.args.entries.now) c.args.name.now (texts c.args.words.now) refl (sym c.is_variable.ensures ∙ c.if-not-is_variable.false) (sym c.is_entry.ensures ∙ c.if-is_entry.false) (sym c.in-None.ensures.rest)
