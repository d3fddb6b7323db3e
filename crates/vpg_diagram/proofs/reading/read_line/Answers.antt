use Rattle.std.proofs.Common.{◌≡◌, ℕ, ◌+◌, ◌≤◌, refl, sym, arith}
use Rattle.vpg_diagram.specs.LineView.{line_of}
use Rattle.vpg_rules.specs.View.{constraint_of}
use Rattle.vpg_diagram.proofs.RuleRead.{rule_line}
use Rattle.vpg_diagram.proofs.LineLemmas.{room_after}
use Rattle.vpg_diagram.proofs.reading.read_line.Goals as goal

pub returns-in-Some-clause-line : goal.returns-in-Some-clause-line
returns-in-Some-clause-line c =
    rule_line c.args.names.now c.args.names.now c.args.rules c.args.bytes.now c.in-Some.text.now (constraint_of c.in_ok-rule.rule) c.in_ok-rule.count (sym c.in-Some.ensures) refl c.in_ok-rule.ensures.line

pub returns-clause-bound : goal.returns-clause-bound
returns-clause-bound c =
    let read = c.in_ok-line.ensures.line in
    let room = room_after c.args.names.now c.args.rules read.form (line_of c.in_ok-line.line) c.requires read.line_is in
    omega (arith, room, read.count_is, c.rules.ensures)
