use Rattle.std.proofs.Common.{ℕ, ◌<◌, All, map, length, sym, ap, subst, ◌∙◌}
use Rattle.vpg_partial.specs.Known.{literal_of}
use Rattle.vpg_family.proofs.Shown.{shown}
use Rattle.vpg_family.proofs.systems.system_marked.Goals as goal

pub reachable-requires : goal.reachable-requires
reachable-requires c = c.requires.known ∙ sym c.requires.features

pub draw_system-requires-clause-features : goal.draw_system-requires-clause-features
draw_system-requires-clause-features c = ap length c.names-names.ensures.names ∙ c.names-names.ensures.diagram.each_named ∙ sym c.requires.features

pub draw_system-requires-clause-known : goal.draw_system-requires-clause-known
draw_system-requires-clause-known c = c.requires.known ∙ sym c.requires.features

pub draw_system-requires-clause-decisions : goal.draw_system-requires-clause-decisions
draw_system-requires-clause-decisions c = subst (λ (n : ℕ). All (λ d. d.feature < n) c.args.decisions.now) (sym c.requires.features) c.requires.decisions

pub draw_system-requires-clause-reached : goal.draw_system-requires-clause-reached
draw_system-requires-clause-reached c = ap length c.deref.ensures.value ∙ c.in_ok-reached.ensures.count

pub returns : goal.returns
returns c =
    shown c.args.diagram.now.names c.names-names.result.now c.args.known.now (map literal_of c.args.decisions.now) c.args.system.now c.args.marks.now c.in_ok-reached.reached.items c.deref.result.now
    c.new-picture.result.items c.draw_system.new.out.items c.in_ok-reached.ensures c.in_ok-draw_system.ensures.drawn c.new-picture.ensures.items c.names-names.ensures.names c.deref.ensures.value
