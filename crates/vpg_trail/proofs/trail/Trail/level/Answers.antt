use Rattle.std.proofs.Common.{◌∙◌, List, length, take, map, sym, ap}
use Rattle.std.proofs.lemmas.List.{take-map}
use Rattle.vpg_trail.specs.Page.{decisions_of}
use Rattle.vpg_trail.specs.declared.entry.Entry.{Entry}
use Rattle.vpg_trail.specs.Shown.{entry_of, Track}
use Rattle.vpg_trail.proofs.trail.Trail.level.Goals as goal

pub returns : goal.returns
returns c =
    c.count_decisions.ensures
    ∙ ap (λ (l : List Entry). length (decisions_of (map entry_of (take c.args.place l)))) c.deref.ensures.value
    ∙ ap (λ l. length (decisions_of l)) (sym (take-map entry_of c.args.place c.self.inside.entries.items))
    ∙ ap (λ (t : Track). length (decisions_of (take c.args.place t.entries))) c.self.view_is
