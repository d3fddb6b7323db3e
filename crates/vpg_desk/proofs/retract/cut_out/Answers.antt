use Rattle.std.proofs.Common.{◌≡◌, ◌∙◌, ◌++◌, ◌∷◌, [], List, ap, rules}
use Rattle.vpg_trail.specs.Page.{Entry as Step}
use Rattle.vpg_desk.specs.Cuts.{cuts_of}
use Rattle.vpg_desk.specs.declared.cuts.Cut.{Cut}
use Rattle.vpg_desk.proofs.Stacks.{pushed_cuts, pushed_notes, pushed_below}
use Rattle.vpg_desk.proofs.retract.cut_out.Goals as goal
use Rattle.vpg_desk.proofs.retract.cut_out.Goals.{After-unwrap}

-- the cut that is the newest now
abbrev left : After-unwrap → Cut
left c = record { serial = c.args.serial; place = c.args.place; suffix = c.in_ok-removed.removed; is_noted = c.args.was }

pushes : (c : After-unwrap) → c.push.new.self.items ≡ c.args.past.now.items ++ left c ∷ []
pushes c =
    let pushed : c.push.new.self.items ≡ c.reserve.new.self.items ++ left c ∷ [] = search rules in
    pushed ∙ ap (λ (l : List Cut). l ++ left c ∷ []) c.reserve.ensures.items

pub returns-clause-past : goal.returns-clause-past
returns-clause-past c =
    pushed_cuts c.args.past.now.items c.push.new.self.items (left c) (pushes c)
    ∙ ap (λ (l : List Step). record { serial = c.args.serial; place = c.args.place; suffix = l } ∷ cuts_of c.args.past.now.items) c.in_ok-removed.ensures.removed

pub returns-clause-notes : goal.returns-clause-notes
returns-clause-notes c = pushed_notes c.args.past.now.items c.push.new.self.items (left c) (pushes c)

pub returns-clause-below : goal.returns-clause-below
returns-clause-below c = pushed_below c.args.past.now.items c.push.new.self.items (left c) (pushes c) c.args.trail.now.vertices c.in_ok-removed.ensures.removed_vertices
