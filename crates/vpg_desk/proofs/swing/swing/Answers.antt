use Rattle.std.proofs.Common.{◌≡◌, ◌∙◌, ◌++◌, ◌∷◌, [], List, Option, map, sym, ap, subst, rules}
use Rattle.std.specs.Option.{option_to_list}
use Rattle.vpg_trail.specs.Page.{Entry as Step}
use Rattle.vpg_trail.specs.Shown.{Track, entry_of}
use Rattle.vpg_desk.specs.Cuts.{cut_of, cuts_of, SuffixesBelow}
use Rattle.vpg_desk.specs.declared.cuts.Cut.{Cut}
use Rattle.vpg_desk.proofs.Changing.{cuts_of-push}
use Rattle.vpg_desk.proofs.Stacks.{nearest_lifts, put_back_below, popped_cuts, popped_notes, popped_fits, popped_below, popped_suffix, pushed_cuts, pushed_notes, pushed_below}
use Rattle.vpg_desk.proofs.swing.swing.Goals as goal
use Rattle.vpg_desk.proofs.swing.swing.Goals.{After-unwrap, After-unwrap-in-Err}

-- the cut that becomes the nearest of the other side
abbrev left : After-unwrap → Cut
left c = record { serial = c.unwrap-serial.result.serial; place = c.unwrap-serial.result.place; suffix = c.in-Ok.suffix; is_noted = c.args.was }

pushes : (c : After-unwrap) → c.push.new.self.items ≡ c.args.to.now.items ++ left c ∷ []
pushes c =
    let pushed : c.push.new.self.items ≡ c.reserve.new.self.items ++ left c ∷ [] = search rules in
    pushed ∙ ap (λ (l : List Cut). l ++ left c ∷ []) c.reserve.ensures.items

pub splice-requires-clause-place : goal.splice-requires-clause-place
splice-requires-clause-place c =
    popped_fits c.args.from.now.items c.pop.new.self.items c.pop.result c.unwrap-serial.result c.pop.ensures.items c.unwrap-serial.ensures c.args.trail.now.entries c.requires.fits

pub splice-requires-clause-vertices : goal.splice-requires-clause-vertices
splice-requires-clause-vertices c =
    popped_suffix c.args.from.now.items c.pop.new.self.items c.pop.result c.unwrap-serial.result c.pop.ensures.items c.unwrap-serial.ensures c.args.trail.now.vertices c.requires.below

pub splice-requires-clause-lifts : goal.splice-requires-clause-lifts
splice-requires-clause-lifts c =
    let popped : c.args.from.now.items ≡ c.pop.new.self.items ++ c.unwrap-serial.result ∷ [] = c.pop.ensures.items ∙ ap (λ (o : Option Cut). c.pop.new.self.items ++ option_to_list o) c.unwrap-serial.ensures in
    nearest_lifts c.args.trail.now.entries c.args.from.now.items c.unwrap-serial.result (cuts_of c.pop.new.self.items) (ap cuts_of popped ∙ cuts_of-push c.pop.new.self.items c.unwrap-serial.result) c.requires.well_formed

-- the cut that is put back
abbrev back : After-unwrap-in-Err → Cut
back c = record { serial = c.unwrap-serial.result.serial; place = c.unwrap-serial.result.place; suffix = c.in-Err.refused.value; is_noted = c.unwrap-serial.result.is_noted }

pushes_back : (c : After-unwrap-in-Err) → c.push-in-Err.new.self.items ≡ c.pop.new.self.items ++ back c ∷ []
pushes_back c = search rules

pub returns-in-Err-clause-from_below : goal.returns-in-Err-clause-from_below
returns-in-Err-clause-from_below c =
    put_back_below c.args.trail.now.vertices c.args.from.now.items c.pop.new.self.items c.push-in-Err.new.self.items c.pop.result c.unwrap-serial.result
    (back c) c.pop.ensures.items c.unwrap-serial.ensures (pushes_back c) c.in-Err.ensures.back c.requires.below

pub returns-in-Ok-clause-swung : goal.returns-in-Ok-clause-swung
returns-in-Ok-clause-swung c = record {
  nearest = cut_of c.unwrap-serial.result;
  left = popped_cuts c.args.from.now.items c.pop.new.self.items c.pop.result c.unwrap-serial.result c.pop.ensures.items c.unwrap-serial.ensures;
  entries_are = ap (λ (t : Track). t.entries) c.in-Ok.ensures.spliced;
  went =
      pushed_cuts c.args.to.now.items c.push.new.self.items (left c) (pushes c)
      ∙ ap (λ (l : List Step). record { serial = c.unwrap-serial.result.serial; place = c.unwrap-serial.result.place; suffix = l } ∷ cuts_of c.args.to.now.items) c.in-Ok.ensures.removed;
}

pub returns-in-Ok-clause-note : goal.returns-in-Ok-clause-note
returns-in-Ok-clause-note c = popped_notes c.args.from.now.items c.pop.new.self.items c.pop.result c.unwrap-serial.result c.pop.ensures.items c.unwrap-serial.ensures

pub returns-in-Ok-clause-left : goal.returns-in-Ok-clause-left
returns-in-Ok-clause-left c = pushed_notes c.args.to.now.items c.push.new.self.items (left c) (pushes c)

pub returns-in-Ok-clause-vertices : goal.returns-in-Ok-clause-vertices
returns-in-Ok-clause-vertices c = ap (λ (t : Track). t.vertices) c.in-Ok.ensures.spliced

pub returns-in-Ok-clause-from_below : goal.returns-in-Ok-clause-from_below
returns-in-Ok-clause-from_below c =
    popped_below c.args.from.now.items c.pop.new.self.items c.pop.result c.unwrap-serial.result c.pop.ensures.items c.unwrap-serial.ensures c.args.trail.now.vertices c.requires.below

pub returns-in-Ok-clause-to_below : goal.returns-in-Ok-clause-to_below
returns-in-Ok-clause-to_below c = pushed_below c.args.to.now.items c.push.new.self.items (left c) (pushes c) c.args.trail.now.vertices c.in-Ok.ensures.removed_vertices

pub returns-in-Err-clause-vertices : goal.returns-in-Err-clause-vertices
returns-in-Err-clause-vertices c = ap (λ (t : Track). t.vertices) c.in-Err.ensures.err

pub returns-in-Err-clause-to_below : goal.returns-in-Err-clause-to_below
returns-in-Err-clause-to_below c = subst (SuffixesBelow c.args.trail.now.vertices) (sym c.reserve.ensures.items)

pub returns-in-Err-clause-err_from : goal.returns-in-Err-clause-err_from
returns-in-Err-clause-err_from c =
    pushed_cuts c.pop.new.self.items c.push-in-Err.new.self.items (back c) (pushes_back c)
    ∙ ap (λ l. record { serial = c.unwrap-serial.result.serial; place = c.unwrap-serial.result.place; suffix = map entry_of l } ∷ cuts_of c.pop.new.self.items) c.in-Err.ensures.back
    ∙ sym (popped_cuts c.args.from.now.items c.pop.new.self.items c.pop.result c.unwrap-serial.result c.pop.ensures.items c.unwrap-serial.ensures)

pub returns-in-Err-clause-err_notes : goal.returns-in-Err-clause-err_notes
returns-in-Err-clause-err_notes c =
    pushed_notes c.pop.new.self.items c.push-in-Err.new.self.items (back c) (pushes_back c)
    ∙ sym (popped_notes c.args.from.now.items c.pop.new.self.items c.pop.result c.unwrap-serial.result c.pop.ensures.items c.unwrap-serial.ensures)
