use Rattle.std.proofs.Common.{◌+◌, sym, ap, ◌∙◌, arith, subst}
use Rattle.vpg_office.specs.Fronts.{IsHistory, family_between}
use Rattle.vpg_office.proofs.Entering.{story_length, new_story, new_events, new_kept, next_token}
use Rattle.vpg_office.proofs.log.Calls.enter.Goals as goal

pub overflow_add-count : goal.overflow_add-count
overflow_add-count g c = record { fits = omega (arith, c.len-count.ensures.length, c.requires.few) }

pub at-requires-clause-count : goal.at-requires-clause-count
at-requires-clause-count g c =
    ap (λ n. n + 1) c.len-count.ensures.length ∙ sym (story_length g.L.Terms.shelves g.L.Terms.game g.L.Terms.diagram c.args.self.now.chronicle c.args.self.now.newest c.requires.kept c.args.place c.args.request.now.session c.args.request.now.asked c.args.answer c.requires.place.0 c.requires.place.1 c.requires.reply c.requires.hands c.requires.named)

pub at-requires-clause-is_story : goal.at-requires-clause-is_story
at-requires-clause-is_story g c = new_story g.L.Terms.shelves g.L.Terms.game g.L.Terms.diagram c.args.self.now.chronicle c.args.self.now.newest c.requires.kept c.args.place c.args.request.now.session c.args.request.now.asked c.args.answer c.requires.place.0 c.requires.place.1 c.requires.reply c.requires.hands c.requires.named

pub returns-clause-kept : goal.returns-clause-kept
returns-clause-kept g c =
    new_kept g.L.Terms.shelves g.L.Terms.game g.L.Terms.diagram c.args.self.now.chronicle c.args.self.now.newest c.requires.kept c.args.place c.args.request.now.session c.args.request.now.asked c.args.answer c.requires.place.0 c.requires.place.1 c.requires.reply c.requires.hands c.requires.named
    c.put.new.self c.at.result c.put.ensures.places c.put.ensures.told c.put.ensures.given c.put.ensures.all c.at.ensures

pub returns-clause-newest : goal.returns-clause-newest
returns-clause-newest g c =
    c.at.ensures ∙ new_events g.L.Terms.shelves g.L.Terms.game g.L.Terms.diagram c.args.self.now.chronicle c.args.self.now.newest c.requires.kept c.args.place c.args.request.now.session c.args.request.now.asked c.args.answer c.requires.place.0 c.requires.place.1 c.requires.reply c.requires.hands c.requires.named

pub returns-clause-history : goal.returns-clause-history
returns-clause-history g c = subst (IsHistory (family_between g.L.Terms.game g.L.Terms.diagram)) (sym c.copy.ensures.same) c.copy.ensures.history

pub put-requires-clause-next : goal.put-requires-clause-next
put-requires-clause-next g c = next_token g.L.Terms.shelves g.L.Terms.game g.L.Terms.diagram c.args.self.now.chronicle c.args.self.now.newest c.requires.kept c.args.place c.args.request.now.session c.args.request.now.asked c.args.answer c.requires.place.0 c.requires.place.1 c.requires.reply c.requires.hands c.requires.named
