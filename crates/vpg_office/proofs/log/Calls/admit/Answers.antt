use Rattle.std.proofs.Common.{◌≡◌, ◌<◌, length, drop, sym, ap, ◌∙◌, arith, subst}
use Rattle.boxcar.specs.Table.{Shelves, Shows}
use Rattle.vpg_office.specs.Kept.{lines_of}
use Rattle.vpg_office.specs.Story.{lines_by}
use Rattle.vpg_office.proofs.Entering.{calls_since, same_kept, seen_fits}
use Rattle.vpg_office.proofs.log.Calls.admit.Goals as goal

pub has_call_since-requires : goal.has_call_since-requires
has_call_since-requires g c =
    omega (arith, c.len-seen.ensures.length, ap length c.deref.ensures.value, seen_fits g.L.Terms.shelves g.L.Terms.game g.L.Terms.diagram c.args.self.now.chronicle c.args.self.now.newest c.requires.kept c.args.front.now c.requires.seen)

pub returns-then-has_call_since-clause-err : goal.returns-then-has_call_since-clause-err
returns-then-has_call_since-clause-err g c =
    let same = calls_since g.L.Terms.shelves g.L.Terms.game g.L.Terms.diagram c.args.self.now.chronicle c.args.self.now.newest c.requires.kept c.args.request.now.session (length c.args.front.now) in
    let told : lines_by c.args.request.now.session (lines_of (drop c.len-seen.result c.deref.result.now)) ≡ lines_by c.args.request.now.session (lines_of (drop (length c.args.front.now) c.args.self.now.chronicle.told.items)) =
    λ j. lines_by c.args.request.now.session (lines_of (drop (c.len-seen.ensures.length j) (c.deref.ensures.value j))) in
    (c.copy-then-has_call_since.ensures.same, omega (arith, c.if-len-self.false, c.len.ensures.length, c.requires.limit), subst (λ n. 0 < n) (told ∙ sym same) (c.has_call_since.ensures.yes c.if-has_call_since.true))

pub returns-in-Ok-clause-none : goal.returns-in-Ok-clause-none
returns-in-Ok-clause-none g c =
    let same = calls_since g.L.Terms.shelves g.L.Terms.game g.L.Terms.diagram c.args.self.now.chronicle c.args.self.now.newest c.requires.kept c.args.request.now.session (length c.args.front.now) in
    let told : lines_by c.args.request.now.session (lines_of (drop c.len-seen.result c.deref.result.now)) ≡ lines_by c.args.request.now.session (lines_of (drop (length c.args.front.now) c.args.self.now.chronicle.told.items)) =
    λ j. lines_by c.args.request.now.session (lines_of (drop (c.len-seen.ensures.length j) (c.deref.ensures.value j))) in
    same ∙ sym told ∙ c.has_call_since.ensures.no c.if-has_call_since.false

pub returns-in-Ok-clause-kept : goal.returns-in-Ok-clause-kept
returns-in-Ok-clause-kept g c = same_kept c.prepare.new.self c.prepare.ensures.same c.requires.kept

pub returns-in-Err-clause-kept : goal.returns-in-Err-clause-kept
returns-in-Err-clause-kept g c = same_kept c.prepare.new.self c.prepare.ensures.same c.requires.kept

pub returns-in-Ok-clause-place : goal.returns-in-Ok-clause-place
returns-in-Ok-clause-place g c = (subst (λ (s : Shelves). Shows s c.in-Ok.place) c.requires.row c.in-Ok.ensures.place.0, c.in-Ok.ensures.place.1)

pub returns-then-len-self-clause-err : goal.returns-then-len-self-clause-err
returns-then-len-self-clause-err g c = (c.copy.ensures.same, omega (arith, c.if-len-self.true, c.len.ensures.length, c.requires.limit), omega (arith, c.len.ensures.length, c.len.ensures.fits))
