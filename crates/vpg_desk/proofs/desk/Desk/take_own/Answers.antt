use Rattle.std.proofs.Common.{◌≡◌, ◌∙◌, ◌++◌, ◌≤◌, List, None, Result, Ok, Err, IfErr, true, length, map, sym, ap, subst, arith, refl}
use Rattle.std.proofs.lemmas.List.{length-map}
use Rattle.vpg_trail.specs.Page.{Entry as Step, literal_of, choices_of}
use Rattle.vpg_trail.specs.Shown.{entry_of}
use Rattle.vpg_trail.specs.WellFormed.{LiftsStandAfter}
use Rattle.std.specs.Arc.{arc_value}
use Rattle.vpg_game.specs.Game.{NamedGame}
use Rattle.vpg_game.proofs.Graphs.{same_count}
use Rattle.vpg_measure.specs.Orders.{OrderView}
use Rattle.vpg_desk.specs.Book.{Commit, Added, Refused, first_missing, outdated_at, refuses_commit}
use Rattle.vpg_faults.specs.declared.refusal.Refusal.TheVariants.{Outdated}
use Rattle.vpg_desk.specs.Commit.{IsOrderOf, handed_in, raised_by}
use Rattle.vpg_desk.specs.DeskFields.{desk_of}
use Rattle.vpg_desk.specs.State.{DeskState, IsStep, Replies}
use Rattle.vpg_faults.specs.declared.fault.CommitFault.TheVariants.{Memory}
use Rattle.vpg_desk.proofs.Unchanged.{still_desk}
use Rattle.vpg_desk.proofs.Committed.{own_outdated, few, lifts_stand, committed_step, committed_desk, settled_by}
use Rattle.vpg_desk.proofs.desk.Desk.take_own.Goals as goal
use Rattle.vpg_desk.proofs.desk.Desk.take_own.Goals.{After-first_missing, After-raise, After-len-added}

missing : (c : After-first_missing) → c.first_missing.result ≡ first_missing (choices_of c.self.inside.trail.entries) (map literal_of c.args.harvest.now.order.decisions)
missing c =
    c.first_missing.ensures ∙ ap (λ (page : List Step). first_missing (choices_of page) (map literal_of c.decisions.result.now)) c.entries.ensures.entries
    ∙ ap (λ l. first_missing (choices_of c.self.inside.trail.entries) (map literal_of l)) (c.decisions.ensures.decisions ∙ ap (λ (o : OrderView). o.decisions) c.order-order.ensures.order)

pub returns-in-Some-clause-refused : goal.returns-in-Some-clause-refused
returns-in-Some-clause-refused c =
    subst (λ (s : DeskState). Replies s (Commit (handed_in true c.args.harvest.now)) (Refused (Outdated c.in-Some.feature))) c.self.view_is
    (own_outdated c.self.inside c.args.harvest.now c.in-Some.feature (sym (missing (goal.at.returns-in-Some-clause-refused c).After-first_missing) ∙ c.in-Some.is))

ours : (c : After-len-added) → IsOrderOf (desk_of c.self.inside) c.args.harvest.now.order
ours c = subst (λ (s : DeskState). IsOrderOf s c.args.harvest.now.order) (sym c.self.view_is) c.requires

none : (c : After-len-added) → first_missing (choices_of c.self.inside.trail.entries) (map literal_of c.args.harvest.now.order.decisions) ≡ None
none c =
    sym (c.in_default.ensures ∙ ap (λ (page : List Step). first_missing (choices_of page) (map literal_of c.decisions.result.now)) c.entries.ensures.entries
    ∙ ap (λ l. first_missing (choices_of c.self.inside.trail.entries) (map literal_of l)) (c.decisions.ensures.decisions ∙ ap (λ (o : OrderView). o.decisions) c.order-order.ensures.order))

added : (c : After-len-added) → c.len-added.result ≡ length (raised_by c.args.harvest.now c.self.inside.trail)
added c = omega (arith, c.len-added.ensures, c.in_ok-raised.raised.ok.0, length-map c.in_ok-raised.raised.items entry_of, ap length c.in_ok-raised.ensures.lifts)

pub overflow_cast-added : goal.overflow_cast-added
overflow_cast-added c =
    let at = (goal.at.overflow_cast-added c).After-len-added in
    let bound : length (raised_by c.args.harvest.now c.self.inside.trail) ≤ 131072 = few c.self.inside c.self.invariant c.args.harvest.now c.order-order.ensures.harvest (ours at) (none at) in
    omega (arith, added at, bound)

pub extend-requires-clause-lifts : goal.extend-requires-clause-lifts
extend-requires-clause-lifts c =
    let at = (goal.at.extend-requires-clause-lifts c).After-len-added in
    subst (LiftsStandAfter c.self.inside.trail.entries) (sym c.in_ok-raised.ensures.lifts) (lifts_stand c.self.inside c.self.invariant c.args.harvest.now c.order-order.ensures.harvest (ours at) (none at))

pub invariant_of-self-2 : goal.invariant_of-self-2
invariant_of-self-2 c =
    let at = (goal.at.invariant_of-self-2 c).After-len-added in
    let trail_is = c.in_ok-extend.ensures.extended ∙ ap (λ (l : List Step). record { vertices = c.self.inside.trail.vertices; entries = c.self.inside.trail.entries ++ l }) c.in_ok-raised.ensures.lifts in
    committed_desk c.self.inside c.self.invariant c.args.harvest.now c.order-order.ensures.harvest (ours at) (none at) c.extend.new.self trail_is c.len-added.result (added at) c.settles-is_noted.result
    (λ t. settled_by c.self.inside c.self.invariant c.args.harvest.now c.order-order.ensures.harvest (ours at) (none at) c.extend.new.self trail_is c.len-added.result (added at) c.deref.result.now c.deref.ensures (c.settles-is_noted.ensures t))

pub returns-clause-accepted : goal.returns-clause-accepted
returns-clause-accepted c session =
    let at = (goal.at.returns-clause-accepted c).After-len-added in
    subst (λ (s : DeskState). IsStep s session (Commit (handed_in true c.args.harvest.now)) (Added c.len-added.result) (desk_of (record c.self.inside { trail = c.extend.new.self; is_noted = c.settles-is_noted.result }))) c.self.view_is
    (committed_step c.self.inside c.self.invariant c.args.harvest.now c.order-order.ensures.harvest (ours at) (none at) c.extend.new.self
    (c.in_ok-extend.ensures.extended ∙ ap (λ (l : List Step). record { vertices = c.self.inside.trail.vertices; entries = c.self.inside.trail.entries ++ l }) c.in_ok-raised.ensures.lifts) c.len-added.result (added at) session)

-- want of memory comes only where nothing else refuses
unrefused : {T E X : Type 0} (fault : E) (r : Result T E) → X → IfErr r (λ f. f ≡ fault → X)
unrefused fault (Ok t) x = tt
unrefused fault (Err f) x = λ _. x

taken : (c : After-raise) → refuses_commit c.args.self.now.book (handed_in true c.args.harvest.now) ≡ None
taken c =
    subst (λ (s : DeskState). refuses_commit s.book (handed_in true c.args.harvest.now) ≡ None) c.self.view_is
    (ap outdated_at (sym (c.in_default.ensures ∙ ap (λ (page : List Step). first_missing (choices_of page) (map literal_of c.decisions.result.now)) c.entries.ensures.entries
    ∙ ap (λ l. first_missing (choices_of c.self.inside.trail.entries) (map literal_of l)) (c.decisions.ensures.decisions ∙ ap (λ (o : OrderView). o.decisions) c.order-order.ensures.order))))

pub returns-in_err-raised-clause-last : goal.returns-in_err-raised-clause-last
returns-in_err-raised-clause-last c = unrefused Memory c.from_residual.result (taken (goal.at.returns-in_err-raised-clause-last c).After-raise)

pub returns-in_err-extend-clause-last : goal.returns-in_err-extend-clause-last
returns-in_err-extend-clause-last c = unrefused Memory c.from_residual-in_err-extend.result (taken (goal.at.returns-in_err-extend-clause-last c).After-raise)

pub invariant_of-self : goal.invariant_of-self
invariant_of-self c =
    still_desk c.self.inside c.self.invariant c.extend.new.self c.self.inside.past c.self.inside.future c.in_err-extend.ensures.err refl refl refl refl c.self.invariant.past_below c.self.invariant.future_below

pub raise-requires : goal.raise-requires
raise-requires c =
    ap (λ (g : NamedGame). length g.vertices) (c.requires.0 ∙ ap (λ (s : DeskState). s.game) (sym c.self.view_is)) ∙ sym (same_count (arc_value c.self.inside.game)) ∙ sym c.self.invariant.vertices
