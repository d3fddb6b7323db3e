use Rattle.std.proofs.Common.{◌≡◌, Bool, true, subst}
use Rattle.std.specs.Bool.{Decides}
use Rattle.vpg_desk.specs.Book.{Commit, Refused}
use Rattle.vpg_faults.specs.declared.refusal.Refusal.TheVariants.{OtherGame}
use Rattle.vpg_desk.specs.Commit.{IsOrderOf, handed_in}
use Rattle.vpg_desk.specs.DeskFields.{desk_of}
use Rattle.vpg_desk.specs.State.{DeskState, Replies}
use Rattle.vpg_desk.specs.declared.fault.CommitRefused.{CommitRefused}
use Rattle.vpg_desk.proofs.Committed.{other_refused, own_same, own_told, own_last}
use Rattle.vpg_desk.proofs.desk.Desk.commit.Goals as goal
use Rattle.vpg_desk.proofs.desk.Desk.commit.Goals.{After-is_order_of}

told : (c : After-is_order_of) → Decides c.is_order_of.result (IsOrderOf (desk_of c.self.inside) c.args.harvest.order)
told c = coe 0 1 (k. Decides c.is_order_of.result (((c.order.ensures.order k).game ≡ c.deref.ensures k) × ((c.order.ensures.order k).diagram ≡ c.deref-2.ensures k))) c.is_order_of.ensures

ours : (c : After-is_order_of) → c.is_order_of.result ≡ true → IsOrderOf c.args.self.now c.args.harvest.order
ours c same = subst (λ (s : DeskState). IsOrderOf s c.args.harvest.order) c.self.view_is ((told c).0 same)

pub returns-then-not-is_order_of-clause-refused : goal.returns-then-not-is_order_of-clause-refused
returns-then-not-is_order_of-clause-refused c =
    subst (λ (s : DeskState). (x : Bool) × (Decides x (IsOrderOf s c.args.harvest.order) × Replies s (Commit (handed_in x c.args.harvest)) (Refused OtherGame))) c.self.view_is
    (other_refused c.self.inside c.args.harvest c.is_order_of.result (told (goal.at.returns-then-not-is_order_of-clause-refused c).After-is_order_of) c.if-not-is_order_of.true)

pub commit_own-requires : goal.commit_own-requires
commit_own-requires c = ours (goal.at.commit_own-requires c).After-is_order_of c.if-not-is_order_of.false

pub returns-clause-same : goal.returns-clause-same
returns-clause-same c = own_same c.args.self.now c.args.harvest (λ (r : CommitRefused). r.fault) (ours (goal.at.returns-clause-same c).After-is_order_of c.if-not-is_order_of.false) c.commit_own.result

pub returns-clause-refused : goal.returns-clause-refused
returns-clause-refused c =
    own_told c.args.self.now c.args.harvest (λ (r : CommitRefused). r.fault) (ours (goal.at.returns-clause-refused c).After-is_order_of c.if-not-is_order_of.false) c.commit_own.result c.commit_own.ensures.refused

pub returns-clause-last : goal.returns-clause-last
returns-clause-last c =
    own_last c.args.self.now c.args.harvest (λ (r : CommitRefused). r.fault) (ours (goal.at.returns-clause-last c).After-is_order_of c.if-not-is_order_of.false) c.commit_own.result c.commit_own.ensures.last
