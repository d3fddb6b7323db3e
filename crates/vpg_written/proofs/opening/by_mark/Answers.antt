use Rattle.std.proofs.Common.{Bool, not, refl, sym, ◌∙◌, ap}
use Rattle.vpg_formula.specs.declared.mark.Mark.TheVariants as marks
use Rattle.vpg_written.specs.Shapes.{constant_form, inevitable}
use Rattle.vpg_written.specs.Naming.{around_of}
use Rattle.vpg_written.specs.Tasks.{form_at}
use Rattle.vpg_written.proofs.Arms.{true_opens, deadlock_opens, can_opens, will_opens, some_path_opens, every_path_opens, always_opens, never_opens, possibly_opens, inevitably_opens, again_opens, after_opens, and_opens, or_opens, implies_opens, least_opens, greatest_opens}
use Rattle.vpg_written.proofs.opening.by_mark.Goals as goal

pub returns-in-True : goal.returns-in-True
returns-in-True c = λ g t parts ok known. true_opens g c.args.place.earlier c.args.place.is_negated (around_of c.args.place.scope.items) t c.args.it parts c.in-True.is

pub returns-in-DeadlockFree : goal.returns-in-DeadlockFree
returns-in-DeadlockFree c = λ g t parts ok known. let k = constant_form (not c.args.place.is_negated) in
    deadlock_opens g c.args.place.earlier c.args.place.is_negated (around_of c.args.place.scope.items) t c.args.it parts c.in_ok-task-in-DeadlockFree.task (c.in_ok-task-in-DeadlockFree.ensures g k _ (c.plain-task.ensures g k refl) (c.by_action.ensures g k)) c.in-DeadlockFree.is

pub returns-in-Can : goal.returns-in-Can
returns-in-Can c = λ g t parts ok known. can_opens g c.args.place.earlier c.args.place.is_negated (around_of c.args.place.scope.items) t c.args.it parts c.plain-task-in-Can.result c.set_of.result (c.plain-task-in-Can.ensures g _ refl) c.set_of.ensures c.in-Can.is

pub returns-in-Will : goal.returns-in-Will
returns-in-Will c = λ g t parts ok known. will_opens g c.args.place.earlier c.args.place.is_negated (around_of c.args.place.scope.items) t c.args.it parts c.in-Will.is

pub returns-in-SomePath : goal.returns-in-SomePath
returns-in-SomePath c = λ g t parts ok known. some_path_opens g c.args.place.earlier c.args.place.is_negated (around_of c.args.place.scope.items) t c.args.it parts c.in_ok-along-in-SomePath.field-0 c.formula-task.result (λ s f a b. c.in_ok-along-in-SomePath.ensures g s f a b) (λ u a. c.formula-task.ensures g u a known) c.in-SomePath.is

pub returns-in-EveryPath : goal.returns-in-EveryPath
returns-in-EveryPath c = λ g t parts ok known. every_path_opens g c.args.place.earlier c.args.place.is_negated (around_of c.args.place.scope.items) t c.args.it parts c.in_ok-along-in-EveryPath.field-0 c.formula-task-in-EveryPath.result (λ s f a b. c.in_ok-along-in-EveryPath.ensures g s f a b) (λ u a. c.formula-task-in-EveryPath.ensures g u a known) c.in-EveryPath.is

pub returns-in-Always : goal.returns-in-Always
returns-in-Always c = λ g t parts ok known. always_opens g c.args.place.earlier c.args.place.is_negated (around_of c.args.place.scope.items) t c.args.it parts c.formula.result (λ u a. c.formula.ensures g u a known) c.in-Always.is

pub returns-in-Never : goal.returns-in-Never
returns-in-Never c = λ g t parts ok known. never_opens g c.args.place.earlier c.args.place.is_negated (around_of c.args.place.scope.items) t c.args.it parts c.formula-in-Never.result (λ u a. c.formula-in-Never.ensures g u a known) c.in-Never.is

pub returns-in-Possibly : goal.returns-in-Possibly
returns-in-Possibly c = λ g t parts ok known. possibly_opens g c.args.place.earlier c.args.place.is_negated (around_of c.args.place.scope.items) t c.args.it parts c.formula-in-Possibly.result (λ u a. c.formula-in-Possibly.ensures g u a known) c.in-Possibly.is

pub returns-in-Inevitably : goal.returns-in-Inevitably
returns-in-Inevitably c = λ g t parts ok known. inevitably_opens g c.args.place.earlier c.args.place.is_negated (around_of c.args.place.scope.items) t c.args.it parts c.at.result (λ u a. c.at.ensures.place g u a known) c.at.ensures.sign c.in-Inevitably.is

pub returns-in-AgainAndAgain : goal.returns-in-AgainAndAgain
returns-in-AgainAndAgain c = λ g t parts ok known. again_opens g c.args.place.earlier c.args.place.is_negated (around_of c.args.place.scope.items) t c.args.it parts c.plain-task-in-AgainAndAgain.result
    (λ u a. c.plain-task-in-AgainAndAgain.ensures g _ (
      form_at g c.args.place.earlier c.args.place.is_negated (around_of c.args.place.scope.items) u,
      c.at-in-AgainAndAgain.ensures.place g u a known,
      ap (λ (b : Bool). inevitable b (form_at g c.args.place.earlier c.args.place.is_negated (around_of c.args.place.scope.items) u)) (sym c.at-in-AgainAndAgain.ensures.sign),
    )) c.in-AgainAndAgain.is

pub returns-in-After : goal.returns-in-After
returns-in-After c = λ g t parts ok known. after_opens g c.args.place.earlier c.args.place.is_negated (around_of c.args.place.scope.items) t c.args.it parts c.in_ok-task-in-After.task c.set_of-in-After.result c.set_of-in-After.ensures
    (λ u a. c.in_ok-task-in-After.ensures g (form_at g c.args.place.earlier c.args.place.is_negated (around_of c.args.place.scope.items) u) _ (c.formula-task-in-After.ensures g u a known) (c.by_action-in-After.ensures g _)) c.in-After.is

pub returns-in-And : goal.returns-in-And
returns-in-And c = λ g t parts ok known. and_opens g c.args.place.earlier c.args.place.is_negated (around_of c.args.place.scope.items) t c.args.it parts c.in_ok-joined-in-And.field-0 (λ s u a b. c.in_ok-joined-in-And.ensures g s u a b known) c.in-And.is

pub returns-in-Or : goal.returns-in-Or
returns-in-Or c = λ g t parts ok known. or_opens g c.args.place.earlier c.args.place.is_negated (around_of c.args.place.scope.items) t c.args.it parts c.in_ok-joined-in-Or.field-0 (λ s u a b. c.in_ok-joined-in-Or.ensures g s u a b known) c.in-Or.is

pub returns-in-Implies : goal.returns-in-Implies
returns-in-Implies c = λ g t parts ok known. implies_opens g c.args.place.earlier c.args.place.is_negated (around_of c.args.place.scope.items) t c.args.it parts c.in_ok-joined-in-Implies.field-0 (λ s u a b. c.in_ok-joined-in-Implies.ensures g s u a b known) c.in-Implies.is

pub returns-in-Least : goal.returns-in-Least
returns-in-Least c = λ g t parts ok known. least_opens g c.args.place.earlier c.args.place.is_negated (around_of c.args.place.scope.items) t c.args.it parts c.in_ok-at_inside-in-Least.field-0 c.as_bytes.result.now (λ u a. c.in_ok-at_inside-in-Least.ensures g u a known) (c.in-Least.is ∙ ap marks.Least (sym c.as_bytes.ensures))

pub returns-in-Greatest : goal.returns-in-Greatest
returns-in-Greatest c = λ g t parts ok known. greatest_opens g c.args.place.earlier c.args.place.is_negated (around_of c.args.place.scope.items) t c.args.it parts c.in_ok-at_inside-in-Greatest.field-0 c.as_bytes-in-Greatest.result.now (λ u a. c.in_ok-at_inside-in-Greatest.ensures g u a known) (c.in-Greatest.is ∙ ap marks.Greatest (sym c.as_bytes-in-Greatest.ensures))
