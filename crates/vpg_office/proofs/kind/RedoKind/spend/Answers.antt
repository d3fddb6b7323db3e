use Rattle.std.proofs.Common.{◌≡◌, ◌-◌, ap, arith}
use Rattle.vpg_desk.specs.Book.{Book}
use Rattle.vpg_office.proofs.kind.RedoKind.spend.Goals as goal

pub returns-clause-step : goal.returns-clause-step
returns-clause-step c = λ game diagram session. record { step = c.forget.ensures session; hands = tt; named = tt }

pub returns-clause-counted : goal.returns-clause-counted
returns-clause-counted c =
    let tokens : c.forget.new.self.book.tokens ≡ c.args.desk.now.book.tokens - 1 = ap (λ (b : Book). b.tokens) (c.forget.ensures 0).step.1 in
    omega (arith, c.requires, tokens)
