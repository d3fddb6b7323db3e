use Rattle.std.proofs.Common.{ℕ, sym, subst}
use Rattle.std.proofs.lemmas.Result.{err_from_is_err_and}
use Rattle.vpg_game.specs.Building.{IsLimited}
use Rattle.vpg_game.proofs.Whole.{text_found}
use Rattle.vpg_game.proofs.Made.{spelled_limited}
use Rattle.vpg_game.proofs.Answered.{text_refused, text_only, made_found, made_refused, made_only}
use Rattle.vpg_game.proofs.game.GuardedGame.read.Goals as goal

pub returns-in_err-entries-clause-refused : goal.returns-in_err-entries-clause-refused
returns-in_err-entries-clause-refused c =
    let p = err_from_is_err_and c.from_residual.result c.from_residual.ensures.1 in
    rw (p.1, p.2) (text_refused c.args.names.now c.args.text.now c.len-features.ensures.names c.in_err-entries.field-0.0 c.in_err-entries.ensures)

pub returns-in_err-entries-clause-only : goal.returns-in_err-entries-clause-only
returns-in_err-entries-clause-only c game s =
    let p = err_from_is_err_and c.from_residual.result c.from_residual.ensures.1 in
    rw (p.1, p.2) (text_only c.args.names.now c.args.text.now c.len-features.ensures.names c.in_err-entries.field-0.0 c.in_err-entries.ensures game s)

pub make-requires : goal.make-requires
make-requires c =
    subst (λ (n : ℕ). IsLimited n c.in_ok-entries.entries.items) (sym c.len-features.ensures.len)
    (spelled_limited c.args.names.now c.args.text.now c.in_ok-entries.entries.items c.len-features.ensures.names.few (text_found c.args.names.now c.args.text.now c.in_ok-entries.entries.items c.in_ok-entries.ensures))

pub returns-clause-found : goal.returns-clause-found
returns-clause-found c = made_found c.args.names.now c.args.text.now c.len-features.result c.in_ok-entries.entries.items c.make.result c.len-features.ensures.len c.in_ok-entries.ensures c.make.ensures.ok c.make.ensures.sound

pub returns-clause-refused : goal.returns-clause-refused
returns-clause-refused c = made_refused c.args.names.now c.args.text.now c.in_ok-entries.entries.items c.make.result c.in_ok-entries.ensures c.make.ensures.err

pub returns-clause-only : goal.returns-clause-only
returns-clause-only c =
    made_only c.args.names.now c.args.text.now c.len-features.result c.in_ok-entries.entries.items c.make.result c.len-features.ensures.names c.len-features.ensures.len c.in_ok-entries.ensures c.make.ensures.ok c.make.ensures.err
