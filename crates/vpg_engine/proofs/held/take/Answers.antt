use Rattle.std.proofs.Common.{◌∙◌, List, ap, arith}
use Rattle.std.proofs.lemmas.Grind.{common_steps}
use Rattle.std.specs.List.{insert}
use Rattle.vpg_office.specs.Token.{TokenView as Token}
use Rattle.vpg_engine.proofs.Places.{put_back_at, stands_within, taken}
use Rattle.vpg_engine.proofs.held.take.Goals as goal

pub remove-requires : goal.remove-requires
remove-requires g c =
    let tokens = c.args.tokens.now in
    omega (arith, stands_within tokens.items c.args.place c.requires.0 c.requires.1, tokens.ok.0)

pub returns : goal.returns
returns g c =
    let tokens = c.args.tokens.now in
    let rest = c.remove.new.self in
    let within = stands_within tokens.items c.args.place c.requires.0 c.requires.1 in
    record {
      taken = taken tokens.items c.args.place c.remove.result rest.items c.remove.ensures.value c.remove.ensures.items;
      again = ap (λ (ts : List Token). insert ts c.args.place c.remove.result) c.remove.ensures.items ∙ put_back_at tokens.items c.args.place c.remove.result within c.remove.ensures.value;
      place = omega (arith, within, c.remove.ensures.len, tokens.ok.0);
      room = grind (arith, common_steps);
    }
