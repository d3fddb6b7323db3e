use Rattle.std.proofs.Common.{◌≡◌, ◌<◌, ◌++◌, [], ℕ, List, Ok, Some, None, false, length, sym, ap, subst, ◌∙◌, arith}
use Rattle.std.proofs.lemmas.Grind.{common_steps}
use Rattle.vpg_xml.specs.Elements.{Placed}
use Rattle.vpg_xml.specs.Tokens.{Token, token_at, pieces_of, place_of, HasPieces, no_token}
use Rattle.vpg_xml.specs.Reading.{State, start}
use Rattle.vpg_xml.specs.View.{state_of, token_of, with_rest, is_whole, Halts, by_memory, by_text, by_end}
use Rattle.vpg_xml.proofs.Turns.{shorter_by}
use Rattle.vpg_xml.proofs.Pieces.{has_more}
use Rattle.vpg_xml.proofs.Contents.{run_end, run_after}
use Rattle.vpg_xml.proofs.Faulty.{empty_is, step_halts}
use Rattle.vpg_xml.proofs.reading.read_body.Goals as goal

pub loop-rest-init : goal.loop-rest-init
loop-rest-init c = record {
  pieces = [];
  has = no_token;
  reads = run_end start ∙ ap (λ (s : State). Ok s) (sym c.new-reader.ensures);
  within = omega arith;
}

pub returns-in_default-clause-halts : goal.returns-in_default-clause-halts
returns-in_default-clause-halts c = by_memory

pub returns-in_default-found-clause-halts : goal.returns-in_default-found-clause-halts
returns-in_default-found-clause-halts c =
    let i = c.loop-rest.invariant in
    let rest = c.loop-rest.rest.now in
    let none : token_at c.args.size rest ≡ None = sym c.in-Ok.ensures.read ∙ ap (λ o. with_rest token_of o) c.in_default-found.is in
    let some : 0 < length rest = grind (arith, common_steps) in
    subst (Halts c.args.size c.args.body.now) (sym c.unreadable.ensures) (by_text i.pieces rest (state_of c.loop-rest.reader) i.has i.reads some none)

pub returns-in-Err-clause-halts : goal.returns-in-Err-clause-halts
returns-in-Err-clause-halts c =
    let i = c.loop-rest.invariant in
    let rest = c.loop-rest.rest.now in
    let reads : token_at c.args.size rest ≡ Some (token_of c.in-Some.token, c.in-Some.behind.now) = sym c.in-Ok.ensures.read ∙ ap (λ o. with_rest token_of o) c.in-Some.is in
    step_halts c.args.size c.args.body.now i.pieces rest c.in-Some.behind.now (token_of c.in-Some.token) (state_of c.loop-rest.reader) c.in-Err.fault i.has i.reads reads c.in-Err.ensures.err

pub loop-rest-preserved : goal.loop-rest-preserved
loop-rest-preserved c =
    let i = c.loop-rest.invariant in
    let rest = c.loop-rest.rest.now in
    let token : Token = token_of c.in-Some.token in
    let reads : token_at c.args.size rest ≡ Some (token, c.in-Some.behind.now) = sym c.in-Ok.ensures.read ∙ ap (λ o. with_rest token_of o) c.in-Some.is in
    let now : List Placed = pieces_of (place_of c.args.size rest) token in
    let shorter : length c.in-Some.behind.now < length rest = shorter_by c.in-Ok.found c.in-Some.token c.in-Some.behind rest c.in-Some.is c.in-Ok.ensures.shorter in
    record {
      pieces = i.pieces ++ now;
      has = has_more c.args.size i.has token c.in-Some.behind.now reads;
      reads = run_after i.pieces now start (state_of c.loop-rest.reader) i.reads ∙ c.in_default-read.ensures.ok;
      within = omega (arith, i.within, shorter);
    }

pub returns-clause-halts : goal.returns-clause-halts
returns-clause-halts c =
    let i = c.loop-rest.invariant in
    let rest = c.loop-rest.rest.now in
    let none : length rest ≡ 0 = grind (arith, common_steps) in
    let no : is_whole (state_of c.loop-rest.reader) ≡ false = sym c.is_whole.ensures ∙ c.if-is_whole.false in
    by_end i.pieces (state_of c.loop-rest.reader) (subst (λ (r : List ℕ). HasPieces c.args.size c.args.body.now i.pieces r) (empty_is rest none) i.has) i.reads no
