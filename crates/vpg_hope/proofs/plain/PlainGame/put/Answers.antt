use Rattle.std.proofs.lemmas.Grind.{common_steps}
use Rattle.std.proofs.Common.{◌≡◌, ◌<◌, ◌≤◌, length, decimal, sym, ap, ◌∙◌, arith}
use Rattle.vpg_game.specs.Game.{vertex_ids}
use Rattle.vpg_game.specs.Writing.{greatest}
use Rattle.vpg_hope.specs.Plain.{IdentifiedGame, unguarded}
use Rattle.vpg_hope.proofs.PlainTexts.{line_more, whole_put, ids-unguarded}
use Rattle.vpg_hope.proofs.plain.PlainGame.put.Goals as goal

pub loop-v-preserved : goal.loop-v-preserved
loop-v-preserved c =
    let plain = c.args.self.now in
    let game = ap (λ (p : IdentifiedGame). p.game) c.self.view_is in
    let ids = ap (λ (p : IdentifiedGame). p.ids) c.self.view_is in
    let same : length plain.ids ≡ length plain.game = ap length (sym ids) ∙ c.self.invariant ∙ ap length game in
    let less : c.loop-v.v < length plain.game = omega (arith, c.loop-v-test.true, c.vertices-v-end.ensures, ap length game) in
    line_more plain c.loop-v.v c.loop-v.text.items c.put_vertex.new.text.items _ same less c.in_ok-put_vertex.ensures c.loop-v.invariant

pub returns : goal.returns
returns c =
    let plain = c.args.self.now in
    let game = ap (λ (p : IdentifiedGame). p.game) c.self.view_is in
    let ids = ap (λ (p : IdentifiedGame). p.ids) c.self.view_is in
    let same : length plain.ids ≡ length plain.game = ap length (sym ids) ∙ c.self.invariant ∙ ap length game in
    let past : length plain.game ≤ c.loop-v.v = omega (arith, c.loop-v-test.false, c.vertices-v-end.ensures, ap length game) in
    let most : c.greatest_of.result ≡ greatest (vertex_ids (unguarded plain.ids plain.game)) =
    c.greatest_of.ensures ∙ ap greatest (c.deref.ensures.value ∙ ids ∙ sym (ids-unguarded plain.ids plain.game same)) in
    whole_put plain c.loop-v.v c.args.text.now.items _ _ _ c.loop-v.text.items (decimal c.greatest_of.result) same past
    c.in_ok-extend_from_slice.ensures.items c.in_ok-put_number.ensures c.in_ok-extend_from_slice-2.ensures.items c.loop-v.invariant (ap decimal most)

pub put_vertex-requires : goal.put_vertex-requires
put_vertex-requires c = omega (arith, c.loop-v-test.true, c.vertices-v-end.ensures, ap (λ (p : IdentifiedGame). length p.game) c.self.view_is)

pub loop-v-init : goal.loop-v-init
loop-v-init c = grind (arith, common_steps)
