use Rattle.std.proofs.lemmas.Grind.{common_steps}
use Rattle.std.proofs.Common.{◌≡◌, ℕ, ◌<◌, List, length, get_or, decimal, sym, ap, ap₂, ◌∙◌, arith}
use Rattle.std.proofs.lemmas.List.{get_or_read}
use Rattle.vpg_game.specs.Writing.{owner_digit}
use Rattle.vpg_hope.specs.Games.{Game, owner_of, priority_of, successors_of}
use Rattle.vpg_hope.specs.Plain.{IdentifiedGame}
use Rattle.vpg_hope.specs.PlainParts.{marked_text}
use Rattle.vpg_hope.proofs.PlainTexts.{line_put}
use Rattle.vpg_hope.proofs.plain.PlainGame.put_vertex.Goals as goal
use Rattle.vpg_hope.proofs.plain.PlainGame.put_vertex.Goals.{in-Even, in-Odd}

pub returns : goal.returns
returns c =
    let plain = c.args.self.now in
    let v = c.args.v in
    let ids = ap (λ (p : IdentifiedGame). p.ids) c.self.view_is in
    let game = ap (λ (p : IdentifiedGame). p.game) c.self.view_is in
    let same : length plain.ids ≡ length plain.game = ap length (sym ids) ∙ c.self.invariant ∙ ap length game in
    let within : v < length c.self.inside.ids.items = omega (arith, c.requires, same, ap length ids) in
    let id = get_or_read c.self.inside.ids.items v c.index.result.now within c.index.ensures 0 ∙ ap (λ (xs : List ℕ). get_or xs v 0) ids in
    let digit : c.match-owner.push ≡ owner_digit c.owner.result =
    elim c.match-owner.branch [ in-Even w ↦ w.push-is ∙ ap owner_digit (sym w.in-Even.is) | in-Odd w ↦ w.push-is ∙ ap owner_digit (sym w.in-Odd.is) ] in
    line_put plain v c.match-owner.push _ _ _ _ _ _ _ _ _ _ _ same c.requires
    c.in_ok-put_number.ensures c.in_ok-push.ensures.items c.in_ok-put_number-2.ensures c.in_ok-push-2.ensures.items c.in_ok-push-3.ensures.items c.in_ok-put_successors.ensures c.in_ok-extend_from_slice.ensures.items
    (ap decimal id)
    (ap decimal (c.priority.ensures ∙ ap (λ (g : Game). priority_of g v) game))
    (digit ∙ ap owner_digit (c.owner.ensures ∙ ap (λ (g : Game). owner_of g v) game))
    (ap₂ (λ (xs ws : List ℕ). marked_text 32 xs ws) (c.deref.ensures.value ∙ ids) (c.kept.ensures.kept ∙ ap (λ (g : Game). successors_of g v) game))

pub kept-requires : goal.kept-requires
kept-requires c = omega (arith, c.requires, ap (λ (p : IdentifiedGame). length p.game) c.self.view_is)

pub put_successors-requires : goal.put_successors-requires
put_successors-requires c k d less = omega (arith, c.kept.ensures.closed k d less, c.self.invariant, ap length c.deref.ensures.value)

pub owner-requires : goal.owner-requires
owner-requires c = omega (arith, c.requires, ap (λ (p : IdentifiedGame). length p.game) c.self.view_is)

pub priority-requires : goal.priority-requires
priority-requires c = omega (arith, c.requires, ap (λ (p : IdentifiedGame). length p.game) c.self.view_is)

pub index-requires : goal.index-requires
index-requires c = grind (arith, common_steps)
