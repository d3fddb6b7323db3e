use Rattle.std.proofs.Common.{ℕ, false, List, [], ◌∷◌, map, sym, subst, arith, length, get_or, ◌<◌}
use Rattle.std.proofs.lemmas.List.{get_or-map, length-map}
use Rattle.vpg_diagram.specs.declared.clause.Literal.{Literal}
use Rattle.vpg_features.specs.Index.{NotesAlso}
use Rattle.vpg_features.proofs.Noted.{noted_step}
use Rattle.std.specs.List.{AllByRecursion}
use Rattle.std.proofs.lemmas.Option.{slice_get-get_or}
use Rattle.vpg_diagram.proofs.Lists.{All-at}
use Rattle.vpg_diagram.proofs.index.note_clause.Goals as goal

pub loop-literal-preserved : goal.loop-literal-preserved
loop-literal-preserved c =
    let literals : List Literal = c.literals-literal-items.result.now in
    let feature : Literal → ℕ = λ x. x.feature in
    noted_step c.args.index.now c.loop-literal.index c.note.new.self c.args.number [] (map feature literals) c.loop-literal.literal-index 0
    (omega (arith, c.loop-literal-test.true, length-map literals feature)) c.loop-literal.invariant
    (subst (λ (f : ℕ). NotesAlso c.loop-literal.index c.args.number (f ∷ []) c.note.new.self)
    (sym (get_or-map feature literals c.loop-literal.literal-index (record { feature = 0; value = false }) 0 c.loop-literal-test.true)) c.in_ok-note.ensures)

pub note-requires : goal.note-requires
note-requires c =
    let literals = c.literals-literal-items.result.now in
    let i = c.loop-literal.literal-index in
    let none : Literal = record { feature = 0; value = false } in
    let all = subst (AllByRecursion (λ (l : Literal). l.feature < length c.args.index.now)) (sym c.literals-literal-items.ensures) c.requires.below in
    let below : (get_or literals i none).feature < length c.args.index.now =
    All-at (λ (l : Literal). l.feature < length c.args.index.now) literals i (get_or literals i none) all (slice_get-get_or literals i none c.loop-literal-test.true) in
    omega (arith, below, c.loop-literal.invariant.same_length)
