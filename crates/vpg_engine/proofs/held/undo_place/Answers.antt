use Rattle.std.proofs.Common.{ℕ, Option, sym, subst, ◌∙◌}
use Rattle.vpg_engine.specs.Held.{undo_meant}
use Rattle.vpg_engine.specs.Engine.{IsPlaceOf}
use Rattle.vpg_engine.specs.Serials.{serials}
use Rattle.vpg_engine.proofs.Places.{named, among, greatest_has}
use Rattle.vpg_engine.proofs.Serials.{serial_position}
use Rattle.vpg_engine.proofs.held.undo_place.Goals as goal

pub returns-in-Some : goal.returns-in-Some
returns-in-Some g c =
    let undos = serials c.args.undos.now in
    subst (λ (serial : Option ℕ). IsPlaceOf (undo_meant undos serial) undos c.place_of_serial.result) (sym c.in-Some.is)
    (named c.in-Some.serial undos c.place_of_serial.result (c.place_of_serial.ensures ∙ serial_position c.in-Some.serial c.args.undos.now))

pub returns-in_ok-greatest-in-None : goal.returns-in_ok-greatest-in-None
returns-in_ok-greatest-in-None g c =
    let undos = serials c.args.undos.now in
    let most = c.in_ok-greatest-in-None.field-0 in
    let greatest = sym c.in_ok-greatest-in-None.ensures in
    subst (λ (serial : Option ℕ). IsPlaceOf (undo_meant undos serial) undos c.place_of_serial-in-None.result) (sym c.in-None.is)
    (among most undos _ c.place_of_serial-in-None.result (greatest_has most undos greatest) greatest (c.place_of_serial-in-None.ensures ∙ serial_position most c.args.undos.now))
