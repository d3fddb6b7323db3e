use Rattle.std.proofs.Common.{◌≡◌, ℕ, Option, Some, sym, ap, ◌∙◌, ◌-◌, length, subst}
use Rattle.std.specs.Prelude.{slice_get}
use Rattle.vpg_engine.specs.Held.{redo_meant}
use Rattle.vpg_engine.specs.Engine.{IsPlaceOf}
use Rattle.vpg_engine.specs.Serials.{serials}
use Rattle.vpg_engine.proofs.Places.{named, among, found_has}
use Rattle.vpg_engine.proofs.Serials.{serial_position, serials_length, last_serial}
use Rattle.vpg_engine.proofs.held.redo_place.Goals as goal

pub returns-in-Some : goal.returns-in-Some
returns-in-Some g c =
    let redos = serials c.args.redos.now in
    subst (λ (serial : Option ℕ). IsPlaceOf (redo_meant redos serial) redos c.place_of_serial.result) (sym c.in-Some.is)
    (named c.in-Some.serial redos c.place_of_serial.result (c.place_of_serial.ensures ∙ serial_position c.in-Some.serial c.args.redos.now))

pub returns-in_ok-last-in-None : goal.returns-in_ok-last-in-None
returns-in_ok-last-in-None g c =
    let redos = serials c.args.redos.now in
    let latest : slice_get redos (length redos - 1) ≡ Some c.serial.result =
    ap (λ (n : ℕ). slice_get redos (n - 1)) (serials_length c.args.redos.now) ∙ last_serial c.args.redos.now (length c.args.redos.now - 1) _ (sym c.in_ok-last-in-None.ensures.value) ∙ ap Some (sym c.serial.ensures.serial) in
    subst (λ (serial : Option ℕ). IsPlaceOf (redo_meant redos serial) redos c.place_of_serial-in-None.result) (sym c.in-None.is)
    (among c.serial.result redos _ c.place_of_serial-in-None.result (found_has c.serial.result (length redos - 1) redos latest) latest (c.place_of_serial-in-None.ensures ∙ serial_position c.serial.result c.args.redos.now))
