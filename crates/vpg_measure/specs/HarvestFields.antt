-- A harvest by its fields.
use Rattle.std.specs.Prelude.{IsTrue}
use Rattle.vpg_measure.specs.declared.harvest.Harvest.TheInside.{Inside}
use Rattle.vpg_measure.specs.Orders.{harvest_of, IsHarvest, IsSettledHarvest}

pub record AreHarvestFields (fields : Inside) : Type 0 where
  pub harvest : IsHarvest (harvest_of fields.order)
  -- the note is true
  pub noted : IsTrue fields.is_noted → IsSettledHarvest (harvest_of fields.order)
