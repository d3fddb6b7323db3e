-- The meaning of harvests for a desk.
use Rattle.std.specs.Prelude.{◌≡◌, Bool, ◌++◌, List, map}
use Rattle.vpg_measure.specs.Orders.{OrderView, HarvestView}
use Rattle.vpg_trail.specs.Page.{Hopeful, Dual, Entry, literal_of, raises}
use Rattle.vpg_trail.specs.Shown.{Track}
use Rattle.vpg_desk.specs.Book.{Harvest}
use Rattle.vpg_desk.specs.State.{DeskState}

-- the order's game and diagram are the desk's
abbrev pub IsOrderOf : DeskState → OrderView → Type 0
IsOrderOf state order = (order.game ≡ state.game) × (order.diagram ≡ state.diagram)

-- the harvest as the book sees it: whether its order is of the desk, its decisions and its two tables
abbrev pub handed_in : Bool → HarvestView → Harvest
handed_in is_of_this_desk harvest =
    record { is_of_this_desk = is_of_this_desk; decisions = harvest.order.decisions; hopeful = harvest.hopeful; dual = harvest.dual }

-- the lifts that raise the entries' tables to the harvest's, first those of the hopeful table, then those of the dual
abbrev pub raised_by : HarvestView → Track → List Entry
raised_by harvest trail =
    raises (map literal_of harvest.order.decisions) trail.entries Hopeful harvest.hopeful trail.vertices
    ++ raises (map literal_of harvest.order.decisions) trail.entries Dual harvest.dual trail.vertices
