-- A game that differs in guards alone is a model of the same entries.
use Rattle.std.proofs.Common.{ℕ, List, slice_index}
use Rattle.vpg_diagram.specs.FeatureDiagram.{Line}
use Rattle.vpg_guards.specs.Formula.{Formula as Guard}
use Rattle.vpg_game.specs.Guarded.{GuardedGame}
use Rattle.vpg_system.specs.SystemText.{NamedSystem}
use Rattle.vpg_formula.specs.Requirements.{Entry}
use Rattle.vpg_written.specs.Translations.{formula_at}
use Rattle.vpg_model.specs.Sources.{system_of}
use Rattle.vpg_model.specs.Sharpening.{IsSameGame}
use Rattle.vpg_model.proofs.Alike.{still_model, still_decided}
use Rattle.vpg_checking.specs.Checking.{IsModelOfEntries, EntryHoldsIn}

pub still_model_of : (lines : List Line) (system : NamedSystem) (entries : List Entry) (game other : GuardedGame Guard) (roots : List ℕ) → IsSameGame game other →
    IsModelOfEntries lines system entries game roots → IsModelOfEntries lines system entries other roots
still_model_of lines system entries game other roots same h = record {
  count = h.count;
  models = λ n l. still_model lines game other (system_of system) (formula_at system.actions entries n) system.first (slice_index roots n) same (h.models n l);
  decided = λ n l set. still_decided (EntryHoldsIn system entries n set) set game other (slice_index roots n) same (h.decided n l set);
}
