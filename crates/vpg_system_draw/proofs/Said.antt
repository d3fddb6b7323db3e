-- What arrows say of products.
use Rattle.std.proofs.Common.{◌≡◌, Bool, true, false, ◌&&◌, refl}
use Rattle.vpg_guards.specs.declared.tri.Tri.{Tri}
use Rattle.vpg_guards.specs.declared.tri.Tri.TheVariants.{No, Unknown, Yes}
use Rattle.vpg_guards.specs.Formula.{truth}
use Rattle.vpg_guards.specs.Known.{kleene, Agrees}
use Rattle.vpg_guards.proofs.Kleene.{known_values_hold}
use Rattle.vpg_partial.proofs.Tables.{remaining_products_complete}
use Rattle.vpg_system_draw.specs.Arrows.{same_value, same_mark}
use Rattle.vpg_system_draw.specs.Laws.{IsSaid, ArrowsTellOfProducts}

first_of : (a b : Bool) → (a && b) ≡ true → a ≡ true
first_of true b e = refl
first_of false b e = e

said : (value other : Tri) (holds : Bool) → same_value value other ≡ true → Agrees other holds → IsSaid value holds
said No No holds e h = record { solid = λ q. absurd (cc); dotted = λ q. h }
said No Unknown holds e h = absurd (cc)
said No Yes holds e h = absurd (cc)
said Unknown No holds e h = absurd (cc)
said Unknown Unknown holds e h = record { solid = λ q. absurd (cc); dotted = λ q. absurd (cc) }
said Unknown Yes holds e h = absurd (cc)
said Yes No holds e h = absurd (cc)
said Yes Unknown holds e h = absurd (cc)
said Yes Yes holds e h = record { solid = λ q. h; dotted = λ q. absurd (cc) }

pub arrows_tell : ArrowsTellOfProducts
arrows_tell lines choices known set look t is_marked is_diagram table remains l =
    said look.value (kleene known t.guard) (truth set t.guard) (first_of (same_value look.value (kleene known t.guard)) (same_mark look.is_marked is_marked) l)
    (known_values_hold known set t.guard (remaining_products_complete lines choices known set is_diagram table remains))
