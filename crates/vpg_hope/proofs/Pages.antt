-- The hopeful game where choices of a diagram's features make features known.
use Rattle.std.proofs.Common.{◌≡◌, Bool, true, false, cond, List, subst, ◌∙◌}
use Rattle.vpg_guards.specs.declared.tri.Tri.{Tri}
use Rattle.vpg_guards.specs.declared.tri.Tri.TheVariants.{No, Unknown, Yes}
use Rattle.vpg_guards.specs.Formula.{Formula, truth, IsBelow}
use Rattle.vpg_guards.specs.Known.{kleene, Agrees, IsFinerValue, IsCompletion}
use Rattle.vpg_guards.proofs.Kleene.{known_values_hold, finer_values_refine}
use Rattle.vpg_guards.proofs.Full.{full_values_decide}
use Rattle.vpg_diagram.specs.FeatureDiagram.{feature_count}
use Rattle.vpg_partial.specs.KnownLaws.{IsRemaining}
use Rattle.vpg_partial.proofs.Tables.{tables_refine, remaining_products_complete, full_tables_have_one_product}
use Rattle.vpg_game.specs.Guarded.{GuardedGame, AllGuards, dual}
use Rattle.vpg_hope.specs.Games.{Game}
use Rattle.vpg_hope.specs.Comparison.{IsEasier, dual_game}
use Rattle.vpg_hope.specs.Hope.{product_game, hopeful_game, IsFullOf}
use Rattle.vpg_hope.specs.PageLaws.{RemainingProductsAreHarder, DualsOfRemainingProductsAreHarder, RemainingProductsAreEasier, MoreChoicesAreHarder, FullPagesHaveTheProductsGame}
use Rattle.vpg_hope.proofs.Guards.{hopeful_easier, cautious_harder, earlier_easier, full_same, product_dual, dual_guards}

known_parts : (t : Tri) (b : Bool) → Agrees t b → (t ≡ Yes → b ≡ true) × (t ≡ No → b ≡ false)
known_parts No b h = ((λ e. cc), λ e. h)
known_parts Unknown b h = ((λ e. cc), λ e. cc)
known_parts Yes b h = ((λ e. h), λ e. cc)

finer_parts : (t u : Tri) → IsFinerValue t u → (t ≡ Yes → u ≡ Yes) × (t ≡ No → u ≡ No)
finer_parts No u h = ((λ e. cc), λ e. h)
finer_parts Unknown u h = ((λ e. cc), λ e. cc)
finer_parts Yes u h = ((λ e. h), λ e. cc)

each_guard : (P : Formula → Type 0) (game : GuardedGame Formula) → ((g : Formula) → P g) → AllGuards P game
each_guard P game f = λ i d l j e k. f _

all_guards : (P Q : Formula → Type 0) (game : GuardedGame Formula) → ((g : Formula) → P g → Q g) → AllGuards P game → AllGuards Q game
all_guards P Q game f h = λ i d l j e k. f _ (h i d l j e k)

pub remaining_products_are_harder : RemainingProductsAreHarder
remaining_products_are_harder lines choices known set game ok table remains =
    let complete = remaining_products_complete lines choices known set ok table remains in
    hopeful_easier Formula (kleene known) (truth set) game (each_guard (λ g. (kleene known g ≡ Yes → truth set g ≡ true) × (kleene known g ≡ No → truth set g ≡ false)) game
    (λ g. known_parts (kleene known g) (truth set g) (known_values_hold known set g complete)))

pub duals_of_remaining_products_are_harder : DualsOfRemainingProductsAreHarder
duals_of_remaining_products_are_harder lines choices known set game ok table remains =
    subst (λ (hard : Game). IsEasier (hopeful_game (kleene known) (dual game)) hard) (product_dual Formula (truth set) game)
    (remaining_products_are_harder lines choices known set (dual game) ok table remains)

pub remaining_products_are_easier : RemainingProductsAreEasier
remaining_products_are_easier lines choices known set game ok table remains =
    let complete = remaining_products_complete lines choices known set ok table remains in
    cautious_harder Formula (kleene known) (truth set) game (each_guard (λ g. (kleene known g ≡ Yes → truth set g ≡ true) × (kleene known g ≡ No → truth set g ≡ false)) game
    (λ g. known_parts (kleene known g) (truth set g) (known_values_hold known set g complete)))

pub more_choices_are_harder : MoreChoicesAreHarder
more_choices_are_harder lines few many known more game among table later =
    let finer = tables_refine lines few many known more among table later in
    earlier_easier Formula (kleene known) (kleene more) game (each_guard (λ g. (kleene known g ≡ Yes → kleene more g ≡ Yes) × (kleene known g ≡ No → kleene more g ≡ No)) game
    (λ g. finer_parts (kleene known g) (kleene more g) (finer_values_refine known more g finer)))

pub full_pages_have_the_products_game : FullPagesHaveTheProductsGame
full_pages_have_the_products_game lines choices known game ok below table full named = of (full_tables_have_one_product lines choices known ok below table full)
  where
    decided : (set : List Bool) → IsCompletion known set → IsFullOf (kleene known) (truth set) game
    decided set complete = all_guards (IsBelow (feature_count lines)) (λ g. kleene known g ≡ cond (truth set g) Yes No) game
        (λ g below. full_values_decide (feature_count lines) known set g full complete below) named

    of : (set : List Bool) × IsRemaining lines choices set × ((other : List Bool) → IsRemaining lines choices other → other ≡ set) →
        (set : List Bool) × IsRemaining lines choices set × ((other : List Bool) → IsRemaining lines choices other → other ≡ set) ×
        (hopeful_game (kleene known) game ≡ product_game (truth set) game) × (hopeful_game (kleene known) (dual game) ≡ dual_game (product_game (truth set) game))
    of (set, remains, only) =
        let full_game = decided set (remaining_products_complete lines choices known set ok table remains) in (
          set,
          remains,
          only,
          full_same Formula (kleene known) (truth set) game full_game,
          full_same Formula (kleene known) (truth set) (dual game) (dual_guards Formula (λ g. kleene known g ≡ cond (truth set g) Yes No) game full_game) ∙ product_dual Formula (truth set) game,
        )
