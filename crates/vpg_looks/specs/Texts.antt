-- The texts of answers about a page. This project's own.
use Rattle.std.specs.Prelude.{ℕ, zero, suc, ◌+◌, Bool, true, false, if◌then◌else◌, Option, Some, None, List, [], ◌∷◌, ◌++◌, length, codes, count_by, is_some, map, flat_map, nat_eq, slice_index, slice_index_or}
use Rattle.std.specs.List.{list_all}
use Rattle.vpg_diagram.specs.declared.clause.Literal.{Literal}
use Rattle.vpg_sides.specs.declared.which.Which.{Which}
use Rattle.vpg_sides.specs.declared.which.Which.TheVariants.{Hopeful, Dual}
use Rattle.vpg_partial.specs.Known.{literal_of}
use Rattle.vpg_partial.specs.declared.decision.Decision.{Decision}
use Rattle.vpg_script.specs.Answer.{Answer, refused}
use Rattle.vpg_texts.specs.Labels.{label_of, beside, beside_both}
use Rattle.vpg_texts.specs.Text.{blank_number, blank_name, choice_text, choices_text, name_if}
use Rattle.vpg_why.specs.declared.forcing.Demand.{Demand}
use Rattle.vpg_why.specs.declared.forcing.Demand.TheVariants as demands
use Rattle.vpg_why.specs.declared.question.Shown.{Shown}
use Rattle.vpg_why.specs.declared.question.Shown.TheVariants as shown
use Rattle.vpg_why.specs.declared.searching.Found.{Found}
use Rattle.vpg_why.specs.declared.searching.Found.TheVariants as founds
use Rattle.vpg_why.specs.declared.telling.WhyLost.{WhyLost}
use Rattle.vpg_why.specs.declared.telling.WhyLost.TheVariants as whys
use Rattle.vpg_number.specs.Digits.{numeral_of}
use Rattle.vpg_number.specs.declared.counted.Count.{Count}
use Rattle.vpg_number.specs.declared.counted.Count.TheVariants.{Exactly, AtLeast}
use Rattle.vpg_winners.specs.Joined.{PartView}
use Rattle.vpg_winners.specs.declared.deciding.Decided.{Decided}
use Rattle.vpg_winners.specs.declared.deciding.Decided.TheVariants as decides
use Rattle.vpg_winners.specs.declared.parts.Winner.{Winner}
use Rattle.vpg_winners.specs.declared.parts.Winner.TheVariants as winners
use Rattle.vpg_looks.specs.declared.offers.Fact.{Fact}
use Rattle.vpg_looks.specs.declared.offers.Fact.TheVariants as facts
use Rattle.vpg_looks.specs.declared.offers.Offered.{Offered}
use Rattle.vpg_looks.specs.declared.offers.Prospect.{Prospect}
use Rattle.vpg_looks.specs.declared.offers.Prospect.TheVariants as prospects
use Rattle.vpg_looks.specs.declared.retracting.Effect.{Effect}
use Rattle.vpg_looks.specs.declared.retracting.Effect.TheVariants as effects
use Rattle.vpg_looks.specs.declared.retracting.Tried.{Tried}
use Rattle.vpg_looks.specs.Repairs.{is_listed, rank_of}

-- if it was not shown that none of the decisions can be left out
abbrev pub doubt_text : Bool → List ℕ
doubt_text exact = if exact then [] else codes " or fewer"

-- decisions that are a reason, at the end of a line, before the name of the line's vertex
abbrev pub reason_text : List (List ℕ) → List Decision → Bool → (label : List ℕ) → List ℕ
reason_text names listed exact label =
    choices_text names (map literal_of listed) ++ doubt_text exact ++ beside label ++ 10 ∷ []

-- ---- a vertex

-- the word of a table's verdict
abbrev pub verdict_word : Which → List ℕ
verdict_word Hopeful = codes "hopeless"
verdict_word Dual = codes "sure"

abbrev pub other_word : Which → List ℕ
other_word Hopeful = codes "possible"
other_word Dual = codes "unsure"

-- a vertex with the verdict, and the decisions that are its reason
abbrev pub verdict_line : List (List ℕ) → Which → (identifier : ℕ) → (label : List ℕ) → List Decision → Bool → List ℕ
verdict_line names which identifier label listed exact =
    verdict_word which ++ blank_number identifier ++ reason_text names listed exact label

-- one without it
abbrev pub other_line : Which → (identifier : ℕ) → (label : List ℕ) → List ℕ
other_line which identifier label = other_word which ++ blank_number identifier ++ beside label ++ 10 ∷ []

-- the fact about a vertex: Even wins from it in no product, or Odd in none
abbrev pub lost_word : Which → List ℕ
lost_word Hopeful = codes "lost"
lost_word Dual = codes "won"

abbrev pub lost_head : Which → (identifier : ℕ) → List ℕ
lost_head which identifier = lost_word which ++ blank_number identifier

-- the fact, and the decisions that are its reason
abbrev pub lost_line : (head label : List ℕ) → List (List ℕ) → List Decision → Bool → List ℕ
lost_line head label names listed exact = head ++ reason_text names listed exact label

-- ---- a feature

-- the value that is known
abbrev pub known_word : Bool → List ℕ
known_word value = if value then codes "in" else codes "out"

abbrev pub known_line : List (List ℕ) → (value : Bool) → (feature : ℕ) → List Decision → List ℕ
known_line names value feature listed = known_word value ++ blank_name names feature ++ reason_text names listed true []

abbrev pub not_known : Answer
not_known = refused (codes "NotKnown")

-- ---- a product

-- the names of those of the first n features that it has
abbrev pub names_in : List (List ℕ) → List Bool → ℕ → List ℕ
names_in names set zero = []
names_in names set (suc n) = names_in names set n ++ name_if (slice_index_or set n false) names n

-- `product` if it was shown to be the first, else `some product`
abbrev pub product_word : Bool → List ℕ
product_word first = if first then codes "product" else codes "some product"

abbrev pub product_line : List (List ℕ) → List Bool → Bool → List ℕ
product_line names set first = product_word first ++ names_in names set (length names) ++ 10 ∷ []

abbrev pub none_line : List ℕ
none_line = codes "none\n"

-- if a limit was met
abbrev pub unsettled_line : List ℕ
unsettled_line = codes "unsettled\n"

-- a product that was found, or that there is none, or that a limit was met
abbrev pub found_text : List (List ℕ) → Found → List ℕ
found_text names (founds.Product found) = product_line names found.features.items found.first
found_text names founds.Nothing = none_line
found_text names founds.Unsettled = unsettled_line

-- the decisions that leave no product, after this head; or a product that was found; or that a limit was met
abbrev pub why_text : (head label : List ℕ) → List (List ℕ) → WhyLost → List ℕ
why_text head label names (whys.Because found) = lost_line head label names found.decisions.items found.exact
why_text head label names (whys.Unless example) = product_line names example.features.items example.first
why_text head label names whys.Unsettled = unsettled_line

-- ---- one more decision

abbrev pub conflict_line : List (List ℕ) → Literal → List Decision → List ℕ
conflict_line names choice listed =
    codes "conflict" ++ choice_text names choice ++ reason_text names listed true []

abbrev pub no_conflict : Answer
no_conflict = refused (codes "NoConflict")

-- ---- offers

-- a verdict if it was shown, or that a limit was met
abbrev pub shown_word : Which → Shown → List ℕ
shown_word which shown.Yes = 32 ∷ verdict_word which
shown_word which shown.No = 32 ∷ other_word which
shown_word which shown.Unsettled = codes " unsettled"

-- the winner in the products left
abbrev pub fact_word : Fact → List ℕ
fact_word facts.Won = codes " won"
fact_word facts.Lost = codes " lost"
fact_word facts.Mixed = codes " mixed"
fact_word facts.Empty = codes " empty"
fact_word facts.Unsettled = codes " unsettled"

abbrev pub offer_words : Prospect → List ℕ
offer_words prospects.Conflict = codes " conflict"
offer_words (prospects.Left hopeless sure fact) = shown_word Hopeful hopeless ++ shown_word Dual sure ++ fact_word fact

-- one more decision, and its prospect at the vertex
abbrev pub offer_line : List (List ℕ) → Offered → List ℕ
offer_line names offered = codes "offer" ++ choice_text names offered.choice ++ offer_words offered.prospect ++ 10 ∷ []

abbrev pub offers_text : List (List ℕ) → List Offered → List ℕ
offers_text names listed =
    flat_map (offer_line names) listed ++ codes "offers" ++ blank_number (length listed) ++ 10 ∷ []

-- ---- needs

-- one choice after a word
abbrev pub choice_line : (word : List ℕ) → List (List ℕ) → Literal → List ℕ
choice_line word names choice = word ++ choice_text names choice ++ 10 ∷ []

-- if there may be others
abbrev pub more_text : Bool → List ℕ
more_text exact = if exact then [] else codes " or more"

-- the number of the lines before this one, after a word
abbrev pub total_line : (word : List ℕ) → (lines : ℕ) → Bool → List ℕ
total_line word lines exact = word ++ blank_number lines ++ more_text exact ++ 10 ∷ []

abbrev pub forced_text : (word : List ℕ) → List (List ℕ) → List Literal → Bool → List ℕ
forced_text word names listed exact =
    flat_map (choice_line word names) listed ++ total_line word (length listed) exact

-- the choices that are needed, each after this word; or that no product meets the aim; or that a limit was met
abbrev pub demand_text : (word : List ℕ) → List (List ℕ) → Demand → List ℕ
demand_text word names (demands.These found) = forced_text word names found.literals.items found.exact
demand_text word names demands.Nothing = none_line
demand_text word names demands.Unsettled = unsettled_line

-- ---- repairs

-- the mark of a retraction that leaves no product that is won, or that was not settled
abbrev pub mark_text : Effect → List ℕ
mark_text effects.Won = []
mark_text effects.Possible = codes " lost"
mark_text effects.Nothing = []
mark_text effects.Unsettled = codes " unsettled"

-- one decision to be retracted alone
abbrev pub repair_line : List (List ℕ) → Tried → List ℕ
repair_line names t = codes "repair" ++ choice_text names (literal_of t.decision) ++ mark_text t.effect ++ 10 ∷ []

-- the lines of those with an effect of this rank
abbrev pub line_at : List (List ℕ) → (rank : ℕ) → Tried → List ℕ
line_at names rank t = if nat_eq (rank_of t.effect) rank then repair_line names t else []

abbrev pub lines_at : List (List ℕ) → (rank : ℕ) → List Tried → List ℕ
lines_at names rank tried = flat_map (line_at names rank) tried

-- those that are marked, and the number of all lines, with these before
abbrev pub marked_text : List (List ℕ) → (before : ℕ) → List Tried → Bool → List ℕ
marked_text names before tried exact = lines_at names 1 tried ++ lines_at names 2 tried ++
    total_line (codes "repairs") (before + count_by (λ t. is_listed t.effect) tried) exact

-- decisions, each of which can be retracted alone, those first that win
abbrev pub singles_text : List (List ℕ) → List Tried → Bool → List ℕ
singles_text names tried exact = lines_at names 0 tried ++ marked_text names 0 tried exact

-- decisions to be retracted together, and then those that can be alone, but do not win
abbrev pub several_text : List (List ℕ) → List Decision → (sure : Bool) → List Tried → (exact : Bool) → List ℕ
several_text names given sure tried exact =
    codes "repair" ++ reason_text names given sure [] ++ marked_text names 1 tried exact

-- ---- moves

-- the first word of lines of moves: those of Even are a plan, those of Odd spoil
abbrev pub moves_word : (mover : Which) → List ℕ
moves_word Hopeful = codes "plan"
moves_word Dual = codes "spoil"

-- a vertex's identifier, and that of the one to move to, and both names
abbrev pub move_line : (word identifiers : List ℕ) (labels : List (List ℕ)) → ℕ → Option ℕ → List ℕ
move_line word identifiers labels v None = []
move_line word identifiers labels v (Some w) =
    word ++ blank_number (slice_index identifiers v) ++ blank_number (slice_index identifiers w)
    ++ beside_both (label_of labels v) (label_of labels w) ++ 10 ∷ []

-- the lines of the first n vertices
abbrev pub move_lines : (word identifiers : List ℕ) (labels : List (List ℕ)) → List (Option ℕ) → ℕ → List ℕ
move_lines word identifiers labels moves zero = []
move_lines word identifiers labels moves (suc n) =
    move_lines word identifiers labels moves n ++ move_line word identifiers labels n (slice_index_or moves n None)

-- moves, and their number
abbrev pub moves_text : (word identifiers : List ℕ) (labels : List (List ℕ)) → List (Option ℕ) → List ℕ
moves_text word identifiers labels moves =
    move_lines word identifiers labels moves (length moves)
    ++ word ++ codes "s" ++ blank_number (count_by is_some moves) ++ 10 ∷ []

-- ---- numbers

-- a number of products; ` or more` if a limit was met
abbrev pub amount_text : Count → List ℕ
amount_text (Exactly number) = 32 ∷ numeral_of number
amount_text (AtLeast few) = 32 ∷ numeral_of few ++ codes " or more"

abbrev pub number_line : Count → List ℕ
number_line count = codes "number" ++ amount_text count ++ 10 ∷ []

-- ---- who wins

-- the winner in each product of a part; or a limit was met
abbrev pub winner_word : Winner → List ℕ
winner_word winners.Won = codes "won"
winner_word winners.Lost = codes "lost"
winner_word winners.Unsettled = codes "unsettled"

-- the name at the end of a part's line: none if a limit was met
abbrev pub part_label : Winner → (label : List ℕ) → List ℕ
part_label winners.Won label = label
part_label winners.Lost label = label
part_label winners.Unsettled label = []

-- a part: the winner, the vertex, the literals that cut the part out, how many products it has, and the vertex's name
abbrev pub part_line : List (List ℕ) → (identifier : ℕ) → (label : List ℕ) → PartView → Count → List ℕ
part_line names identifier label part count =
    winner_word part.winner ++ blank_number identifier ++ choices_text names part.literals ++ amount_text count
    ++ beside (part_label part.winner label) ++ 10 ∷ []

abbrev pub part_lines : List (List ℕ) → (identifier : ℕ) → (label : List ℕ) → List PartView → List Count → List ℕ
part_lines names identifier label [] counts = []
part_lines names identifier label (part ∷ parts) [] = []
part_lines names identifier label (part ∷ parts) (count ∷ counts) =
    part_line names identifier label part count ++ part_lines names identifier label parts counts

abbrev pub is_won : Winner → Bool
is_won winners.Won = true
is_won winners.Lost = false
is_won winners.Unsettled = false

abbrev pub is_lost : Winner → Bool
is_lost winners.Won = false
is_lost winners.Lost = true
is_lost winners.Unsettled = false

-- no limit was met
abbrev pub is_told : Winner → Bool
is_told winners.Won = true
is_told winners.Lost = true
is_told winners.Unsettled = false

-- the numbers of the parts won and lost, and whether there may be others
abbrev pub winners_line : (identifier : ℕ) → (label : List ℕ) → (won lost : ℕ) → Bool → List ℕ
winners_line identifier label won lost told =
    codes "winners" ++ blank_number identifier ++ blank_number won ++ blank_number lost ++ more_text told
    ++ beside label ++ 10 ∷ []

-- a line for each part, and their numbers
abbrev pub winners_text : List (List ℕ) → (identifier : ℕ) → (label : List ℕ) → List PartView → List Count → List ℕ
winners_text names identifier label parts counts =
    part_lines names identifier label parts counts
    ++ winners_line identifier label (count_by (λ p. is_won p.winner) parts) (count_by (λ p. is_lost p.winner) parts)
    (list_all (λ p. is_told p.winner) parts)

-- the fact about a vertex, in each product left
abbrev pub fact_line : Which → (identifier : ℕ) → (label : List ℕ) → List ℕ
fact_line which identifier label = lost_head which identifier ++ beside label ++ 10 ∷ []

abbrev pub empty_line : List ℕ
empty_line = codes "empty\n"

abbrev pub mixed_head : (identifier : ℕ) → (label : List ℕ) → List ℕ
mixed_head identifier label = codes "mixed" ++ blank_number identifier ++ beside label ++ 10 ∷ []

-- a product that is won, and one that is lost, each with whether it was shown to be the first
abbrev pub mixed_text : List (List ℕ) → (identifier : ℕ) → (label : List ℕ) → (won : List Bool) → (first : Bool) →
    (lost : List Bool) → (second : Bool) → List ℕ
mixed_text names identifier label won first lost second =
    mixed_head identifier label ++ product_line names won first ++ product_line names lost second

-- who wins at a vertex, or that no product is left, or that a limit was met
abbrev pub decided_text : List (List ℕ) → (identifier : ℕ) → (label : List ℕ) → Decided → List ℕ
decided_text names identifier label decides.Won = fact_line Dual identifier label
decided_text names identifier label decides.Lost = fact_line Hopeful identifier label
decided_text names identifier label (decides.Mixed won lost) =
    mixed_text names identifier label won.features.items won.first lost.features.items lost.first
decided_text names identifier label decides.Empty = empty_line
decided_text names identifier label decides.Unsettled = unsettled_line
