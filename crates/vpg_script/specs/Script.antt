-- The lines of a script, and the commands that they spell.
use Rattle.std.specs.Prelude.{◌≡◌, ℕ, zero, suc, ◌+◌, ◌-◌, Bool, true, false, not, ◌&&◌, ◌||◌, ◌==◌, nat_le, nat_lt, if◌then◌else◌, List, [], ◌∷◌, length, map, filter, take, drop, position, Option, Some, None, is_none, option_map, option_and_then, Result, Ok, Err, slice_index, codes, bytes_eq}
use Rattle.std.specs.List.{list_all, list_any, prefix_len, slice_split}
use Rattle.std.specs.Char.{is_ascii_digit}
use Rattle.std.specs.Str.Parse.{digits_value}
use Rattle.vpg_features.specs.Names.{starts_as_name, is_name_byte, constant_of}
use Rattle.vpg_sides.specs.declared.which.Which.{Which}
use Rattle.vpg_sides.specs.declared.which.Which.TheVariants.{Hopeful, Dual}
use Rattle.vpg_script.specs.declared.forms.Verb.{Verb}
use Rattle.vpg_script.specs.declared.forms.Verb.TheVariants as verbs
use Rattle.vpg_script.specs.declared.forms.Parameter.{Parameter}
use Rattle.vpg_script.specs.declared.forms.Parameter.TheVariants as kinds
use Rattle.vpg_script.specs.declared.look.Claim.{Claim}
use Rattle.vpg_script.specs.declared.look.Claim.TheVariants as claims
use Rattle.vpg_script.specs.declared.look.FeatureLook.{FeatureLook}
use Rattle.vpg_script.specs.declared.look.PageLook.{PageLook}
use Rattle.vpg_script.specs.declared.look.PageLook.TheVariants as page_looks
use Rattle.vpg_script.specs.declared.look.VertexLook.{VertexLook}
use Rattle.vpg_script.specs.declared.look.VertexLook.TheVariants as vertex_looks
use Rattle.vpg_script.specs.declared.exact.ExactVerdict.{ExactVerdict}
use Rattle.vpg_script.specs.declared.exact.ExactVerdict.TheVariants as exacts
use Rattle.vpg_script.specs.Forms.{Form, form_named}
use Rattle.vpg_script.specs.declared.command.LineFault.{LineFault}
use Rattle.vpg_script.specs.declared.command.LineFault.TheVariants as faults

-- a space or a tab
abbrev pub is_blank : ℕ → Bool
is_blank b = (b == 32) || (b == 9)

abbrev pub is_nonempty : {X : Type 0} → List X → Bool
is_nonempty [] = false
is_nonempty (x ∷ xs) = true

-- ---- the words of a line

-- a double quote
abbrev pub is_quote : ℕ → Bool
is_quote b = b == 34

abbrev pub is_within_word : ℕ → Bool
is_within_word b = not (is_blank b)

-- a text from its first word on
abbrev pub unblanked : List ℕ → List ℕ
unblanked text = drop (prefix_len is_blank text) text

-- the number of bytes up to and with a quote at this place; none without a quote
abbrev pub behind_quote : Option ℕ → ℕ
behind_quote None = 0
behind_quote (Some n) = suc n

-- The number of bytes in quotes after the first byte of a word. If that is a quote, these are the bytes up to the next
-- one, with blanks among them.
abbrev pub quoted_len : ℕ → List ℕ → ℕ
quoted_len b text = if is_quote b then behind_quote (position is_quote text) else 0

-- the length of the word at the front of a text, which begins with no blank: up to the first blank after its quotes
abbrev pub word_len : List ℕ → ℕ
word_len [] = 0
word_len (b ∷ text) = suc (quoted_len b text + prefix_len is_within_word (drop (quoted_len b text) text))

-- the first word, and then the others
abbrev pub word_and : (List ℕ → List (List ℕ)) → List ℕ → List (List ℕ)
word_and later [] = []
word_and later (b ∷ text) = take (word_len (b ∷ text)) (b ∷ text) ∷ later (drop (word_len (b ∷ text)) (b ∷ text))

-- the words of a text, at most this many of them
abbrev pub words_with : ℕ → List ℕ → List (List ℕ)
words_with zero text = []
words_with (suc n) text = word_and (words_with n) (unblanked text)

-- The words of a line, with blanks between them. A word that begins with a quote goes on after the next quote.
abbrev pub words : List ℕ → List (List ℕ)
words line = words_with (length line) line

-- If a line has no quote, its words are the pieces between its blanks.
abbrev pub WordsAreBetweenBlanks : Type 0
WordsAreBetweenBlanks =
    (line : List ℕ) → list_any is_quote line ≡ false → words line ≡ filter is_nonempty (slice_split is_blank line)

-- ---- the forms of words

-- whether a word is a feature's name
abbrev pub is_feature_name : List ℕ → Bool
is_feature_name w = starts_as_name w && list_all is_name_byte w && nat_le (length w) 64 && is_none (constant_of w)

-- the number that a word's digits write, if it is at most this
abbrev pub number_of : ℕ → List ℕ → Option ℕ
number_of most w =
    if is_nonempty w && list_all is_ascii_digit w && nat_le (digits_value 10 w) most
    then Some (digits_value 10 w)
    else None

abbrev pub largest_serial : ℕ
largest_serial = 18446744073709551615

abbrev pub largest_identifier : ℕ
largest_identifier = 4294967295

abbrev pub most_sweeps : ℕ
most_sweeps = 1000000000

abbrev pub longest_line : ℕ
longest_line = 4096

-- a vertex, as a line names it: by its identifier, or by its name
pub data Vertex : Type 0 where
  Numbered : (identifier : ℕ) → Vertex
  Named : (name : List ℕ) → Vertex

-- A look at the page, which leaves it as it is: at the page as a whole, at a vertex or at the verdicts of some, whether
-- a vertex has these verdicts, at a feature, or why one more decision contradicts the page.
pub data Look : Type 0 where
  OfPage : (look : PageLook) → Look
  OfVertex : (look : VertexLook) → (vertex : Vertex) → Look
  OfVertices : (vertices : List Vertex) → Look
  OfClaims : (vertex : Vertex) → (claims : List Claim) → Look
  OfFeature : (look : FeatureLook) → (name : List ℕ) → Look
  OfChoice : (value : Bool) → (name : List ℕ) → Look

-- the command of a line, with its arguments
pub data Command : Type 0 where
  Select : (name : List ℕ) → Command
  Exclude : (name : List ℕ) → Command
  Retract : (name : List ℕ) → Command
  -- takes back all decisions
  Reset : Command
  Undo : (serial : Option ℕ) → Command
  Redo : (serial : Option ℕ) → Command
  Keep : (serial : ℕ) → Command
  Forget : (serial : ℕ) → Command
  Lift : (table : Which) → (vertex : Vertex) → Command
  Harvest : Command
  Commit : (number : ℕ) → Command
  Settle : (sweeps : Option ℕ) → Command
  -- the verdicts that differ from those at the last `changed`
  Changed : Command
  Looks : (look : Look) → Command

-- what an argument of a command says
pub data Argument : Type 0 where
  -- the name of a feature
  Name : (name : List ℕ) → Argument
  Number : (value : ℕ) → Argument
  Table : (table : Which) → Argument
  At : (vertex : Vertex) → Argument
  -- a decision: whether the feature is to be in, and its name
  Choice : (value : Bool) → (name : List ℕ) → Argument
  -- the vertex of an assertion, and what the word asserts of the page if it stands alone
  Asserted : (state : Option PageLook) → (vertex : Vertex) → Argument
  Claimed : (claim : Claim) → Argument
  Exactly : (verdict : ExactVerdict) → Argument

-- ---- what a word says as an argument

-- the name after a sign
abbrev pub signed : ℕ → List ℕ → Option (List ℕ)
signed sign [] = None
signed sign (b ∷ name) = if (b == sign) && is_feature_name name then Some name else None

-- the text before the last quote, if there is no other quote
abbrev pub closed : List ℕ → Option (List ℕ)
closed w =
    if is_quote (slice_index w (length w - 1)) && not (list_any is_quote (take (length w - 1) w))
    then Some (take (length w - 1) w)
    else None

-- the bytes between two quotes
abbrev pub quoted : List ℕ → Option (List ℕ)
quoted [] = None
quoted (b ∷ w) = if is_quote b then closed w else None

-- the name of a vertex that a word spells: of the form of a feature's name, or any text in quotes
abbrev pub vertex_name : List ℕ → Option (List ℕ)
vertex_name w = if is_feature_name w then Some w else quoted w

abbrev pub vertex_or : Option ℕ → Option (List ℕ) → Option Vertex
vertex_or (Some identifier) name = Some (Numbered identifier)
vertex_or None name = option_map Named name

-- the vertex that a word names: by its identifier, or else by its name
abbrev pub vertex_named : List ℕ → Option Vertex
vertex_named w = vertex_or (number_of largest_identifier w) (vertex_name w)

-- a decision in, or one out, or else a vertex
abbrev pub choice_or : Option (List ℕ) → Option (List ℕ) → Option Vertex → Option Argument
choice_or (Some name) out vertex = Some (Choice true name)
choice_or None (Some name) vertex = Some (Choice false name)
choice_or None None vertex = option_map At vertex

-- the subject of a `why`: a feature's name; a decision, `+` (43) or `-` (45) and a name; or a vertex
abbrev pub subject_of : List ℕ → Option Argument
subject_of w = if is_feature_name w then Some (Name w) else choice_or (signed 43 w) (signed 45 w) (vertex_named w)

-- the table that a word names
abbrev pub table_named : List ℕ → Option Which
table_named w =
    if bytes_eq w (codes "hopeful") then Some Hopeful
    else if bytes_eq w (codes "dual") then Some Dual
    else None

-- the verdict that a word names
abbrev pub claim_named : List ℕ → Option Claim
claim_named w =
    if bytes_eq w (codes "hopeless") then Some claims.Hopeless
    else if bytes_eq w (codes "possible") then Some claims.Possible
    else if bytes_eq w (codes "sure") then Some claims.Sure
    else if bytes_eq w (codes "unsure") then Some claims.Unsure
    else None

-- the exact verdict that a word names
abbrev pub exact_named : List ℕ → Option ExactVerdict
exact_named w =
    if bytes_eq w (codes "won") then Some exacts.Won
    else if bytes_eq w (codes "lost") then Some exacts.Lost
    else if bytes_eq w (codes "mixed") then Some exacts.Mixed
    else None

-- what a word asserts of the page as a whole
abbrev pub state_named : List ℕ → Option PageLook
state_named w =
    if bytes_eq w (codes "full") then Some page_looks.Full
    else if bytes_eq w (codes "settled") then Some page_looks.Settled
    else None

abbrev pub claimed_or : Option Claim → Option ExactVerdict → Option Argument
claimed_or (Some claim) exact = Some (Claimed claim)
claimed_or None exact = option_map Exactly exact

-- what a word says for a parameter
abbrev pub argument_of : Parameter → List ℕ → Option Argument
argument_of kinds.Feature w = if is_feature_name w then Some (Name w) else None
argument_of kinds.Serial w = option_map Number (number_of largest_serial w)
argument_of kinds.Harvest w = option_map Number (number_of largest_serial w)
argument_of kinds.Sweeps w = option_map Number (number_of most_sweeps w)
argument_of kinds.Table w = option_map Table (table_named w)
argument_of kinds.Vertex w = option_map At (vertex_named w)
argument_of kinds.Subject w = subject_of w
argument_of kinds.Asserted w = option_map (Asserted (state_named w)) (vertex_named w)
argument_of kinds.Verdict w = claimed_or (claim_named w) (exact_named w)

-- ---- the arguments of a command

-- the parameter of the next argument: the first of these, or else that of further ones
abbrev pub next_parameter : List Parameter → Option Parameter → Option Parameter
next_parameter [] rest = rest
next_parameter (parameter ∷ parameters) rest = Some parameter

abbrev pub argument_by : Option Parameter → List ℕ → Option Argument
argument_by None w = None
argument_by (Some parameter) w = argument_of parameter w

-- the first argument and the others, if none is missing
abbrev pub argument_and : Option Argument → Option (List Argument) → Option (List Argument)
argument_and None others = None
argument_and (Some argument) others = option_map (λ arguments. argument ∷ arguments) others

-- what words say for these parameters, in their order, and further words for that of further arguments
abbrev pub arguments_by : List Parameter → Option Parameter → List (List ℕ) → Option (List Argument)
arguments_by parameters rest [] = Some []
arguments_by parameters rest (w ∷ ws) =
    argument_and (argument_by (next_parameter parameters rest) w) (arguments_by (drop 1 parameters) rest ws)

-- what words say as the arguments of a form, if there are enough of them
abbrev pub arguments_of : Form → List (List ℕ) → Option (List Argument)
arguments_of form ws = if nat_le form.least (length ws) then arguments_by form.parameters form.rest ws else None

-- ---- the command of a form and its arguments

-- a look, if there is one, or else another command
abbrev pub look_or : Option Look → Option Command → Option Command
look_or (Some look) command = Some (Looks look)
look_or None command = command

-- a command without arguments that is no look
abbrev pub bare_change : Verb → Option Command
bare_change verbs.Reset = Some Reset
bare_change verbs.Undo = Some (Undo None)
bare_change verbs.Redo = Some (Redo None)
bare_change verbs.Harvest = Some Harvest
bare_change verbs.Settle = Some (Settle None)
bare_change verbs.Changed = Some Changed
bare_change _ = None

-- a command without arguments
abbrev pub bare_command : Form → Option Command
bare_command form = look_or (option_map OfPage form.of_page) (option_and_then bare_change form.verb)

-- a command about a feature that is no look
abbrev pub feature_change : Verb → List ℕ → Option Command
feature_change verbs.Select name = Some (Select name)
feature_change verbs.Exclude name = Some (Exclude name)
feature_change verbs.Retract name = Some (Retract name)
feature_change _ name = None

-- a command about a feature
abbrev pub feature_command : Form → List ℕ → Option Command
feature_command form name =
    look_or (option_map (λ look. OfFeature look name) form.of_feature)
    (option_and_then (λ verb. feature_change verb name) form.verb)

-- a command about a vertex
abbrev pub vertex_command : Form → Vertex → Option Command
vertex_command form vertex = option_map (λ look. Looks (OfVertex look vertex)) form.of_vertex

-- a command with a number
abbrev pub numbered_command : Verb → ℕ → Option Command
numbered_command verbs.Undo n = Some (Undo (Some n))
numbered_command verbs.Redo n = Some (Redo (Some n))
numbered_command verbs.Keep n = Some (Keep n)
numbered_command verbs.Forget n = Some (Forget n)
numbered_command verbs.Commit n = Some (Commit n)
numbered_command verbs.Settle n = Some (Settle (Some n))
numbered_command _ n = None

-- a command with one argument
abbrev pub command_with : Form → Argument → Option Command
command_with form (Name name) = feature_command form name
command_with form (Number n) = option_and_then (λ verb. numbered_command verb n) form.verb
command_with form (At vertex) = vertex_command form vertex
command_with form (Choice value name) = Some (Looks (OfChoice value name))
command_with form _ = None

abbrev pub table_in : Argument → Option Which
table_in (Table table) = Some table
table_in _ = None

abbrev pub vertex_in : Argument → Option Vertex
vertex_in (At vertex) = Some vertex
vertex_in _ = None

abbrev pub lift_by : Option Which → Option Vertex → Option Command
lift_by (Some table) (Some vertex) = Some (Lift table vertex)
lift_by _ _ = None

-- a lift of a table, and a vertex
abbrev pub lift_of : Argument → List Argument → Option Command
lift_of argument [] = None
lift_of argument (second ∷ []) = lift_by (table_in argument) (vertex_in second)
lift_of argument (second ∷ third ∷ more) = None

-- all of them, if none is missing
abbrev pub all_there : {X : Type 0} → List (Option X) → Option (List X)
all_there [] = Some []
all_there (None ∷ found) = None
all_there (Some x ∷ found) = option_map (λ xs. x ∷ xs) (all_there found)

-- the vertices that arguments name, if each names one
abbrev pub vertices_in : List Argument → Option (List Vertex)
vertices_in arguments = all_there (map vertex_in arguments)

abbrev pub claim_in : Argument → Option Claim
claim_in (Claimed claim) = Some claim
claim_in _ = None

-- the verdicts that arguments name, if each names one
abbrev pub claims_in : List Argument → Option (List Claim)
claims_in arguments = all_there (map claim_in arguments)

abbrev pub exact_in : Argument → Option ExactVerdict
exact_in (Exactly verdict) = Some verdict
exact_in _ = None

abbrev pub verdicts_command : Vertex → List Claim → Command
verdicts_command vertex claims = Looks (OfClaims vertex claims)

abbrev pub exact_or : Vertex → Option ExactVerdict → List Argument → Option Command
exact_or vertex (Some verdict) verdicts = Some (Looks (OfVertex (vertex_looks.Is verdict) vertex))
exact_or vertex None verdicts = option_map (verdicts_command vertex) (claims_in verdicts)

-- the assertion of a word alone, or of a vertex: an exact verdict stands alone after it, others in any number
abbrev pub asserted : Option PageLook → Vertex → List Argument → Option Command
asserted state vertex [] = option_map (λ look. Looks (OfPage look)) state
asserted state vertex (verdict ∷ []) = exact_or vertex (exact_in verdict) (verdict ∷ [])
asserted state vertex (verdict ∷ second ∷ more) =
    option_map (verdicts_command vertex) (claims_in (verdict ∷ second ∷ more))

abbrev pub assert_command : Argument → List Argument → Option Command
assert_command (Asserted state vertex) verdicts = asserted state vertex verdicts
assert_command _ verdicts = None

abbrev pub command_with_few : Form → Argument → List Argument → Option Command
command_with_few form argument [] = command_with form argument
command_with_few form argument (second ∷ more) = None

-- a command of this verb with this argument, and more
abbrev pub command_and : Form → Option Verb → Argument → List Argument → Option Command
command_and form (Some verbs.Show) argument more =
    option_map (λ vertices. Looks (OfVertices vertices)) (vertices_in (argument ∷ more))
command_and form (Some verbs.Lift) argument more = lift_of argument more
command_and form (Some verbs.Assert) argument more = assert_command argument more
command_and form _ argument more = command_with_few form argument more

-- the command of a form and its arguments
abbrev pub command_from : Form → List Argument → Option Command
command_from form [] = bare_command form
command_from form (argument ∷ more) = command_and form form.verb argument more

-- the command of a form, and of words that fit it
abbrev pub command_of : Form → List (List ℕ) → Option Command
command_of form ws = option_and_then (command_from form) (arguments_of form ws)

-- the label that a word spells: a number from 1 to 64 and a colon
abbrev pub if_positive : Option ℕ → Option ℕ
if_positive None = None
if_positive (Some n) = if n == 0 then None else Some n

abbrev pub label_of : List ℕ → Option ℕ
label_of w = if slice_index w (length w - 1) == 58 then if_positive (number_of 64 (take (length w - 1) w)) else None

-- a command under its label
pub record Request : Type 0 where
  pub label : ℕ
  pub command : Command

-- the meaning of a line: nothing, a request, or its fault
abbrev pub Said : Type 0
Said = Result (Option Request) LineFault

abbrev pub requested : ℕ → Option Command → Said
requested label None = Err faults.Args
requested label (Some command) = Ok (Some (record { label = label; command = command }))

abbrev pub with_form : ℕ → Option Form → List (List ℕ) → Said
with_form label None args = Err faults.Word
with_form label (Some form) args = requested label (command_of form args)

abbrev pub after_label : ℕ → List (List ℕ) → Said
after_label label [] = Err faults.Word
after_label label (w ∷ args) = with_form label (form_named w) args

abbrev pub labelled : Option ℕ → List (List ℕ) → List (List ℕ) → Said
labelled None all rest = after_label 1 all
labelled (Some label) all rest = after_label label rest

abbrev pub is_comment : List ℕ → Bool
is_comment [] = false
is_comment (b ∷ w) = b == 35

abbrev pub said_by : List (List ℕ) → Said
said_by [] = Ok None
said_by (w ∷ rest) = if is_comment w then Ok None else labelled (label_of w) (w ∷ rest) rest

-- the meaning of a line
abbrev pub said : List ℕ → Said
said line = if nat_lt longest_line (length line) then Err faults.TooLong else said_by (words line)
