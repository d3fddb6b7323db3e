-- The values of definitions that values of the code stand for.
use Rattle.std.specs.Prelude.{◌≡◌, ℕ, List, map, Option, option_map, Result, Ok, Err}
use Rattle.std.specs.Borrow.{Bor}
use Rattle.vpg_script.specs.Script as script
use Rattle.vpg_script.specs.declared.look.Vertex.{Vertex}
use Rattle.vpg_script.specs.declared.look.Vertex.TheVariants as vertices
use Rattle.vpg_script.specs.declared.look.Look.{Look}
use Rattle.vpg_script.specs.declared.look.Look.TheVariants as looks
use Rattle.vpg_script.specs.declared.command.Command.{Command}
use Rattle.vpg_script.specs.declared.command.Command.TheVariants as commands
use Rattle.vpg_script.specs.declared.command.Request.{Request}
use Rattle.vpg_script.specs.declared.arguments.Argument.{Argument}
use Rattle.vpg_script.specs.declared.arguments.Argument.TheVariants as arguments
use Rattle.vpg_script.specs.declared.command.ReadFault.{ReadFault}
use Rattle.vpg_script.specs.declared.command.ReadFault.TheVariants as faults

-- a vertex, as definitions see it
abbrev pub vertex_shown : Vertex → script.Vertex
vertex_shown (vertices.Number identifier) = script.Numbered identifier
vertex_shown (vertices.Name name) = script.Named name.now

-- a look, as definitions see it
abbrev pub look_shown : Look → script.Look
look_shown (looks.OfPage look) = script.OfPage look
look_shown (looks.OfVertex look v) = script.OfVertex look (vertex_shown v)
look_shown (looks.OfVertices vs) = script.OfVertices (map vertex_shown vs.items)
look_shown (looks.OfClaims v claims) = script.OfClaims (vertex_shown v) claims.items
look_shown (looks.OfFeature look f) = script.OfFeature look f.now
look_shown (looks.OfChoice value f) = script.OfChoice value f.now

-- an argument, as definitions see it
abbrev pub argument_shown : Argument → script.Argument
argument_shown (arguments.Name name) = script.Name name.now
argument_shown (arguments.Number n) = script.Number n
argument_shown (arguments.Table table) = script.Table table
argument_shown (arguments.Vertex v) = script.At (vertex_shown v)
argument_shown (arguments.Choice value name) = script.Choice value name.now
argument_shown (arguments.Asserted state v) = script.Asserted state (vertex_shown v)
argument_shown (arguments.Claim claim) = script.Claimed claim
argument_shown (arguments.Exact verdict) = script.Exactly verdict

abbrev pub command_shown : Command → script.Command
command_shown (commands.Select f) = script.Select f.now
command_shown (commands.Exclude f) = script.Exclude f.now
command_shown (commands.Retract f) = script.Retract f.now
command_shown commands.Reset = script.Reset
command_shown (commands.Undo s) = script.Undo s
command_shown (commands.Redo s) = script.Redo s
command_shown (commands.Keep s) = script.Keep s
command_shown (commands.Forget s) = script.Forget s
command_shown (commands.Lift table v) = script.Lift table (vertex_shown v)
command_shown commands.Harvest = script.Harvest
command_shown (commands.Commit k) = script.Commit k
command_shown (commands.Settle n) = script.Settle n
command_shown commands.Changed = script.Changed
command_shown (commands.Look look) = script.Looks (look_shown look)

abbrev pub texts : List (Bor (List ℕ)) → List (List ℕ)
texts words = map (λ w. w.now) words

-- a request of the code as definitions see it
abbrev pub request_shown : Request → script.Request
request_shown r = record { label = r.label; command = command_shown r.command }

-- The function returns the line's meaning, unless memory runs out.
abbrev pub Says : Result (Option Request) ReadFault → script.Said → Type 0
Says (Ok request) said = said ≡ Ok (option_map request_shown request)
Says (Err (faults.Line f)) said = said ≡ Err f
Says (Err faults.Memory) said = Unit {0}
