-- A known script is read in one way, so a run through it is one.
use Rattle.std.proofs.Common.{◌≡◌, ◌≢◌, ℕ, ◌+◌, List, [], ◌∷◌, ◌++◌, length, Option, Some, None, Result, Ok, Err, refl, sym, ap, ap₂, ◌∙◌, subst, arith, inl, inr, length-append}
use Rattle.std.specs.Prelude.{⊤}
use Rattle.std.specs.List.{AllByRecursion}
use Rattle.vpg_script.specs.Lines.{NextLine, ReadLines}
use Rattle.vpg_script.specs.Answer.{Answer}
use Rattle.vpg_script.specs.Output.{Machine, Speaks, Answered, Wrote, IsEmptyKnown, BeginsFaulty, FaultyKnown, text_of}
use Rattle.vpg_report.specs.Output.{Outcome}
use Rattle.vpg_report.specs.Results.{IsThrough}
use Rattle.vpg_engine.specs.Line.{Between, begun}
use Rattle.vpg_report.specs.Run.{as_meant}
use Rattle.vpg_report.specs.Settling.{settling, SettledRunsAreOne}
use Rattle.vpg_texts.specs.Scene.{Scene}
use Rattle.vpg_checking.specs.Behaviours.{Behaviour}
use Rattle.vpg_script.specs.Script.{Request, Said, said}
use Rattle.vpg_script.specs.declared.command.LineFault.{LineFault}
use Rattle.vpg_script.specs.declared.command.LineFault.TheVariants as faults
use Rattle.vpg_script.specs.declared.fault.RunFault.{RunFault}
use Rattle.vpg_script.specs.declared.fault.RunFault.TheVariants as stops
use Rattle.vpg_script.proofs.FirstLine.{next_one, no_line, too_long_said}
use Rattle.vpg_report.proofs.OneText.{lines_one}

-- ---- the lines that are read, and where they stop

-- nothing is left, or a line with this fault
abbrev Stops : Option LineFault → List ℕ → Type 0
Stops None rest = rest ≡ []
Stops (Some fault) rest = BeginsFaulty fault rest

abbrev AreFaultless : List (List ℕ) → Type 0
AreFaultless lines = AllByRecursion (λ line. (fault : LineFault) → said line ≢ Err fault) lines

-- where a line without a fault comes, it doesn't stop
goes_on : (text line more : List ℕ) (stop : Option LineFault) → NextLine text line more → ((fault : LineFault) → said line ≢ Err fault) → Stops stop text → ⊥
goes_on text line more None next fine stops_here = no_line text line more stops_here next
goes_on text line more (Some fault) next fine (inl (other, rest, (comes, is))) =
    fine fault (ap said (next_one text line other more rest next comes).0 ∙ is)
goes_on text line more (Some fault) next fine (inr (is, begins)) = fine faults.TooLong (too_long_said text line more begins next)

fault_one : (text : List ℕ) (one other : LineFault) → BeginsFaulty one text → BeginsFaulty other text → one ≡ other
fault_one text one other (inl (line, more, (comes, is))) (inl (last, rest, (next, are))) = cc (ap said (next_one text line last more rest comes next).0, is, are)
fault_one text one other (inl (line, more, (comes, is))) (inr (are, begins)) = cc (too_long_said text line more begins comes, is, are)
fault_one text one other (inr (is, begins)) (inl (last, rest, (next, are))) = cc (too_long_said text last rest begins next, is, are)
fault_one text one other (inr (is, begins)) (inr (are, starts)) = is ∙ sym are

not_empty : (text : List ℕ) (fault : LineFault) → text ≡ [] → BeginsFaulty fault text → ⊥
not_empty text fault is (inl (line, more, (comes, said_is))) = no_line text line more is comes
not_empty text fault is (inr (too_long, begins)) = absurd (omega (arith, begins.long, ap (λ (l : List ℕ). length l) (sym is ∙ begins.text_is), length-append begins.front begins.rest))

stop_one : (text : List ℕ) (one other : Option LineFault) → Stops one text → Stops other text → one ≡ other
stop_one text None None a b = refl
stop_one text None (Some fault) a b = absurd (not_empty text fault a b)
stop_one text (Some fault) None a b = absurd (not_empty text fault b a)
stop_one text (Some one) (Some other) a b = ap (λ (f : LineFault). Some f) (fault_one text one other a b)

read_one : (script : List ℕ) (lines others : List (List ℕ)) (rest left : List ℕ) (one other : Option LineFault) → ReadLines script lines rest → ReadLines script others left →
    AreFaultless lines → AreFaultless others → Stops one rest → Stops other left → (lines ≡ others) × (one ≡ other)
read_one script [] [] rest left one other a b fine well stop ends = (refl, stop_one script one other (subst (Stops one) (sym a) stop) (subst (Stops other) (sym b) ends))
read_one script [] (line ∷ others) rest left one other a b fine well stop ends = absurd (goes_on script line b.0 one b.1 well.0 (subst (Stops one) (sym a) stop))
read_one script (line ∷ lines) [] rest left one other a b fine well stop ends = absurd (goes_on script line a.0 other a.1 fine.0 (subst (Stops other) (sym b) ends))
read_one script (line ∷ lines) (last ∷ others) rest left one other a b fine well stop ends =
    let same : (line ≡ last) × (a.0 ≡ b.0) = next_one script line last a.0 b.0 a.1 b.1 in
    let more : (lines ≡ others) × (one ≡ other) = read_one a.0 lines others rest left one other a.2 (subst (λ (t : List ℕ). ReadLines t others left) (sym same.1) b.2) fine.1 well.1 stop ends in
    (ap₂ (λ (x : List ℕ) (xs : List (List ℕ)). x ∷ xs) same.0 more.0, more.1)

-- ---- runs

speaks_faultless : {S : Type 0} (serves : Machine S) (s new : S) (line : List ℕ) (answer : Answer) (says : Said) → said line ≡ says → Speaks serves s says answer new → (fault : LineFault) → said line ≢ Err fault
speaks_faultless serves s new line answer (Ok r) is speaks fault also = absurd (cc (is, also))
speaks_faultless serves s new line answer (Err f) is speaks fault also = absurd speaks

answered_faultless : {S : Type 0} (serves : Machine S) (s new : S) (lines : List (List ℕ)) (answers : List Answer) → Answered serves s lines answers new → AreFaultless lines
answered_faultless serves s new [] answers answered = tt
answered_faultless serves s new (line ∷ lines) answers answered =
    (speaks_faultless serves s answered.0 line answered.1 (said line) refl answered.3, answered_faultless serves answered.0 new lines answered.2 answered.5)

-- a run through a known script: its lines, their answers, and where it stops
record Through (meaning : Request → Request) (behaviour : Option Behaviour) (scene : Scene) (script before after : List ℕ) (lines : List (List ℕ)) (stop : Option LineFault) : Type 0 where
  rest : List ℕ
  read : ReadLines script lines rest
  stops_at : Stops stop rest
  new : Between
  answers : List Answer
  answered : Answered (as_meant meaning (settling behaviour scene)) begun lines answers new
  written : after ≡ before ++ text_of answers

through_one : (meaning : Request → Request) (behaviour : Option Behaviour) (scene : Scene) (script before after later : List ℕ) (lines others : List (List ℕ)) (one other : Option LineFault) → Through meaning behaviour scene script before after lines one →
    Through meaning behaviour scene script before later others other → (after ≡ later) × (lines ≡ others) × (one ≡ other)
through_one meaning behaviour scene script before after later lines others one other a b =
    let same : (lines ≡ others) × (one ≡ other) = read_one script lines others a.rest b.rest one other a.read b.read (answered_faultless (as_meant meaning (settling behaviour scene)) begun a.new lines a.answers a.answered)
    (answered_faultless (as_meant meaning (settling behaviour scene)) begun b.new others b.answers b.answered) a.stops_at b.stops_at in
    let given : (a.answers ≡ b.answers) × (a.new ≡ b.new) = lines_one meaning behaviour scene begun lines a.answers b.answers a.new b.new a.answered
    (subst (λ (ls : List (List ℕ)). Answered (as_meant meaning (settling behaviour scene)) begun ls b.answers b.new) (sym same.0) b.answered) in
    (a.written ∙ ap (λ (given : List Answer). before ++ text_of given) given.0 ∙ sym b.written, same.0, same.1)

-- the result of a run through these lines, with this stop
abbrev result_of : List (List ℕ) → Option LineFault → Result (Unit {0}) RunFault
result_of lines None = Ok tt
result_of lines (Some fault) = Err (stops.Line (length lines + 1) fault)

module _ (meaning : Request → Request) (behaviour : Option Behaviour) (scene : Scene) (script before after : List ℕ) (left : Option (List ℕ)) where
  made : (lines : List (List ℕ)) (stop : Option LineFault) (rest : Option (List ℕ)) (new : Between) → Wrote (as_meant meaning (settling behaviour scene)) begun new (Some script) rest (Some before) (Some after) lines →
      ((r : List ℕ) → rest ≡ Some r → Stops stop r) → Through meaning behaviour scene script before after lines stop
  made lines stop None new wrote stops_here = absurd wrote.read
  made lines stop (Some r) new wrote stops_here =
      record { rest = r; read = wrote.read; stops_at = stops_here r refl; new = new; answers = wrote.answers; answered = wrote.answered; written = wrote.written }

  through : (result : Result (Unit {0}) RunFault) → IsThrough result → Outcome (as_meant meaning (settling behaviour scene)) (λ _. ⊤) begun (Some script) left (Some before) (Some after) result →
      (lines : List (List ℕ)) × (stop : Option LineFault) × (Through meaning behaviour scene script before after lines stop × (result ≡ result_of lines stop))
  through (Ok done) is (lines, new, rest, (wrote, empty)) =
      (lines, None, (made lines None rest new wrote (λ r here. subst IsEmptyKnown here empty), refl))
  through (Err (stops.Line n fault)) is (lines, new, rest, (wrote, faulty, counted)) =
      (lines, Some fault, (made lines (Some fault) rest new wrote (λ r here. subst (FaultyKnown fault) here faulty), ap (λ (k : ℕ). Err (stops.Line k fault)) counted))
  through _ is outcome = absurd is

pub settled_runs_are_one : SettledRunsAreOne
settled_runs_are_one meaning behaviour scene script before after later left rest result other whole ends all full =
    let a = through meaning behaviour scene script before after left result whole ends in
    let b = through meaning behaviour scene script before later rest other all full in
    let same : (after ≡ later) × (a.0 ≡ b.0) × (a.1 ≡ b.1) = through_one meaning behaviour scene script before after later a.0 b.0 a.1 b.1 a.2.0 b.2.0 in
    (same.0, a.2.1 ∙ ap₂ (λ (ls : List (List ℕ)) (s : Option LineFault). result_of ls s) same.1 same.2 ∙ sym b.2.1)
