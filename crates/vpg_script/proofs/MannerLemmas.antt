-- A script in a manner, one line more; and where no manner is asked for, what it was.
use Rattle.std.proofs.Common.{◌≡◌, ℕ, suc, ◌+◌, Bool, true, false, List, [], ◌∷◌, ◌++◌, length, Option, Some, None, Result, Ok, Err, refl, sym, ap, ap₂, ◌∙◌, inl, inr, append-nil, subst, arith, length-append, replicate, ◌<◌, append_assoc}
use Rattle.std.proofs.lemmas.List.{length-replicate}
use Rattle.std.specs.Prelude.{◌||◌, ◌&&◌, OnOk}
use Rattle.std.specs.List.{list_any}
use Rattle.std.proofs.lemmas.List.Folds.{list_any-append}
use Rattle.std.specs.Io.KnownBytes.{prepend_known, Appends, Keeps}
use Rattle.std.specs.Str.Lines.{lines, strip_carriage_return}
use Rattle.std.proofs.lemmas.Str.{utf8_lossy_empty}
use Rattle.std.specs.Global.{Vec}
use Rattle.vpg_script.specs.Devices.{AppendsSome}
use Rattle.vpg_script.specs.Lines.{BeginsTooLong, IsPassed, PassedKnown, HeldKnown, ComesKnown, NextLine}
use Rattle.vpg_script.specs.Script.{Request, Said, said}
use Rattle.vpg_script.specs.Answer.{Answer, done, is_failure, is_refused, is_refusal}
use Rattle.vpg_script.specs.Framing.{framed, frames, json_line}
use Rattle.vpg_script.specs.declared.framing.Form.{Form}
use Rattle.vpg_script.specs.declared.framing.Form.TheVariants as forms
use Rattle.vpg_script.specs.Output.{Machine, Speaks, Answered, ReadKnown, Wrote, NextKnown, IsEmptyKnown, FaultyKnown, ScriptOutcome, text_of}
use Rattle.vpg_script.specs.Manners.{fault_answer, Answers, AnsweredEach, WroteEach, Went, Leaves, MannerOutcome}
use Rattle.vpg_script.specs.Results.{UnlessReaderFails, UnlessWriterFails, stop_of, ending_of, PutOutcome, FaultOutcome, TakenKnown, TakenSaying, AskedBy, AskedOutcome}
use Rattle.vpg_script.specs.declared.answering.Asked.{Asked}
use Rattle.vpg_script.specs.declared.answering.Asked.TheVariants as asks
use Rattle.vpg_script.specs.declared.command.LineFault.{LineFault}
use Rattle.vpg_script.specs.declared.command.LineFault.TheVariants as faults
use Rattle.vpg_script.specs.declared.lines.Next.TheVariants as next
use Rattle.vpg_script.specs.declared.tone.Tone.{Tone}
use Rattle.vpg_script.specs.declared.tone.Tone.TheVariants as tones
use Rattle.vpg_script.specs.declared.serving.Manner.{Manner}
use Rattle.vpg_script.specs.declared.serving.Ending.{Ending}
use Rattle.vpg_script.specs.declared.serving.Ending.TheVariants as endings
use Rattle.vpg_script.specs.declared.serving.ServeFault.{ServeFault}
use Rattle.vpg_script.specs.declared.serving.ServeFault.TheVariants as unserved
use Rattle.vpg_script.specs.declared.fault.RunFault.{RunFault}
use Rattle.vpg_script.specs.declared.fault.RunFault.TheVariants as stops
use Rattle.vpg_script.proofs.FirstLine.{long_said, too_long_said}
use Rattle.vpg_script.proofs.ScriptLemmas.{appends_none, appends_twice, read_more, read_kept, wrote_nothing, line_faulty, too_long_faulty}

-- ---- one line

answers_fault : {S : Type 0} (goes_on : Bool) (serves : Machine S) (s : S) (says : Said) (fault : LineFault) → goes_on ≡ true → says ≡ Err fault →
    Answers goes_on serves s says (fault_answer fault) s
answers_fault true serves s says fault on is = rw is (refl, refl)
answers_fault false serves s says fault on is = absurd (cc on)

pub fault_is_put : (manner : Manner) (n : ℕ) (fault : LineFault) (text : List ℕ) (before after : Option (List ℕ)) (result : Result Tone RunFault)
    → manner.goes_on ≡ true → text ≡ (fault_answer fault).text → PutOutcome (framed manner.form n (record { tone = tones.Refused; text = text })) tones.Refused before after result
    → FaultOutcome manner n fault before after result
fault_is_put manner n fault text before after result on told put = go result put
  where
    same : framed manner.form n (record { tone = tones.Refused; text = text }) ≡ framed manner.form n (fault_answer fault)
    same = ap (λ (x : List ℕ). framed manner.form n (record { tone = tones.Refused; text = x })) told

    go : (r : Result Tone RunFault) → PutOutcome (framed manner.form n (record { tone = tones.Refused; text = text })) tones.Refused before after r → FaultOutcome manner n fault before after r
    go (Ok back) is = (on, is.0, subst (λ (f : List ℕ). Appends before after f) same is.1)
    go (Err stops.Write) is = (on, subst (λ (f : List ℕ). AppendsSome before after f) same is)
    go (Err stops.Memory) is = is
    go (Err stops.Read) is = absurd is
    go (Err stops.Stray) is = absurd is
    go (Err (stops.Open why)) is = absurd is
    go (Err (stops.Line m other)) is = absurd is

-- nothing is written for a line that says nothing
framed_nothing : (form : Form) (n : ℕ) → framed form n (done []) ≡ []
framed_nothing forms.Plain n = refl
framed_nothing forms.Json n = ap (λ (t : List ℕ). json_line n tones.Done (lines t)) (utf8_lossy_empty [] refl)

-- a line was passed over: it is the first of the text
passed_line : (text rest : List ℕ) → BeginsTooLong text → IsPassed text rest → (line : List ℕ) × NextLine text line rest
passed_line text rest begins (front, (unended, inl is)) =
    (strip_carriage_return front, inl (record { front = front; text_is = is; unended = unended; line_is = refl }))
passed_line text rest begins (front, (unended, inr is)) =
    (front, inr (record { text_is = is.0; unended = unended; some = omega (arith, begins.long, ap (λ (l : List ℕ). length l) (sym is.0 ∙ begins.text_is), length-append begins.front begins.rest); rest_is = is.1 }))

long_one : (n : ℕ) → 4096 < n → said (replicate {A = ℕ} n 0) ≡ Err faults.TooLong
long_one n long = long_said (replicate {A = ℕ} n 0) (omega (arith, long, length-replicate {A = ℕ} n 0))

passed_known : (a m b : Option (List ℕ)) → ComesKnown next.TooLong a m → PassedKnown m b →
    (line : List ℕ) × ((said line ≡ Err faults.TooLong) × TakenKnown a line b × NextKnown a line)
passed_known None m b comes passed = (replicate 4097 0, (long_one 4097 (omega arith), tt, tt))
passed_known (Some text) None b comes passed = absurd comes
passed_known (Some text) (Some held) None comes passed = absurd passed
passed_known (Some text) (Some held) (Some rest) comes passed =
    let first : (line : List ℕ) × NextLine text line rest = passed_line text rest comes.0 (subst (λ (t : List ℕ). IsPassed t rest) comes.1 passed) in
    (first.0, (too_long_said text first.0 rest comes.0 first.1, first.1, (rest, first.1)))

line_taken : (a b : Option (List ℕ)) (line : Vec ℕ) → ComesKnown (next.Line line) a b → TakenKnown a line.items b
line_taken None b line comes = tt
line_taken (Some text) None line comes = absurd comes
line_taken (Some text) (Some rest) line comes = comes

-- ---- the next line, as it is read

-- a line was read, and this is what it asks for
pub line_asked : (goes_on : Bool) (a b left : Option (List ℕ)) (line : Vec ℕ) (result : Result Asked RunFault) → ComesKnown (next.Line line) a b → AskedBy (said line.items) result →
    AskedOutcome goes_on a b left result
line_asked goes_on a b left line (Ok (asks.Request request)) comes is = (line.items, (line_taken a b line comes, is))
line_asked goes_on a b left line (Ok asks.Nothing) comes is = (line.items, (line_taken a b line comes, is))
line_asked goes_on a b left line (Ok (asks.Fault fault)) comes is = (line_faulty a b line fault comes is, λ on. (line.items, (line_taken a b line comes, is)))
line_asked goes_on a b left line (Ok asks.End) comes is = absurd is
line_asked goes_on a b left line (Err stops.Memory) comes is = tt
line_asked goes_on a b left line (Err stops.Read) comes is = absurd is
line_asked goes_on a b left line (Err stops.Write) comes is = absurd is
line_asked goes_on a b left line (Err stops.Stray) comes is = absurd is
line_asked goes_on a b left line (Err (stops.Open why)) comes is = absurd is
line_asked goes_on a b left line (Err (stops.Line m other)) comes is = absurd is

-- one that is too long is passed over
pub passed_over : (goes_on : Bool) (a m b : Option (List ℕ)) → ComesKnown next.TooLong a m → PassedKnown m b →
    FaultyKnown faults.TooLong a × (goes_on ≡ true → TakenSaying a (Err faults.TooLong) b)
passed_over goes_on a m b comes passed =
    let line = passed_known a m b comes passed in
    (too_long_faulty a m comes, λ on. (line.0, (line.1.1, line.1.0)))

-- or stays
pub left_there : (goes_on : Bool) (a m b : Option (List ℕ)) → ComesKnown next.TooLong a m → goes_on ≡ false →
    FaultyKnown faults.TooLong a × (goes_on ≡ true → TakenSaying a (Err faults.TooLong) b)
left_there goes_on a m b comes off = (too_long_faulty a m comes, λ on. absurd (cc (on, off)))

-- ---- the next line, answered

-- The result of line n, the next one of a text; the second text is left then. The third is left to be read, which
-- matters if reading fails.
abbrev pub LineMet : {S : Type 0} → Manner → ℕ → Machine S → S → S → (text rest left : Option (List ℕ)) →
    (before after : Option (List ℕ)) → Result Tone RunFault → Type 0
LineMet manner n serves s new text rest left before after (Ok tone) =
    (line : List ℕ) × (answer : Answer) ×
    (TakenKnown text line rest × Answers manner.goes_on serves s (said line) answer new ×
    (tone ≡ answer.tone) × Appends before after (framed manner.form n answer))
LineMet manner n serves s new text rest left before after (Err (stops.Line m fault)) =
    (m ≡ n) × FaultyKnown fault text × (manner.goes_on ≡ false) × (new ≡ s) × (after ≡ before)
LineMet manner n serves s new text rest left before after (Err stops.Read) =
    HeldKnown text left × (new ≡ s) × (after ≡ before)
LineMet manner n serves s new text rest left before after (Err stops.Write) =
    (line : List ℕ) × (answer : Answer) ×
    (NextKnown text line × Answers manner.goes_on serves s (said line) answer new ×
    AppendsSome before after (framed manner.form n answer))
LineMet manner n serves s new text rest left before after (Err (stops.Open fault)) = ⊥
LineMet manner n serves s new text rest left before after (Err stops.Memory) = after ≡ before
LineMet manner n serves s new text rest left before after (Err stops.Stray) = after ≡ before

taken_next : (text rest : Option (List ℕ)) (line : List ℕ) → TakenKnown text line rest → NextKnown text line
taken_next None rest line taken = tt
taken_next (Some text) None line taken = absurd taken
taken_next (Some text) (Some rest) line taken = (rest, taken)

module _ {S : Type 0} (manner : Manner) (n : ℕ) (serves : Machine S) (s : S) (a b left before after : Option (List ℕ)) where
  -- a request that was served is answered
  pub request_met : (new : S) (request : Request) (answer : Answer) (tone : Tone) (text : List ℕ) (result : Result Tone RunFault)
      → TakenSaying a (Ok (Some request)) b → serves s request answer new → tone ≡ answer.tone → text ≡ answer.text
      → PutOutcome (framed manner.form n (record { tone = tone; text = text })) tone before after result
      → LineMet manner n serves s new a b left before after result
  request_met new request answer tone text result taken given toned told put = go result put
    where
      same : framed manner.form n (record { tone = tone; text = text }) ≡ framed manner.form n answer
      same = ap₂ (λ (t : Tone) (x : List ℕ). framed manner.form n (record { tone = t; text = x })) toned told

      answers : Answers manner.goes_on serves s (said taken.0) answer new
      answers = subst (λ (says : Said). Answers manner.goes_on serves s says answer new) (sym taken.1.1) given

      go : (r : Result Tone RunFault) → PutOutcome (framed manner.form n (record { tone = tone; text = text })) tone before after r → LineMet manner n serves s new a b left before after r
      go (Ok back) is = (taken.0, answer, (taken.1.0, answers, is.0 ∙ toned, subst (λ (f : List ℕ). Appends before after f) same is.1))
      go (Err stops.Write) is = (taken.0, answer, (taken_next a b taken.0 taken.1.0, answers, subst (λ (f : List ℕ). AppendsSome before after f) same is))
      go (Err stops.Memory) is = is
      go (Err stops.Read) is = absurd is
      go (Err stops.Stray) is = absurd is
      go (Err (stops.Open fault)) is = absurd is
      go (Err (stops.Line m fault)) is = absurd is

  -- a line that says nothing
  pub nothing_met : TakenSaying a (Ok None) b → after ≡ before → LineMet manner n serves s s a b left before after (Ok tones.Done)
  nothing_met taken same = (
    taken.0,
    done [],
    (
      taken.1.0,
      subst (λ (says : Said). Answers manner.goes_on serves s says (done []) s) (sym taken.1.1) (refl, refl),
      refl,
      subst (λ (t : List ℕ). Appends before after t) (sym (framed_nothing manner.form n)) (subst (λ (x : Option (List ℕ)). Appends before x []) (sym same) (appends_none before)),
    ),
  )

  -- a line with a fault
  pub fault_met : (fault : LineFault) (result : Result Tone RunFault) → FaultyKnown fault a → (manner.goes_on ≡ true → TakenSaying a (Err fault) b)
      → FaultOutcome manner n fault before after result → LineMet manner n serves s s a b left before after result
  fault_met fault result faulty taken so = go result so
    where
      go : (r : Result Tone RunFault) → FaultOutcome manner n fault before after r → LineMet manner n serves s s a b left before after r
      go (Ok given) is =
          let line = taken is.0 in
          (line.0, fault_answer fault, (line.1.0, answers_fault manner.goes_on serves s (said line.0) fault is.0 line.1.1, is.1, is.2))
      go (Err (stops.Line m other)) is = (is.0, subst (λ (f : LineFault). FaultyKnown f a) (sym is.1) faulty, is.2, refl, is.3)
      go (Err stops.Write) is =
          let line = taken is.0 in
          (line.0, fault_answer fault, (taken_next a b line.0 line.1.0, answers_fault manner.goes_on serves s (said line.0) fault is.0 line.1.1, is.1))
      go (Err stops.Read) is = absurd is
      go (Err (stops.Open why)) is = absurd is
      go (Err stops.Memory) is = is
      go (Err stops.Stray) is = absurd is

  -- none was read
  pub unread_met : (stop : RunFault) → AskedOutcome manner.goes_on a b left (Err stop) → after ≡ before → LineMet manner n serves s s a b left before after (Err stop)
  unread_met stops.Read so same = (so, refl, same)
  unread_met stops.Memory so same = same
  unread_met stops.Write so same = absurd so
  unread_met stops.Stray so same = absurd so
  unread_met (stops.Open why) so same = absurd so
  unread_met (stops.Line m fault) so same = absurd so

  -- a request was not served
  pub unserved_met : (new : S) (fault : ServeFault) → after ≡ before → LineMet manner n serves s new a b left before after (Err (stop_of fault))
  unserved_met new unserved.Memory same = same
  unserved_met new unserved.Stray same = same

-- a line with a fault is answered if the script goes on
pub goes_on_then : (manner : Manner) (n : ℕ) (fault : LineFault) (before after : Option (List ℕ)) (result : Result Tone RunFault) → FaultOutcome manner n fault before after result → OnOk result (manner.goes_on ≡ true)
goes_on_then manner n fault before after (Ok given) so = so.0
goes_on_then manner n fault before after (Err stop) so = tt

pub on_ok : {A E P : Type 0} (r : Result A E) → P → OnOk r P
on_ok (Ok a) p = p
on_ok (Err e) p = tt

-- the devices after a line
pub reader_same : {A : Type 0} (r : Result A RunFault) (P : Type 0) → P → UnlessReaderFails r P
reader_same (Ok a) P p = p
reader_same (Err stops.Read) P p = tt
reader_same (Err stops.Write) P p = p
reader_same (Err stops.Memory) P p = p
reader_same (Err stops.Stray) P p = p
reader_same (Err (stops.Open fault)) P p = p
reader_same (Err (stops.Line n fault)) P p = p

pub writer_sound : {A : Type 0} (r : Result A RunFault) (x y z : Bool) → y ≡ z → UnlessWriterFails r (x ≡ y) → UnlessWriterFails r (x ≡ z)
writer_sound (Ok a) x y z e p = p ∙ e
writer_sound (Err stops.Write) x y z e p = tt
writer_sound (Err stops.Read) x y z e p = p ∙ e
writer_sound (Err stops.Memory) x y z e p = p ∙ e
writer_sound (Err stops.Stray) x y z e p = p ∙ e
writer_sound (Err (stops.Open fault)) x y z e p = p ∙ e
writer_sound (Err (stops.Line n fault)) x y z e p = p ∙ e

pub writer_same : (A B : Type 0) (stop : RunFault) (P : Type 0) → UnlessWriterFails {A = A} (Err stop) P → UnlessWriterFails {A = B} (Err stop) P
writer_same A B stops.Write P p = tt
writer_same A B stops.Read P p = p
writer_same A B stops.Memory P p = p
writer_same A B stops.Stray P p = p
writer_same A B (stops.Open fault) P p = p
writer_same A B (stops.Line n fault) P p = p

-- ---- a script

pub went_nothing : {S : Type 0} (manner : Manner) (serves : Machine S) (s : S) (a w : Option (List ℕ)) → Went manner serves s s a (prepend_known [] a) w w [] []
went_nothing manner serves s a w =
    record { wrote = record { read = (wrote_nothing serves s a w).read; answered = (refl, refl); written = appends_none w }; unrefused = λ strict. refl }

each_more : {S : Type 0} (goes_on : Bool) (serves : Machine S) (s : S) (lines : List (List ℕ)) (answers : List Answer) (mid : S) (line : List ℕ) (one : Answer) (new : S)
    → AnsweredEach goes_on serves s lines answers mid → Answers goes_on serves mid (said line) one new → AnsweredEach goes_on serves s (lines ++ line ∷ []) (answers ++ one ∷ []) new
each_more {S = S} goes_on serves s [] answers mid line one new before given =
    (new, one, [], subst (λ (m : S). Answers goes_on serves m (said line) one new) before.1 given, ap (λ (ts : List Answer). ts ++ one ∷ []) before.0, (refl, refl))
each_more {S = S} goes_on serves s (first ∷ lines) answers mid line one new before given = (
  before.0,
  before.1,
  before.2 ++ one ∷ [],
  before.3,
  ap (λ (ts : List Answer). ts ++ one ∷ []) before.4,
  each_more {S = S} goes_on serves before.0 lines before.2 mid line one new before.5 given,
)

taken_more : (input a b : Option (List ℕ)) (lines : List (List ℕ)) (line : List ℕ) → ReadKnown input lines a → TakenKnown a line b → ReadKnown input (lines ++ line ∷ []) b
taken_more None a b lines line read taken = tt
taken_more (Some text) None b lines line read taken = absurd read
taken_more (Some text) (Some rest) None lines line read taken = absurd taken
taken_more (Some text) (Some rest) (Some more) lines line read taken = read_more text lines rest line more read taken

each_length : {S : Type 0} (goes_on : Bool) (serves : Machine S) (s : S) (lines : List (List ℕ)) (answers : List Answer) (new : S)
    → AnsweredEach goes_on serves s lines answers new → length answers ≡ length lines
each_length goes_on serves s [] answers new so = ap (λ (ts : List Answer). length ts) so.0
each_length goes_on serves s (line ∷ lines) answers new so =
    ap (λ (ts : List Answer). length ts) so.4 ∙ ap (λ (k : ℕ). suc k) (each_length goes_on serves so.0 lines so.2 new so.5)

-- one answer more
frames_more : (form : Form) (n : ℕ) (answers : List Answer) (one : Answer) → frames form n (answers ++ one ∷ []) ≡ frames form n answers ++ framed form (n + length answers) one
frames_more form n [] one = append-nil (framed form n one) ∙ ap (λ (k : ℕ). framed form k one) (omega arith)
frames_more form n (first ∷ answers) one =
    let at : n + 1 + length answers ≡ n + length (first ∷ answers) = omega arith in
    ap (λ (t : List ℕ). framed form n first ++ t) (frames_more form (n + 1) answers one ∙ ap (λ (k : ℕ). frames form (n + 1) answers ++ framed form k one) at)
    ∙ sym (append_assoc (framed form n first) (frames form (n + 1) answers) (framed form (n + length (first ∷ answers)) one))

wrote_each_more : {S : Type 0} (manner : Manner) (serves : Machine S) (old mid new : S) (input a b before w after : Option (List ℕ)) (lines : List (List ℕ)) (answers : List Answer) (number : ℕ) (line : List ℕ) (one : Answer)
    → WroteEach manner serves old mid input a before w lines answers → number ≡ length lines + 1 → TakenKnown a line b → Answers manner.goes_on serves mid (said line) one new → Appends w after (framed manner.form number one)
    → WroteEach manner serves old new input b before after (lines ++ line ∷ []) (answers ++ one ∷ [])
wrote_each_more manner serves old mid new input a b before w after lines answers number line one so counted taken given appends =
    let at : number ≡ 1 + length answers = omega (arith, counted, each_length manner.goes_on serves old lines answers mid so.answered) in
    record {
      read = taken_more input a b lines line so.read taken;
      answered = each_more manner.goes_on serves old lines answers mid line one new so.answered given;
      written = subst (λ (t : List ℕ). Appends before after t) (sym (frames_more manner.form 1 answers one))
          (appends_twice before w after (frames manner.form 1 answers) (framed manner.form (1 + length answers) one) so.written (subst (λ (k : ℕ). Appends w after (framed manner.form k one)) at appends));
    }

none_more : (p : Answer → Bool) (answers : List Answer) (one : Answer) → list_any p answers ≡ false → p one ≡ false → list_any p (answers ++ one ∷ []) ≡ false
none_more p answers one h k = list_any-append p answers (one ∷ []) ∙ ap₂ (λ (a b : Bool). a || (b || false)) h k

or_false : (b : Bool) → (b || false) ≡ b
or_false true = refl
or_false false = refl

pub failed_more : (answers : List Answer) (one : Answer) → list_any is_failure (answers ++ one ∷ []) ≡ (list_any is_failure answers || is_failure one)
failed_more answers one = list_any-append is_failure answers (one ∷ []) ∙ ap (λ (b : Bool). list_any is_failure answers || b) (or_false (is_failure one))

not_both : (refused strict : Bool) → (refused && strict) ≡ false → strict ≡ true → refused ≡ false
not_both true strict h s = absurd (cc (h, s))
not_both false strict h s = refl

both_true : (a b : Bool) → (a && b) ≡ true → (a ≡ true) × (b ≡ true)
both_true true b h = (refl, h)
both_true false b h = absurd cc

pub went_more : {S : Type 0} (manner : Manner) (serves : Machine S) (old mid new : S) (input a b before w after : Option (List ℕ)) (lines : List (List ℕ)) (answers : List Answer) (number : ℕ) (line : List ℕ) (one : Answer)
    → Went manner serves old mid input a before w lines answers → number ≡ length lines + 1 → TakenKnown a line b → Answers manner.goes_on serves mid (said line) one new → Appends w after (framed manner.form number one)
    → (is_refusal one && manner.is_strict) ≡ false → Went manner serves old new input b before after (lines ++ line ∷ []) (answers ++ one ∷ [])
went_more manner serves old mid new input a b before w after lines answers number line one so counted taken given appends fine =
    record {
      wrote = wrote_each_more manner serves old mid new input a b before w after lines answers number line one so.wrote counted taken given appends;
      unrefused = λ strict. none_more is_refusal answers one (so.unrefused strict) (not_both (is_refusal one) manner.is_strict fine strict);
    }

-- the answer to the next line ends a strict script
pub refused_left : {S : Type 0} (manner : Manner) (serves : Machine S) (old mid new : S) (input a b left before w after : Option (List ℕ)) (lines : List (List ℕ)) (answers : List Answer) (number : ℕ) (tone : Tone)
    → Went manner serves old mid input a before w lines answers → number ≡ length lines + 1 → LineMet manner number serves mid new a b left w after (Ok tone)
    → (is_refused tone && manner.is_strict) ≡ true → Leaves manner serves old new input before after (endings.Refused number)
refused_left manner serves old mid new input a b left before w after lines answers number tone so counted (line, one, (taken, given, is, appends)) both =
    let so_both = both_true (is_refused tone) manner.is_strict both in (
      lines ++ line ∷ [],
      answers,
      one,
      b,
      (
        wrote_each_more manner serves old mid new input a b before w after lines answers number line one so.wrote counted taken given appends,
        so_both.1,
        so.unrefused so_both.1,
        sym (ap is_refused is) ∙ so_both.0,
        omega (arith, counted, length-append lines (line ∷ [])),
      ),
    )

pub refused_there : {S : Type 0} (manner : Manner) (serves : Machine S) (old mid new : S) (input a b left before w after : Option (List ℕ)) (lines : List (List ℕ)) (answers : List Answer) (number : ℕ) (tone : Tone)
    → Went manner serves old mid input a before w lines answers → number ≡ length lines + 1 → LineMet manner number serves mid new a b left w after (Ok tone)
    → (is_refused tone && manner.is_strict) ≡ true → MannerOutcome manner serves old input left before after (Ok (endings.Refused number))
refused_there manner serves old mid new input a b left before w after lines answers number tone so counted next both =
    (new, refused_left manner serves old mid new input a b left before w after lines answers number tone so counted next both)

module _ {S : Type 0} (manner : Manner) (serves : Machine S) (old mid : S) (input a before w : Option (List ℕ)) (lines : List (List ℕ)) (answers : List Answer) (went : Went manner serves old mid input a before w lines answers) where
  after_that : (after : Option (List ℕ)) → after ≡ w → Went manner serves old mid input a before after lines answers
  after_that after same = subst (λ (x : Option (List ℕ)). Went manner serves old mid input a before x lines answers) (sym same) went

  went_kept : (b after : Option (List ℕ)) → Keeps a b → after ≡ w → Went manner serves old mid input b before after lines answers
  went_kept b after kept same =
      let so = after_that after same in
      record { wrote = record { read = read_kept input a b lines so.wrote.read kept; answered = so.wrote.answered; written = so.wrote.written }; unrefused = so.unrefused }

  -- the script is at its end
  pub left_at_end : (failed : Bool) → failed ≡ list_any is_failure answers → IsEmptyKnown a → Leaves manner serves old mid input before w (ending_of failed)
  left_at_end true same empty = (lines, answers, a, (went, empty, sym same))
  left_at_end false same empty = (lines, answers, a, (went, empty, sym same))

  pub at_end : (left : Option (List ℕ)) (failed : Bool) → failed ≡ list_any is_failure answers → IsEmptyKnown a → MannerOutcome manner serves old input left before w (Ok (ending_of failed))
  at_end left failed same empty = (mid, left_at_end failed same empty)

  -- the script stops
  pub stopped : (new : S) (b left after : Option (List ℕ)) (number : ℕ) (stop : RunFault) → number ≡ length lines + 1 →
      LineMet manner number serves mid new a b left w after (Err stop) → MannerOutcome manner serves old input left before after (Err stop)
  stopped new b left after number (stops.Line m fault) counted so = (lines, answers, mid, a, (after_that after so.4, so.1, so.2, so.0 ∙ counted))
  stopped new b left after number stops.Read counted so = (lines, answers, mid, so.0.0, (went_kept (prepend_known so.0.0 left) after so.0.1.1 so.2, so.0.1.0))
  stopped new b left after number stops.Write counted so = (lines, answers, mid, a, w, so.1, (went, new, so.0, (so.2.0, so.2.1, subst (λ (k : ℕ). AppendsSome w after (framed manner.form k so.1)) counted so.2.2)))
  stopped new b left after number (stops.Open why) counted so = absurd so
  stopped new b left after number stops.Memory counted so = (lines, answers, mid, a, after_that after so)
  stopped new b left after number stops.Stray counted so = (lines, answers, mid, a, after_that after so)

-- ---- where no manner is asked for

speaks_plainly : {S : Type 0} (serves : Machine S) (s : S) (says : Said) (answer : Answer) (new : S) → Answers false serves s says answer new → Speaks serves s says answer new
speaks_plainly serves s (Ok None) answer new given = given
speaks_plainly serves s (Ok (Some request)) answer new given = given
speaks_plainly serves s (Err fault) answer new given = absurd given

answered_plainly : {S : Type 0} (serves : Machine S) (s : S) (lines : List (List ℕ)) (answers : List Answer) (new : S) → AnsweredEach false serves s lines answers new → Answered serves s lines answers new
answered_plainly serves s [] answers new so = so
answered_plainly serves s (line ∷ lines) answers new so =
    (so.0, so.1, so.2, speaks_plainly serves s (said line) so.1 so.0 so.3, so.4, answered_plainly serves so.0 lines so.2 new so.5)

plain_frames : (n : ℕ) (answers : List Answer) → frames forms.Plain n answers ≡ text_of answers
plain_frames n [] = refl
plain_frames n (answer ∷ answers) = ap (λ (t : List ℕ). answer.text ++ t) (plain_frames (n + 1) answers)

plainly : {S : Type 0} (manner : Manner) (serves : Machine S) (old new : S) (input rest before after : Option (List ℕ)) (lines : List (List ℕ)) (answers : List Answer) → manner.goes_on ≡ false → manner.form ≡ forms.Plain
    → Went manner serves old new input rest before after lines answers → Wrote serves old new input rest before after lines
plainly manner serves old new input rest before after lines answers off plain so =
    record {
      answers = answers;
      read = so.wrote.read;
      answered = answered_plainly serves old lines answers new (subst (λ (b : Bool). AnsweredEach b serves old lines answers new) off so.wrote.answered);
      written = subst (λ (t : List ℕ). Appends before after t) (ap (λ (f : Form). frames f 1 answers) plain ∙ plain_frames 1 answers) so.wrote.written;
    }

-- the result without a manner
abbrev pub as_before : Result Ending RunFault → Result (Unit {0}) RunFault
as_before (Ok ending) = Ok tt
as_before (Err fault) = Err fault

pub plain_outcome : {S : Type 0} (manner : Manner) (serves : Machine S) (old : S) (input left before after : Option (List ℕ)) (result : Result Ending RunFault) → manner.is_strict ≡ false → manner.goes_on ≡ false → manner.form ≡ forms.Plain
    → MannerOutcome manner serves old input left before after result → ScriptOutcome serves old input left before after (as_before result)
plain_outcome manner serves old input left before after (Ok endings.Whole) lax off plain (new, (lines, answers, rest, (went, empty, fine))) =
    (lines, new, rest, (plainly manner serves old new input rest before after lines answers off plain went, empty))
plain_outcome manner serves old input left before after (Ok endings.Failed) lax off plain (new, (lines, answers, rest, (went, empty, fails))) =
    (lines, new, rest, (plainly manner serves old new input rest before after lines answers off plain went, empty))
plain_outcome manner serves old input left before after (Ok (endings.Refused n)) lax off plain (new, (lines, answers, last, rest, (wrote, strict, none, refused, counted))) = absurd (cc (lax, strict))
plain_outcome manner serves old input left before after (Err (stops.Line n fault)) lax off plain (lines, answers, new, rest, (went, faulty, ends_there, counted)) =
    (lines, new, rest, (plainly manner serves old new input rest before after lines answers off plain went, faulty, counted))
plain_outcome manner serves old input left before after (Err stops.Read) lax off plain (lines, answers, new, held, (went, unended)) =
    (lines, new, held, (plainly manner serves old new input (prepend_known held left) before after lines answers off plain went, unended))
plain_outcome manner serves old input left before after (Err stops.Memory) lax off plain (lines, answers, new, rest, went) = (lines, new, rest, plainly manner serves old new input rest before after lines answers off plain went)
plain_outcome manner serves old input left before after (Err stops.Stray) lax off plain (lines, answers, new, rest, went) = (lines, new, rest, plainly manner serves old new input rest before after lines answers off plain went)
plain_outcome manner serves old input left before after (Err (stops.Open why)) lax off plain so = absurd so
plain_outcome {S} manner serves old input left before after (Err stops.Write) lax off plain (lines, answers, new, rest, mid, said_last, (went, last, line, (next, given, some))) = (
  lines,
  new,
  rest,
  mid,
  said_last,
  (
    plainly manner serves old new input rest before mid lines answers off plain went,
    last,
    line,
    (next, speaks_plainly serves new (said line) said_last last (subst (λ (b : Bool). Answers b serves new (said line) said_last last) off given), subst (λ (f : Form). AppendsSome mid after (framed f (length lines + 1) said_last)) plain some),
  ),
)
