-- A run, one line more.
use Rattle.std.proofs.Common.{◌≡◌, ℕ, List, [], ◌∷◌, ◌++◌, Option, Some, None, Err, refl, sym, ap, ◌∙◌, inl, inr, append_assoc, append-nil, subst}
use Rattle.std.specs.Io.KnownBytes.{prepend_known, Appends, Keeps}
use Rattle.std.specs.Global.{Vec}
use Rattle.vpg_script.specs.Script.{said}
use Rattle.vpg_script.specs.declared.lines.Next.TheVariants as next
use Rattle.vpg_script.specs.declared.command.LineFault.{LineFault}
use Rattle.vpg_script.specs.declared.command.LineFault.TheVariants as faults
use Rattle.vpg_script.specs.Lines.{ComesKnown, NextLine, ReadLines}
use Rattle.vpg_script.specs.Output.{Machine, ReadKnown, Wrote, NextKnown, FaultyKnown}

pub appends_none : (a : Option (List ℕ)) → Appends a a []
appends_none None = tt
appends_none (Some x) = sym (append-nil x)

pub appends_twice : (a b c : Option (List ℕ)) (bs cs : List ℕ) → Appends a b bs → Appends b c cs → Appends a c (bs ++ cs)
appends_twice None b c bs cs p q = tt
appends_twice (Some x) None c bs cs p q = absurd p
appends_twice (Some x) (Some y) None bs cs p q = absurd q
appends_twice (Some x) (Some y) (Some z) bs cs p q = q ∙ ap (λ (l : List ℕ). l ++ cs) p ∙ append_assoc x bs cs

pub read_more : (text : List ℕ) (lines : List (List ℕ)) (rest line more : List ℕ) → ReadLines text lines rest → NextLine rest line more → ReadLines text (lines ++ line ∷ []) more
read_more text [] rest line more read comes = (more, rw read comes, refl)
read_more text (first ∷ lines) rest line more read comes = (read.0, read.1, read_more read.0 lines rest line more read.2 comes)

pub wrote_nothing : {S : Type 0} (serves : Machine S) (s : S) (a w : Option (List ℕ)) → Wrote serves s s a (prepend_known [] a) w w []
wrote_nothing serves s a w = record { answers = []; read = start a; answered = (refl, refl); written = appends_none w }
  where
    start : (b : Option (List ℕ)) → ReadKnown b [] (prepend_known [] b)
    start None = tt
    start (Some text) = refl

pub next_known : (a b : Option (List ℕ)) (line : Vec ℕ) → ComesKnown (next.Line line) a b → NextKnown a line.items
next_known None b line comes = tt
next_known (Some text) None line comes = absurd comes
next_known (Some text) (Some rest) line comes = (rest, comes)

pub too_long_faulty : (a b : Option (List ℕ)) → ComesKnown next.TooLong a b → FaultyKnown faults.TooLong a
too_long_faulty None b comes = tt
too_long_faulty (Some text) None comes = absurd comes
too_long_faulty (Some text) (Some rest) comes = inr (refl, comes.0)

pub line_faulty : (a b : Option (List ℕ)) (line : Vec ℕ) (fault : LineFault) → ComesKnown (next.Line line) a b → said line.items ≡ Err fault → FaultyKnown fault a
line_faulty None b line fault comes is = tt
line_faulty (Some text) None line fault comes is = absurd comes
line_faulty (Some text) (Some rest) line fault comes is = inl (line.items, rest, (comes, is))

pub read_kept : (input a b : Option (List ℕ)) (lines : List (List ℕ)) → ReadKnown input lines a → Keeps a b → ReadKnown input lines b
read_kept None a b lines read kept = tt
read_kept (Some text) None b lines read kept = absurd read
read_kept (Some text) (Some rest) None lines read kept = absurd kept
read_kept (Some text) (Some rest) (Some more) lines read kept = subst (λ (r : List ℕ). ReadLines text lines r) (sym kept) read
