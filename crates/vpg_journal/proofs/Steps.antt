-- Records are added in two steps: what each may leave, and what stands at the end.
use Rattle.std.proofs.Common.{◌≡◌, ◌<◌, ℕ, ◌+◌, List, [], ◌∷◌, ◌++◌, length, get_or, drop, refl, sym, ◌∙◌, ap, subst, arith, length-append, Vec}
use Rattle.std.proofs.lemmas.Grind.{flat_map-append}
use Rattle.sqlite_disk.specs.Disk.{Holds, Torn, Follows, Only}
use Rattle.vpg_journal.specs.Batch.{IsBatch}
use Rattle.vpg_journal.specs.Frames.{frame, frames, AreShort, records_of, texts}
use Rattle.std.specs.declared.alloc.Global.{Global}
use Rattle.vpg_journal.specs.Journal.{IsAtRest, IsBeforeOrAfter}
use Rattle.vpg_journal.proofs.Framing.{records_closed, short_append}
use Rattle.vpg_journal.proofs.Crash.{staged, written_behind, written_gate, stage_crash, gate_crash, at_rest, rested, rested_size}

module _ (file : List ℕ) (n : ℕ) (tail : List ℕ) (r : IsAtRest file n) where
  abbrev records : List (List ℕ)
  records = records_of file

  abbrev rest : List ℕ
  rest = drop (n + 1) file

  pub stage : (old new : List ℕ → Type 0) → Only file old → Follows (Torn (n + 1) (length tail)) old new → (c : List ℕ) → new c → records_of c ≡ records
  stage old new only follows c left =
      stage_crash records n (get_or file n 0) rest (rested_size file n r) r.closed (length tail) old new (subst (λ x. Only x old) (rested file n r) only) follows c left

  module _ (one : List ℕ) (torn : Torn (n + 1) (length tail) file one) (holds : Holds one (n + 1) tail) (batch : IsBatch (1 ∷ tail)) where
    abbrev news : List (List ℕ)
    news = records_of (1 ∷ tail)

    one_is : one ≡ staged records n (get_or file n 0) rest (rested_size file n r) r.closed tail
    one_is = written_behind records n (get_or file n 0) rest (rested_size file n r) r.closed tail one (subst (λ x. Torn (n + 1) (length tail) x one) (rested file n r) torn) holds

    pub gate : (old new : List ℕ → Type 0) → Only one old → Follows (Torn n 1) old new → (c : List ℕ) → new c → IsBeforeOrAfter records news c
    gate old new only follows c left =
        gate_crash records n (get_or file n 0) rest (rested_size file n r) r.closed news tail batch.whole old new (subst (λ x. Only x old) one_is only) follows c left

    size : length (frames (records ++ news)) ≡ n + length tail
    size = omega (arith, ap length (flat_map-append frame records news), length-append (frames records) (frames news), rested_size file n r, ap length batch.whole, length-append (frames news) (0 ∷ []))

    pub done : (two : List ℕ) → Torn n 1 one two → Holds two n (1 ∷ []) → IsAtRest two (n + length tail) × (records_of two ≡ records ++ news)
    done two torn2 holds2 =
        at_rest two (records ++ news) (n + length tail) 0 (drop (length tail) rest) (short_append records news r.short batch.short) size (omega arith)
        (written_gate records n (get_or file n 0) rest (rested_size file n r) r.closed news tail batch.whole two (subst (λ x. Torn n 1 x two) one_is torn2) holds2)

-- no batch is one byte
pub tail_some : (tail : List ℕ) → IsBatch (1 ∷ tail) → 0 < length tail
tail_some [] batch = absurd (batch.some refl)
tail_some (byte ∷ tail) batch = omega arith

-- a batch without its first byte
pub record Tail (records : List (List ℕ)) (tail : List ℕ) (size : ℕ) : Type 0 where
  pub batch : IsBatch (1 ∷ tail)
  pub same : records_of (1 ∷ tail) ≡ records
  pub long : length tail + 1 ≡ size

pub tail_of : (records : List (List ℕ)) (bytes tail : List ℕ) → 0 < length records → AreShort records → bytes ≡ frames records ++ 0 ∷ [] → tail ≡ drop 1 bytes → Tail records tail (length bytes)
tail_of [] bytes tail some short is rest = absurd (omega arith)
tail_of (text ∷ records) bytes tail some short is rest =
    let whole : 1 ∷ tail ≡ frames (text ∷ records) ++ 0 ∷ [] = ap (λ (l : List ℕ). 1 ∷ l) (rest ∙ ap (drop 1) is) in
    let same : records_of (1 ∷ tail) ≡ text ∷ records = ap records_of whole ∙ records_closed (text ∷ records) 0 [] (omega arith) in
    record {
      batch = record {
        some = λ none. absurd (omega (arith, ap length (sym same ∙ none)));
        short = subst AreShort (sym same) short;
        whole = whole ∙ ap (λ (ts : List (List ℕ)). frames ts ++ 0 ∷ []) (sym same);
      };
      same = same;
      long = omega (arith, ap length whole, ap length is);
    }

pub texts_some : (records : List (Vec ℕ Global)) → 0 < length records → 0 < length (texts records)
texts_some [] some = some
texts_some (v ∷ records) some = omega arith
