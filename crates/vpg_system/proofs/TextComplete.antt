-- What a text spells is read.
use Rattle.std.proofs.Common.{◌≡◌, ℕ, ◌+◌, ◌<◌, Bool, true, false, ◌&&◌, nat_lt, nat_le, cond, List, [], ◌∷◌, ◌++◌, length, Result, Ok, Err, inl, inr, refl, sym, ap, ap₂, ◌∙◌, subst, arith, append_assoc, append-nil}
use Rattle.std.proofs.lemmas.Bool.{lt-ltb, le-leb}
use Rattle.std.proofs.lemmas.List.{length-append}
use Rattle.std.specs.Str.Lines.{lines}
use Rattle.vpg_features.specs.Names.{AreNames}
use Rattle.vpg_system.specs.SystemText.{Transition, NamedSystem, Header, SpellsHeader, Form, SpellsTransition, with_name, place_with, AreTransitions, not_blank, kept, header_of, IsWithin, IsTextOf}
use Rattle.vpg_system.specs.SystemReading.{Fault, TooMany, NoFirst, TooFew, checked, Seen, nothing, line_at, system_of, after_line, read_lines, after_header, header_at, read_header, reading}
use Rattle.vpg_system.specs.ReadCode.{IsReadingFault}
use Rattle.vpg_system.specs.declared.fault.SystemFault.{SystemFault}
use Rattle.vpg_system.specs.declared.fault.SystemFault.TheVariants as faults
use Rattle.vpg_system.proofs.Forms.{form_complete, header_complete, label_complete}
use Rattle.vpg_system.proofs.Steps.{added}
use Rattle.vpg_system.proofs.TextLemmas.{guard_complete, kept_blank, kept_here}

abbrev pub result_with : List (List ℕ) → Header → Seen → List Transition → List (List ℕ) → Result NamedSystem Fault
result_with features h seen ts all = Ok (record { features = length features; first = h.first; states = h.states; actions = all; transitions = seen.transitions ++ ts })

abbrev pub seen_more : Seen → List ℕ → Transition → Seen
seen_more seen name t = record { names = with_name seen.names name; transitions = seen.transitions ++ t ∷ [] }

same_action : (t : Transition) (a : ℕ) → t.action ≡ a → record { source = t.source; action = a; guard = t.guard; target = t.target } ≡ t
same_action t a e = ap (λ x. record { source = t.source; action = x; guard = t.guard; target = t.target }) (sym e)

module _ (features : List (List ℕ)) (names : AreNames features) (h : Header) (line : ℕ) where
  line_complete : (seen : Seen) (bytes name : List ℕ) (t : Transition) → length seen.transitions < h.count → SpellsTransition features bytes name t → t.source < h.states → t.target < h.states →
      t.action ≡ place_with seen.names name → line_at features h seen bytes ≡ Ok (seen_more seen name t)
  line_complete seen bytes name t m x s k a =
      let form : Form = record { source = t.source; label = x.label; target = t.target } in
      added features h seen bytes form (form_complete bytes form x.form_is) m (name, x.text) (label_complete x.label name x.text x.label_is) s k t.guard (guard_complete features x.text t.guard names x.guard_is)
      ∙ ap (λ y. Ok (seen_more seen name y)) (same_action t (place_with seen.names name) a)

  module _ (number : ℕ) (bytes : List ℕ) (rest : List (List ℕ)) (ih : (seen : Seen) (ts : List Transition) (all : List (List ℕ)) → AreTransitions features h.states seen.names (kept rest) ts all → length seen.transitions + length ts ≡ h.count → read_lines features h line (number + 1) rest seen ≡ result_with features h seen ts all) where
    here : (seen : Seen) (ts : List Transition) (all : List (List ℕ)) → not_blank bytes ≡ true → AreTransitions features h.states seen.names (bytes ∷ kept rest) ts all → length seen.transitions + length ts ≡ h.count → read_lines features h line number (bytes ∷ rest) seen ≡ result_with features h seen ts all
    here seen [] all w x n = absurd x
    here seen (t ∷ ts) all w x n =
        let m : length seen.transitions < h.count = omega (arith, n) in
        let l = length-append seen.transitions (t ∷ []) in
        ap (λ b. cond b (after_line number (line_at features h seen bytes) (read_lines features h line (number + 1) rest)) (read_lines features h line (number + 1) rest seen)) w
        ∙ (ap (λ r. after_line number r (read_lines features h line (number + 1) rest)) (line_complete seen bytes x.0 t m x.1 x.2 x.3 x.4)
        ∙ (ih (seen_more seen x.0 t) ts all x.5 (omega (arith, n, l))
        ∙ ap (λ us. Ok (record { features = length features; first = h.first; states = h.states; actions = all; transitions = us })) (append_assoc seen.transitions (t ∷ []) ts)))

    step : (b : Bool) → not_blank bytes ≡ b → (seen : Seen) (ts : List Transition) (all : List (List ℕ)) → AreTransitions features h.states seen.names (kept (bytes ∷ rest)) ts all → length seen.transitions + length ts ≡ h.count → read_lines features h line number (bytes ∷ rest) seen ≡ result_with features h seen ts all
    step true w seen ts all x n = here seen ts all w (subst (λ (ks : List (List ℕ)). AreTransitions features h.states seen.names ks ts all) (kept_here bytes rest w) x) n
    step false w seen ts all x n =
        ap (λ b. cond b (after_line number (line_at features h seen bytes) (read_lines features h line (number + 1) rest)) (read_lines features h line (number + 1) rest seen)) w
        ∙ ih seen ts all (subst (λ (ks : List (List ℕ)). AreTransitions features h.states seen.names ks ts all) (kept_blank bytes rest w) x) n

  lines_complete : (ls : List (List ℕ)) (number : ℕ) (seen : Seen) (ts : List Transition) (all : List (List ℕ)) → AreTransitions features h.states seen.names (kept ls) ts all → length seen.transitions + length ts ≡ h.count → read_lines features h line number ls seen ≡ result_with features h seen ts all
  lines_complete [] number seen [] all x n =
      ap (λ b. checked b (TooFew line) (Ok (system_of features h seen))) (le-leb h.count (length seen.transitions) (omega (arith, n)))
      ∙ ap₂ (λ ns us. Ok (record { features = length features; first = h.first; states = h.states; actions = ns; transitions = us })) x (sym (append-nil seen.transitions))
  lines_complete [] number seen (t ∷ ts) all x n = absurd x
  lines_complete (bytes ∷ rest) number seen ts all x n = step number bytes rest (lines_complete rest (number + 1)) (not_blank bytes) refl seen ts all x n

module _ (features : List (List ℕ)) (names : AreNames features) (s : NamedSystem) (over : s.features ≡ length features) (header : List ℕ) (others : List (List ℕ)) (head : SpellsHeader header (header_of s)) (good : IsWithin (header_of s)) (below : s.first < s.states)
    (walk : AreTransitions features s.states [] others s.transitions s.actions) where
  both : (a b : Bool) → a ≡ true → b ≡ true → (a && b) ≡ true
  both a b p q = ap (λ x. x && b) p ∙ q

  after : (number : ℕ) (rest : List (List ℕ)) → others ≡ kept rest → after_header features number (header_at header) rest ≡ Ok s
  after number rest e =
      let h = header_of s in
      ap (λ o. after_header features number o rest) (header_complete header h head)
      ∙ (ap (λ b. checked b (TooMany number) (checked (nat_lt h.first h.states) (NoFirst number) (read_lines features h number (number + 1) rest nothing)))
      (both (nat_le h.states 65536) (nat_le h.count 1048576) (le-leb h.states 65536 good.few_states) (le-leb h.count 1048576 good.few_transitions))
      ∙ (ap (λ b. checked b (NoFirst number) (read_lines features h number (number + 1) rest nothing)) (lt-ltb h.first h.states below)
      ∙ lines_complete features names h number rest (number + 1) nothing s.transitions s.actions (subst (λ (ks : List (List ℕ)). AreTransitions features s.states [] ks s.transitions s.actions) e walk) (omega arith)
      ∙ ap (λ n. Ok (record { features = n; first = s.first; states = s.states; actions = s.actions; transitions = s.transitions })) (sym over)))

  step_header : (number : ℕ) (bytes : List ℕ) (rest : List (List ℕ)) (b : Bool) → not_blank bytes ≡ b → (kept rest ≡ header ∷ others → read_header features (number + 1) rest ≡ Ok s) → kept (bytes ∷ rest) ≡ header ∷ others → read_header features number (bytes ∷ rest) ≡ Ok s
  step_header number bytes rest true w ih e =
      let q : ◌≡◌ {A = List (List ℕ)} (bytes ∷ kept rest) (header ∷ others) = sym (kept_here bytes rest w) ∙ e in
      let p : header ≡ bytes = cc in
      let r : others ≡ kept rest = cc in
      ap (λ t. cond t (after_header features number (header_at bytes) rest) (read_header features (number + 1) rest)) w
      ∙ (ap (λ x. after_header features number (header_at x) rest) (sym p) ∙ after number rest r)
  step_header number bytes rest false w ih e =
      ap (λ t. cond t (after_header features number (header_at bytes) rest) (read_header features (number + 1) rest)) w ∙ ih (sym (kept_blank bytes rest w) ∙ e)

  header_read : (ls : List (List ℕ)) (number : ℕ) → kept ls ≡ header ∷ others → read_header features number ls ≡ Ok s
  header_read [] number e = absurd (cc)
  header_read (bytes ∷ rest) number e = step_header number bytes rest (not_blank bytes) refl (header_read rest (number + 1)) e

pub text_complete : (features : List (List ℕ)) (text : List ℕ) (s : NamedSystem) → AreNames features → IsTextOf features text s → reading features text ≡ Ok s
text_complete features text s n t = header_read features n s t.features_are t.header t.others t.header_is t.within t.first_below t.others_are (lines text) 1 t.lines_are

module _ (features : List (List ℕ)) (text : List ℕ) (n : AreNames features) where
  pub read_as : (a s : NamedSystem) → reading features text ≡ Ok a → IsTextOf features text s → a ≡ s
  read_as a s e t = let r : ◌≡◌ {A = Result NamedSystem Fault} (Ok a) (Ok s) = sym e ∙ text_complete features text s n t in (cc)

  not_refused : (fault : Fault) (s : NamedSystem) → reading features text ≡ Err fault → IsTextOf features text s → ⊥
  not_refused fault s e t = let r : ◌≡◌ {A = Result NamedSystem Fault} (Err fault) (Ok s) = sym e ∙ text_complete features text s n t in absurd (cc)

  pub spelled_or_memory : (e : SystemFault) → IsReadingFault (reading features text) e → (s : NamedSystem) → IsTextOf features text s → e ≡ faults.Memory
  spelled_or_memory e (inl m) s t = m
  spelled_or_memory e (inr f) s t = absurd (not_refused f.0 s f.1 t)

pub fault_through : (a b : Result NamedSystem Fault) (e : SystemFault) → b ≡ a → IsReadingFault a e → IsReadingFault b e
fault_through a b e h (inl m) = inl m
fault_through a b e h (inr f) = inr (f.0, h ∙ f.1, f.2)

pub one_system : (features : List (List ℕ)) (text : List ℕ) (s t : NamedSystem) → AreNames features → IsTextOf features text s → IsTextOf features text t → s ≡ t
one_system features text s t n a b = read_as features text n s t (text_complete features text s n a) b
