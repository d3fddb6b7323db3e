-- A text is read as a system just where it spells one.
use Rattle.std.proofs.Common.{◌≡◌, ℕ, ◌+◌, ◌<◌, ◌≤◌, Bool, true, false, ◌&&◌, nat_lt, nat_le, cond, List, [], ◌∷◌, ◌++◌, length, Option, Some, None, Result, Ok, Err, refl, sym, ap, ap₂, ◌∙◌, subst, arith, append_assoc, append-nil}
use Rattle.std.proofs.lemmas.Bool.{ltb-true, leb-true}
use Rattle.std.proofs.lemmas.List.{length-append}
use Rattle.std.specs.Str.Lines.{lines}
use Rattle.vpg_features.specs.Names.{AreNames}
use Rattle.vpg_guards.specs.Formula.{Formula, always}
use Rattle.vpg_guards.proofs.Again.{guard_again}
use Rattle.vpg_guards.proofs.Found.{guard_found}
use Rattle.vpg_system.specs.SystemText.{Transition, NamedSystem, Header, SpellsHeader, Form, SpellsGuard, place_with, AreTransitions, not_blank, kept, header_of, IsWithin, IsTextOf}
use Rattle.vpg_system.specs.SystemReading.{Refusal, Beyond, NotState, TooMany, NoFirst, TooFew, checked, form_of, label_of, guard_of, Seen, nothing, seen_with, after_guard, after_label, after_form, line_at, system_of, after_line, read_lines, is_within, after_header, header_at, read_header, reading}
use Rattle.vpg_system.proofs.Forms.{and_true, form_sound, header_sound, label_sound}

pub checked_ok : {A E : Type 0} (b : Bool) (fault : E) (r : Result A E) (x : A) → checked b fault r ≡ Ok x → (b ≡ true) × (r ≡ Ok x)
checked_ok true fault r x e = (refl, e)
checked_ok false fault r x e = absurd (cc)

pub guard_sound : (features : List (List ℕ)) (text : Option (List ℕ)) (g : Formula) → guard_of features text ≡ Some g → SpellsGuard features text g
guard_sound features None g e = (let w : g ≡ always = cc in w)
guard_sound features (Some t) g e = guard_found features t g e

pub guard_complete : (features : List (List ℕ)) (text : Option (List ℕ)) (g : Formula) → AreNames features → SpellsGuard features text g → guard_of features text ≡ Some g
guard_complete features None g n s = ap (λ x. Some x) (sym s)
guard_complete features (Some t) g n s = guard_again features t g n s

-- what a line that is read says
pub record IsLineOf (features : List (List ℕ)) (h : Header) (seen : Seen) (bytes : List ℕ) (after : Seen) : Type 0 where
  pub form : Form
  pub name : List ℕ
  pub text : Option (List ℕ)
  pub g : Formula
  pub form_is : form_of bytes ≡ Some form
  pub fewer : length seen.transitions < h.count
  pub label_is : label_of form.label ≡ Some (name, text)
  pub source_below : form.source < h.states
  pub target_below : form.target < h.states
  pub guard_is : guard_of features text ≡ Some g
  pub after_is : seen_with seen form name g ≡ after

module _ (features : List (List ℕ)) (h : Header) (seen : Seen) (bytes : List ℕ) (after : Seen) where
  guard_step : (form : Form) (l : List ℕ × Option (List ℕ)) (o : Option Formula) → form_of bytes ≡ Some form → length seen.transitions < h.count → label_of form.label ≡ Some l →
      form.source < h.states → form.target < h.states → guard_of features l.1 ≡ o → after_guard seen bytes form l.0 o ≡ Ok after → IsLineOf features h seen bytes after
  guard_step form l None f m n s t k e = absurd (cc)
  guard_step form l (Some g) f m n s t k e =
      record { form = form; name = l.0; text = l.1; g = g; form_is = f; fewer = m; label_is = n; source_below = s; target_below = t; guard_is = k; after_is = (cc) }

  label_step : (form : Form) (o : Option (List ℕ × Option (List ℕ))) → form_of bytes ≡ Some form → length seen.transitions < h.count → label_of form.label ≡ o →
      after_label features h seen bytes form o ≡ Ok after → IsLineOf features h seen bytes after
  label_step form None f m n e = absurd (cc)
  label_step form (Some l) f m n e =
      let c = checked_ok (nat_lt form.source h.states && nat_lt form.target h.states) NotState (after_guard seen bytes form l.0 (guard_of features l.1)) after e in
      let b = and_true (nat_lt form.source h.states) (nat_lt form.target h.states) c.0 in
      guard_step form l (guard_of features l.1) f m n (ltb-true form.source h.states b.0) (ltb-true form.target h.states b.1) refl c.1

  form_step : (o : Option Form) → form_of bytes ≡ o → after_form features h seen bytes o ≡ Ok after → IsLineOf features h seen bytes after
  form_step None f e = absurd (cc)
  form_step (Some form) f e =
      let c = checked_ok (nat_lt (length seen.transitions) h.count) Beyond (after_label features h seen bytes form (label_of form.label)) after e in
      label_step form (label_of form.label) f (ltb-true (length seen.transitions) h.count c.0) refl c.1

  pub line_sound : line_at features h seen bytes ≡ Ok after → IsLineOf features h seen bytes after
  line_sound e = form_step (form_of bytes) refl e

-- what lines that are read say
record AreRead (features : List (List ℕ)) (h : Header) (seen : Seen) (ls : List (List ℕ)) (s : NamedSystem) : Type 0 where
  ts : List Transition
  walk : AreTransitions features h.states seen.names (kept ls) ts s.actions
  all : s.transitions ≡ seen.transitions ++ ts
  first_is : h.first ≡ s.first
  states_is : h.states ≡ s.states
  count_is : h.count ≡ length s.transitions
  over : s.features ≡ length features

pub kept_blank : (bytes : List ℕ) (rest : List (List ℕ)) → not_blank bytes ≡ false → kept (bytes ∷ rest) ≡ kept rest
kept_blank bytes rest e = ap (λ t. cond t (bytes ∷ kept rest) (kept rest)) e

pub kept_here : (bytes : List ℕ) (rest : List (List ℕ)) → not_blank bytes ≡ true → kept (bytes ∷ rest) ≡ bytes ∷ kept rest
kept_here bytes rest e = ap (λ t. cond t (bytes ∷ kept rest) (kept rest)) e

module _ (features : List (List ℕ)) (h : Header) (line : ℕ) where
  module _ (number : ℕ) (bytes : List ℕ) (rest : List (List ℕ)) (s : NamedSystem) (ih : (seen : Seen) → length seen.transitions ≤ h.count → read_lines features h line (number + 1) rest seen ≡ Ok s → AreRead features h seen rest s) (seen : Seen) (few : length seen.transitions ≤ h.count) where
    here_sound : (r : Result Seen Refusal) → not_blank bytes ≡ true → line_at features h seen bytes ≡ r → after_line number r (read_lines features h line (number + 1) rest) ≡ Ok s → AreRead features h seen (bytes ∷ rest) s
    here_sound (Err x) w e k = absurd (cc)
    here_sound (Ok after) w e k =
        let x = line_sound features h seen bytes after e in
        let f = form_sound bytes x.form x.form_is in
        let t : Transition = record { source = x.form.source; action = place_with seen.names x.name; guard = x.g; target = x.form.target } in
        let n : length (seen.transitions ++ t ∷ []) ≤ h.count = (let l = length-append seen.transitions (t ∷ []) in let m = x.fewer in omega (arith, l, m)) in
        let r = ih (seen_with seen x.form x.name x.g) n (ap (read_lines features h line (number + 1) rest) x.after_is ∙ k) in
        record {
          ts = t ∷ r.ts;
          walk = subst (λ (ks : List (List ℕ)). AreTransitions features h.states seen.names ks (t ∷ r.ts) s.actions) (sym (kept_here bytes rest w)) (
            x.name,
            record { label = x.form.label; text = x.text; form_is = f; label_is = label_sound x.form.label (x.name, x.text) x.label_is; guard_is = guard_sound features x.text x.g x.guard_is },
            x.source_below,
            x.target_below,
            refl,
            r.walk,
          );
          all = r.all ∙ append_assoc seen.transitions (t ∷ []) r.ts;
          first_is = r.first_is;
          states_is = r.states_is;
          count_is = r.count_is;
          over = r.over;
        }

    step_sound : (b : Bool) → not_blank bytes ≡ b → cond b (after_line number (line_at features h seen bytes) (read_lines features h line (number + 1) rest)) (read_lines features h line (number + 1) rest seen) ≡ Ok s → AreRead features h seen (bytes ∷ rest) s
    step_sound true w e = here_sound (line_at features h seen bytes) w refl e
    step_sound false w e =
        let r = ih seen few e in
        record {
          ts = r.ts;
          walk = subst (λ (ks : List (List ℕ)). AreTransitions features h.states seen.names ks r.ts s.actions) (sym (kept_blank bytes rest w)) r.walk;
          all = r.all;
          first_is = r.first_is;
          states_is = r.states_is;
          count_is = r.count_is;
          over = r.over;
        }

  lines_sound : (ls : List (List ℕ)) (number : ℕ) (s : NamedSystem) (seen : Seen) → length seen.transitions ≤ h.count → read_lines features h line number ls seen ≡ Ok s → AreRead features h seen ls s
  lines_sound [] number s seen few e =
      let c = checked_ok (nat_le h.count (length seen.transitions)) (TooFew line) (Ok (system_of features h seen)) s e in
      let l = leb-true h.count (length seen.transitions) c.0 in
      let w : system_of features h seen ≡ s = (let k = c.1 in cc) in
      subst (AreRead features h seen []) w (record { ts = []; walk = refl; all = sym (append-nil seen.transitions); first_is = refl; states_is = refl; count_is = omega (arith, l, few); over = refl })
  lines_sound (bytes ∷ rest) number s seen few e = step_sound number bytes rest s (lines_sound rest (number + 1) s) seen few (not_blank bytes) refl e

header_same : (h : Header) (a b c : ℕ) → h.first ≡ a → h.count ≡ b → h.states ≡ c → h ≡ record { first = a; count = b; states = c }
header_same h a b c p q r =
    ap (λ x. record { first = x; count = h.count; states = h.states }) p ∙ (ap₂ (λ x y. record { first = a; count = x; states = y }) q r)

-- what lines from the header on say
pub record HasLines (features : List (List ℕ)) (ls : List (List ℕ)) (s : NamedSystem) : Type 0 where
  pub header : List ℕ
  pub others : List (List ℕ)
  pub lines_are : kept ls ≡ header ∷ others
  pub header_is : SpellsHeader header (header_of s)
  pub within : IsWithin (header_of s)
  pub first_below : s.first < s.states
  pub others_are : AreTransitions features s.states [] others s.transitions s.actions
  pub over : s.features ≡ length features

module _ (features : List (List ℕ)) where
  after_sound : (number : ℕ) (bytes : List ℕ) (rest : List (List ℕ)) (s : NamedSystem) (o : Option Header) → not_blank bytes ≡ true → header_at bytes ≡ o → after_header features number o rest ≡ Ok s → HasLines features (bytes ∷ rest) s
  after_sound number bytes rest s None w k e = absurd (cc)
  after_sound number bytes rest s (Some h) w k e =
      let c = checked_ok (is_within h) (TooMany number) (checked (nat_lt h.first h.states) (NoFirst number) (read_lines features h number (number + 1) rest nothing)) s e in
      let d = checked_ok (nat_lt h.first h.states) (NoFirst number) (read_lines features h number (number + 1) rest nothing) s c.1 in
      let b = and_true (nat_le h.states 65536) (nat_le h.count 1048576) c.0 in
      let r = lines_sound features h number rest (number + 1) s nothing (omega arith) d.1 in
      let same = header_same h s.first (length s.transitions) s.states r.first_is r.count_is r.states_is in
      let good : IsWithin h = record { few_states = leb-true h.states 65536 b.0; few_transitions = leb-true h.count 1048576 b.1 } in
      let below : h.first < h.states = ltb-true h.first h.states d.0 in
      record {
        over = r.over;
        header = bytes;
        others = kept rest;
        lines_are = kept_here bytes rest w;
        header_is = subst (SpellsHeader bytes) same (header_sound bytes h k);
        within = subst IsWithin same good;
        first_below = subst (λ (x : Header). x.first < x.states) same below;
        others_are = subst (λ (n : ℕ). AreTransitions features n [] (kept rest) s.transitions s.actions) r.states_is
            (subst (λ (ts : List Transition). AreTransitions features h.states [] (kept rest) ts s.actions) (sym r.all) r.walk);
      }

  header_step : (number : ℕ) (bytes : List ℕ) (rest : List (List ℕ)) (s : NamedSystem) (b : Bool) → (read_header features (number + 1) rest ≡ Ok s → HasLines features rest s) → not_blank bytes ≡ b →
      cond b (after_header features number (header_at bytes) rest) (read_header features (number + 1) rest) ≡ Ok s → HasLines features (bytes ∷ rest) s
  header_step number bytes rest s true ih w e = after_sound number bytes rest s (header_at bytes) w refl e
  header_step number bytes rest s false ih w e =
      let r = ih e in
      record { header = r.header; others = r.others; lines_are = kept_blank bytes rest w ∙ r.lines_are; header_is = r.header_is; within = r.within; first_below = r.first_below; others_are = r.others_are; over = r.over }

  header_lines : (ls : List (List ℕ)) (number : ℕ) (s : NamedSystem) → read_header features number ls ≡ Ok s → HasLines features ls s
  header_lines [] number s e = absurd (cc)
  header_lines (bytes ∷ rest) number s e = header_step number bytes rest s (not_blank bytes) (header_lines rest (number + 1) s) refl e

  pub text_sound : (text : List ℕ) (s : NamedSystem) → reading features text ≡ Ok s → IsTextOf features text s
  text_sound text s e =
      let r = header_lines (lines text) 1 s e in
      record { header = r.header; others = r.others; lines_are = r.lines_are; header_is = r.header_is; within = r.within; first_below = r.first_below; others_are = r.others_are; features_are = r.over }
