-- The forms of lines are read just where they are spelled.
use Rattle.std.proofs.Common.{◌≡◌, ℕ, Bool, true, false, ◌&&◌, ◌==◌, cond, List, [], ◌∷◌, ◌++◌, Option, Some, None, codes, bytes_eq, inl, inr, refl, sym, ap, ap₂, ◌∙◌, subst, eqb-true}
use Rattle.std.specs.Prelude.{is_some}
use Rattle.std.specs.Str.Parse.{digits_value}
use Rattle.vpg_features.proofs.Held.{eq_bytes, same_bytes}
use Rattle.vpg_system.specs.SystemText.{Header, SpellsHeader, SpellsLabel, Form, SpellsForm, is_nonempty, is_numeral, words, lacks, trimmed, is_closed, HasName}
use Rattle.vpg_system.specs.SystemReading.{cut, cut_last, before_end, numeral_if, between, source_of, middle_of, target_of, two, opened, closed, opening, closing, unquoted, label_in, make_form, form_ended, form_begun, form_of, make_header, header_in, header_at, named, guarded, name_in, label_of}
use Rattle.vpg_system.proofs.Cuts.{first_found, first_joined, last_found, last_joined, end_found, end_joined, closed_is}

pub if_some : {A : Type 0} (b : Bool) (o : Option A) (x : A) → cond b o None ≡ Some x → (b ≡ true) × (o ≡ Some x)
if_some true o x e = (refl, e)
if_some false o x e = absurd (cc)

pub and_true : (a b : Bool) → (a && b) ≡ true → (a ≡ true) × (b ≡ true)
and_true true b e = (refl, e)
and_true false b e = absurd (cc)

both : (a b : Bool) → a ≡ true → b ≡ true → (a && b) ≡ true
both a b p q = ap (λ x. x && b) p ∙ q

numeral_some : (b : Bool) (d x : List ℕ) → numeral_if b d ≡ Some x → (b ≡ true) × (d ≡ x)
numeral_some true d x e = (refl, (cc))
numeral_some false d x e = absurd (cc)

record StandsBetween (left right l d r x : List ℕ) : Type 0 where
  left_is : l ≡ left
  right_is : r ≡ right
  digits_are : d ≡ x
  numeral : is_numeral x ≡ true

between_sound : (left right l d r x : List ℕ) → between left right l d r ≡ Some x → StandsBetween left right l d r x
between_sound left right l d r x e =
    let p = numeral_some (bytes_eq l left && is_numeral d && bytes_eq r right) d x e in
    let q = and_true (bytes_eq l left && is_numeral d) (bytes_eq r right) p.0 in
    let s = and_true (bytes_eq l left) (is_numeral d) q.0 in
    record { left_is = eq_bytes l left s.0; right_is = eq_bytes r right q.1; digits_are = p.1; numeral = subst (λ y. is_numeral y ≡ true) p.1 s.1 }

between_complete : (left right d : List ℕ) → is_numeral d ≡ true → between left right left d right ≡ Some d
between_complete left right d n =
    ap (λ b. numeral_if b d) (both (bytes_eq left left && is_numeral d) (bytes_eq right right) (both (bytes_eq left left) (is_numeral d) (same_bytes left left refl) n) (same_bytes right right refl))

-- two words
two_sound : (ws : List (List ℕ)) (p : List ℕ × List ℕ) → two ws ≡ Some p → ws ≡ p.0 ∷ p.1 ∷ []
two_sound [] p e = absurd (cc)
two_sound (a ∷ []) p e = absurd (cc)
two_sound (a ∷ b ∷ []) p e = let q : (a, b) ≡ p = cc in subst (λ (z : List ℕ × List ℕ). a ∷ b ∷ [] ≡ z.0 ∷ z.1 ∷ []) q refl
two_sound (a ∷ b ∷ c ∷ cs) p e = absurd (cc)

opened_sound : (ws : List (List ℕ)) (o : Option (List ℕ × List ℕ)) (x : List ℕ) → two ws ≡ o → opened o ≡ Some x → (ws ≡ codes "(" ∷ x ∷ []) × (is_numeral x ≡ true)
opened_sound ws None x w e = absurd (cc)
opened_sound ws (Some p) x w e =
    let n = numeral_some (bytes_eq p.0 (codes "(") && is_numeral p.1) p.1 x e in
    let b = and_true (bytes_eq p.0 (codes "(")) (is_numeral p.1) n.0 in
    let s = eq_bytes p.0 (codes "(") b.0 in
    (two_sound ws p w ∙ ap₂ (λ y z. y ∷ z ∷ []) s n.1, subst (λ (y : List ℕ). is_numeral y ≡ true) n.1 b.1)

closed_sound : (ws : List (List ℕ)) (o : Option (List ℕ × List ℕ)) (x : List ℕ) → two ws ≡ o → closed o ≡ Some x → (ws ≡ x ∷ codes ")" ∷ []) × (is_numeral x ≡ true)
closed_sound ws None x w e = absurd (cc)
closed_sound ws (Some p) x w e =
    let n = numeral_some (is_numeral p.0 && bytes_eq p.1 (codes ")")) p.0 x e in
    let b = and_true (is_numeral p.0) (bytes_eq p.1 (codes ")")) n.0 in
    let s = eq_bytes p.1 (codes ")") b.1 in
    (two_sound ws p w ∙ ap₂ (λ y z. y ∷ z ∷ []) n.1 s, subst (λ (y : List ℕ). is_numeral y ≡ true) n.1 b.0)

opening_complete : (text x : List ℕ) → words text ≡ codes "(" ∷ x ∷ [] → is_numeral x ≡ true → opening text ≡ Some x
opening_complete text x w n =
    ap (λ ws. opened (two ws)) w ∙ ap (λ b. numeral_if b x) (both (bytes_eq (codes "(") (codes "(")) (is_numeral x) refl n)

closing_complete : (text x : List ℕ) → words text ≡ x ∷ codes ")" ∷ [] → is_numeral x ≡ true → closing text ≡ Some x
closing_complete text x w n =
    ap (λ ws. closed (two ws)) w ∙ ap (λ b. numeral_if b x) (both (is_numeral x) (bytes_eq (codes ")") (codes ")")) n refl)

-- labels between commas
quoted_sound : (text label : List ℕ) → unquoted text ≡ Some label → text ≡ 34 ∷ (label ++ 34 ∷ [])
quoted_sound [] label e = absurd (cc)
quoted_sound (b ∷ bs) label e =
    let p = if_some (b == 34) (before_end 34 bs) label e in
    ap₂ (λ x xs. x ∷ xs) (eqb-true b 34 p.0) (end_found 34 bs label p.1)

bare_or_quoted : (text label : List ℕ) (t : Bool) → lacks 34 text ≡ t → cond t (cond (lacks 44 text) (Some text) None) (unquoted text) ≡ Some label → SpellsLabel text label
bare_or_quoted text label true l e =
    let p = if_some (lacks 44 text) (Some text) label e in
    let s : text ≡ label = (let q = p.1 in cc) in
    inl (s, subst (λ (x : List ℕ). lacks 34 x ≡ true) s l, subst (λ (x : List ℕ). lacks 44 x ≡ true) s p.0)
bare_or_quoted text label false l e = inr (quoted_sound text label e)

label_in_sound : (text label : List ℕ) → label_in text ≡ Some label → SpellsLabel text label
label_in_sound text label e = bare_or_quoted text label (lacks 34 text) refl e

label_in_complete : (text label : List ℕ) → SpellsLabel text label → label_in text ≡ Some label
label_in_complete text label (inl s) =
    ap label_in s.0 ∙ (ap (λ b. cond b (cond (lacks 44 label) (Some label) None) (unquoted label)) s.1 ∙ ap (λ b. cond b (Some label) None) s.2)
label_in_complete text label (inr s) = ap label_in s ∙ end_joined 34 label

-- forms
record IsMade (a l b : Option (List ℕ)) (form : Form) : Type 0 where
  source : List ℕ
  target : List ℕ
  source_is : a ≡ Some source
  label_is : l ≡ Some form.label
  target_is : b ≡ Some target
  source_value : digits_value 10 source ≡ form.source
  target_value : digits_value 10 target ≡ form.target

make_sound : (a l b : Option (List ℕ)) (form : Form) → make_form a l b ≡ Some form → IsMade a l b form
make_sound (Some a) (Some l) (Some b) form e =
    let q : record { source = digits_value 10 a; label = l; target = digits_value 10 b } ≡ form = cc in
    subst (IsMade (Some a) (Some l) (Some b)) q (record { source = a; target = b; source_is = refl; label_is = refl; target_is = refl; source_value = refl; target_value = refl })
make_sound (Some a) (Some l) None form e = absurd (cc)
make_sound (Some a) None b form e = absurd (cc)
make_sound None l b form e = absurd (cc)

ended_sound : (bytes front behind : List ℕ) (o : Option (List ℕ × List ℕ)) (form : Form) → cut 44 bytes ≡ Some (front, behind) → cut_last 44 behind ≡ o → form_ended front o ≡ Some form → SpellsForm bytes form
ended_sound bytes front behind None form p q e = absurd (cc)
ended_sound bytes front behind (Some x) form p q e =
    let m = make_sound (opening front) (label_in (trimmed x.0)) (closing x.1) form e in
    let i = first_found 44 bytes (front, behind) p in
    let j = last_found 44 behind x q in
    let s = opened_sound (words front) (two (words front)) m.source refl m.source_is in
    let t = closed_sound (words x.1) (two (words x.1)) m.target refl m.target_is in
    record {
      front = front;
      middle = x.0;
      back = x.1;
      source = m.source;
      target = m.target;
      line_is = i.0 ∙ ap (λ y. front ++ 44 ∷ y) j.0;
      first = i.1;
      last = j.1;
      front_is = s.0;
      back_is = t.0;
      source_is = record { numeral = s.1; value = m.source_value };
      label_is = label_in_sound (trimmed x.0) form.label m.label_is;
      target_is = record { numeral = t.1; value = m.target_value };
    }

begun_sound : (bytes : List ℕ) (o : Option (List ℕ × List ℕ)) (form : Form) → cut 44 bytes ≡ o → form_begun o ≡ Some form → SpellsForm bytes form
begun_sound bytes None form p e = absurd (cc)
begun_sound bytes (Some x) form p e = ended_sound bytes x.0 x.1 (cut_last 44 x.1) form p refl e

pub form_sound : (bytes : List ℕ) (form : Form) → form_of bytes ≡ Some form → SpellsForm bytes form
form_sound bytes form e = begun_sound bytes (cut 44 bytes) form refl e

make_complete : (x l y : List ℕ) (a b : ℕ) → digits_value 10 x ≡ a → digits_value 10 y ≡ b → make_form (Some x) (Some l) (Some y) ≡ Some (record { source = a; label = l; target = b })
make_complete x l y a b p q = ap₂ (λ k n. Some (record { source = k; label = l; target = n })) p q

pub form_complete : (bytes : List ℕ) (form : Form) → SpellsForm bytes form → form_of bytes ≡ Some form
form_complete bytes form s =
    ap form_of s.line_is
    ∙ (ap form_begun (first_joined 44 s.front (s.middle ++ 44 ∷ s.back) s.first)
    ∙ (ap (form_ended s.front) (last_joined 44 s.middle s.back s.last)
    ∙ (ap₂ (λ x y. make_form x (label_in (trimmed s.middle)) y) (opening_complete s.front s.source s.front_is s.source_is.numeral) (closing_complete s.back s.target s.back_is s.target_is.numeral)
    ∙ (ap (λ l. make_form (Some s.source) l (Some s.target)) (label_in_complete (trimmed s.middle) form.label s.label_is)
    ∙ make_complete s.source form.label s.target form.source form.target s.source_is.value s.target_is.value))))

-- headers
make_header_sound : (a b c : Option (List ℕ)) (h : Header) → make_header a b c ≡ Some h →
    (x : List ℕ) × (y : List ℕ) × (z : List ℕ) × (a ≡ Some x) × (b ≡ Some y) × (c ≡ Some z) ×
    (record { first = digits_value 10 x; count = digits_value 10 y; states = digits_value 10 z } ≡ h)
make_header_sound (Some x) (Some y) (Some z) h e = (x, y, z, refl, refl, refl, (cc))
make_header_sound (Some x) (Some y) None h e = absurd (cc)
make_header_sound (Some x) None c h e = absurd (cc)
make_header_sound None b c h e = absurd (cc)

header_words : (bytes : List ℕ) (ws : List (List ℕ)) (h : Header) → words bytes ≡ ws → header_in ws ≡ Some h → SpellsHeader bytes h
header_words bytes (k ∷ o ∷ f ∷ c ∷ t ∷ d ∷ s ∷ e ∷ []) h w r =
    let p = if_some (bytes_eq k (codes "des")) (make_header (source_of o f c) (middle_of c t d) (target_of d s e)) h r in
    let m = make_header_sound (source_of o f c) (middle_of c t d) (target_of d s e) h p.1 in
    let i = between_sound (codes "(") (codes ",") o f c m.0 m.3 in
    let j = between_sound (codes ",") (codes ",") c t d m.1 m.4 in
    let n = between_sound (codes ",") (codes ")") d s e m.2 m.5 in
    let k0 = eq_bytes k (codes "des") p.0 in
    let i0 = i.left_is in let i1 = i.digits_are in let i2 = i.right_is in
    let j1 = j.digits_are in let j2 = j.right_is in
    let n1 = n.digits_are in let n2 = n.right_is in
    subst (SpellsHeader bytes) m.6 (record {
      first = m.0;
      count = m.1;
      states = m.2;
      words_are = w ∙ (cc);
      first_is = record { numeral = i.numeral; value = refl };
      count_is = record { numeral = j.numeral; value = refl };
      states_are = record { numeral = n.numeral; value = refl };
    })
header_words bytes [] h w r = absurd (cc)
header_words bytes (a ∷ []) h w r = absurd (cc)
header_words bytes (a ∷ b ∷ []) h w r = absurd (cc)
header_words bytes (a ∷ b ∷ c ∷ []) h w r = absurd (cc)
header_words bytes (a ∷ b ∷ c ∷ d ∷ []) h w r = absurd (cc)
header_words bytes (a ∷ b ∷ c ∷ d ∷ e ∷ []) h w r = absurd (cc)
header_words bytes (a ∷ b ∷ c ∷ d ∷ e ∷ f ∷ []) h w r = absurd (cc)
header_words bytes (a ∷ b ∷ c ∷ d ∷ e ∷ f ∷ g ∷ []) h w r = absurd (cc)
header_words bytes (a ∷ b ∷ c ∷ d ∷ e ∷ f ∷ g ∷ i ∷ x ∷ xs) h w r = absurd (cc)

pub header_sound : (bytes : List ℕ) (h : Header) → header_at bytes ≡ Some h → SpellsHeader bytes h
header_sound bytes h e = header_words bytes (words bytes) h refl e

header_value : (a b c x y z : ℕ) → a ≡ x → b ≡ y → c ≡ z → ◌≡◌ {A = Option Header} (Some (record { first = a; count = b; states = c })) (Some (record { first = x; count = y; states = z }))
header_value a b c x y z p q r = (cc)

pub header_complete : (bytes : List ℕ) (h : Header) → SpellsHeader bytes h → header_at bytes ≡ Some h
header_complete bytes h r =
    ap header_in r.words_are ∙ (ap (λ t. make_header t (middle_of (codes ",") r.count (codes ",")) (target_of (codes ",") r.states (codes ")"))) (between_complete (codes "(") (codes ",") r.first r.first_is.numeral)
    ∙ (ap₂ (λ x y. make_header (Some r.first) x y) (between_complete (codes ",") (codes ",") r.count r.count_is.numeral) (between_complete (codes ",") (codes ")") r.states r.states_are.numeral)
    ∙ header_value _ _ _ h.first h.count h.states r.first_is.value r.count_is.value r.states_are.value))

-- names of labels
none_of : {A : Type 0} (o : Option A) → is_some o ≡ false → o ≡ None
none_of None e = refl
none_of (Some x) e = absurd (cc)

named_sound : (name : List ℕ) (text : Option (List ℕ)) (l : List ℕ × Option (List ℕ)) → named name text ≡ Some l → (is_nonempty name ≡ true) × ((name, text) ≡ l)
named_sound name text l e = let p = if_some (is_nonempty name) (Some (name, text)) l e in let q = p.1 in (p.0, (cc))

guarded_sound : (label front : List ℕ) (o : Option (List ℕ × List ℕ)) (l : List ℕ × Option (List ℕ)) → before_end 93 (trimmed label) ≡ Some front → cut_last 91 front ≡ o → guarded o ≡ Some l → HasName label l.0 l.1
guarded_sound label front None l p q e = absurd (cc)
guarded_sound label front (Some x) l p q e =
    let i = end_found 93 (trimmed label) front p in
    let j = last_found 91 front x q in
    let n = named_sound (trimmed x.0) (Some x.1) l e in
    subst (λ (z : List ℕ × Option (List ℕ)). HasName label z.0 z.1) n.1
    (record { front = x.0; label_is = i ∙ ap (λ y. y ++ 93 ∷ []) j.0; last = j.1; name_is = refl; some = n.0 })

name_in_sound : (label : List ℕ) (o : Option (List ℕ)) (l : List ℕ × Option (List ℕ)) → before_end 93 (trimmed label) ≡ o → name_in (trimmed label) o ≡ Some l → HasName label l.0 l.1
name_in_sound label None l p e =
    let n = named_sound (trimmed label) None l e in
    subst (λ (z : List ℕ × Option (List ℕ)). HasName label z.0 z.1) n.1
    (record { name_is = refl; some = n.0; not_closed = closed_is (trimmed label) ∙ ap is_some p })
name_in_sound label (Some front) l p e = guarded_sound label front (cut_last 91 front) l p refl e

pub label_sound : (label : List ℕ) (l : List ℕ × Option (List ℕ)) → label_of label ≡ Some l → HasName label l.0 l.1
label_sound label l e = name_in_sound label (before_end 93 (trimmed label)) l refl e

named_complete : (n name : List ℕ) (text : Option (List ℕ)) → n ≡ name → is_nonempty name ≡ true → named n text ≡ Some (name, text)
named_complete n name text e s = ap (λ x. named x text) e ∙ ap (λ b. cond b (Some (name, text)) None) s

pub label_complete : (label name : List ℕ) (text : Option (List ℕ)) → HasName label name text → label_of label ≡ Some (name, text)
label_complete label name None r =
    ap (name_in (trimmed label)) (none_of (before_end 93 (trimmed label)) (sym (closed_is (trimmed label)) ∙ (ap is_closed r.name_is ∙ r.not_closed)))
    ∙ named_complete (trimmed label) name None r.name_is r.some
label_complete label name (Some t) r =
    ap (λ x. name_in x (before_end 93 x)) r.label_is
    ∙ (ap (name_in ((r.front ++ 91 ∷ t) ++ 93 ∷ [])) (end_joined 93 (r.front ++ 91 ∷ t))
    ∙ (ap guarded (last_joined 91 r.front t r.last) ∙ named_complete (trimmed r.front) name (Some t) r.name_is r.some))
