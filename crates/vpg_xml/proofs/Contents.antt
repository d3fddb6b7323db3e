-- Pieces are read as a document just where they are one.
use Rattle.std.proofs.Common.{◌≡◌, ℕ, zero, suc, ◌+◌, ◌<◌, ◌≤◌, Bool, true, false, cond, nat_lt, List, [], ◌∷◌, ◌++◌, length, Option, Some, None, Result, Ok, Err, refl, sym, ap, subst, ◌∙◌, arith, append_assoc}
use Rattle.std.specs.Prelude.{bytes_eq}
use Rattle.std.proofs.lemmas.List.{append-nil, length-append}
use Rattle.std.proofs.lemmas.Bool.{lt-ltb, ltb-true}
use Rattle.std.proofs.lemmas.Slice.Eq.{bytes_eq-Decides}
use Rattle.vpg_xml.specs.Elements.{Tag, Element, Piece, Placed, opening, closing, character}
use Rattle.vpg_xml.specs.Tokens.{is_blank}
use Rattle.vpg_xml.specs.Nesting.{element, Content, nothing, a_character, an_element, AreBlanks, no_more, one_more, IsDocument}
use Rattle.vpg_xml.specs.Reading.{Frame, State, Refusal, mismatch, too_deep, outside, start, more_text, add_text, with_element, step, and_then, run}
use Rattle.vpg_xml.specs.View.{is_whole}

abbrev Pieces : Type 0
Pieces = List Placed

abbrev Elements : Type 0
Elements = List Element

abbrev Outcome : Type 0
Outcome = Result State Refusal

-- ---- texts of elements

pub add_none : (i : ℕ) (es : Elements) → add_text i [] es ≡ es
add_none i [] = refl
add_none zero (e ∷ es) = ap (λ (t : List ℕ). element e.at e.tag e.parent t ∷ es) (append-nil e.text)
add_none (suc i) (e ∷ es) = ap (λ (xs : Elements). e ∷ xs) (add_none i es)

pub add_more : (i : ℕ) (a b : List ℕ) (es : Elements) → add_text i b (add_text i a es) ≡ add_text i (a ++ b) es
add_more i a b [] = refl
add_more zero a b (e ∷ es) = ap (λ (t : List ℕ). element e.at e.tag e.parent t ∷ es) (append_assoc e.text a b)
add_more (suc i) a b (e ∷ es) = ap (λ (xs : Elements). e ∷ xs) (add_more i a b es)

pub add_left : (i : ℕ) (a : List ℕ) (es fs : Elements) → i < length es → add_text i a (es ++ fs) ≡ add_text i a es ++ fs
add_left i a [] fs l = absurd (omega arith)
add_left zero a (e ∷ es) fs l = refl
add_left (suc i) a (e ∷ es) fs l = ap (λ (xs : Elements). e ∷ xs) (add_left i a es fs (omega arith))

pub add_last : (es : Elements) (e : Element) (a : List ℕ) (i : ℕ) → i ≡ length es → add_text i a (es ++ e ∷ []) ≡ es ++ more_text a e ∷ []
add_last [] e a zero l = refl
add_last [] e a (suc i) l = absurd (omega arith)
add_last (x ∷ es) e a zero l = absurd (omega arith)
add_last (x ∷ es) e a (suc i) l = ap (λ (xs : Elements). x ∷ xs) (add_last es e a i (omega arith))

pub length_added : (i : ℕ) (a : List ℕ) (es : Elements) → length (add_text i a es) ≡ length es
length_added i a [] = refl
length_added zero a (e ∷ es) = refl
length_added (suc i) a (e ∷ es) = let h : length (add_text i a es) ≡ length es = length_added i a es in omega (arith, h)

-- an element that ends, with its text and the elements in it
grown : (es inside : Elements) (at : ℕ) (tag : Tag) (parent : Option ℕ) (said : List ℕ) → add_text (length es) said (es ++ element at tag parent [] ∷ []) ++ inside ≡ es ++ element at tag parent said ∷ inside
grown es inside at tag parent said =
    ap (λ (xs : Elements). xs ++ inside) (add_last es (element at tag parent []) said (length es) refl)
    ∙ append_assoc es (element at tag parent said ∷ []) inside

-- text for an element before these
passed : (i : ℕ) (a : List ℕ) (es fs more : Elements) → i < length es → add_text i a (es ++ fs) ++ more ≡ add_text i a es ++ (fs ++ more)
passed i a es fs more l = ap (λ (xs : Elements). xs ++ more) (add_left i a es fs l) ∙ append_assoc (add_text i a es) fs more

-- ---- runs

pub run_cons : (p : Placed) (ps : Pieces) (s t : State) → step s p.at p.piece ≡ Ok t → run (p ∷ ps) s ≡ run ps t
unfolding run
run_cons p ps s t e = ap (λ (r : Outcome). and_then r (run ps)) e

pub run_first : (p : Placed) (ps : Pieces) (s : State) → run (p ∷ ps) s ≡ and_then (step s p.at p.piece) (run ps)
unfolding run
run_first p ps s = refl

pub run_end : (s : State) → run [] s ≡ Ok s
unfolding run
run_end s = refl

joined_outcome : (ps qs : Pieces) → ((t : State) → run (ps ++ qs) t ≡ and_then (run ps t) (run qs)) → (r : Outcome) → and_then r (run (ps ++ qs)) ≡ and_then (and_then r (run ps)) (run qs)
joined_outcome ps qs ih (Ok t) = ih t
joined_outcome ps qs ih (Err e) = refl

pub run_append : (ps qs : Pieces) (s : State) → run (ps ++ qs) s ≡ and_then (run ps s) (run qs)
unfolding run
run_append [] qs s = refl
run_append (p ∷ ps) qs s = joined_outcome ps qs (λ t. run_append ps qs t) (step s p.at p.piece)

pub run_after : (ps qs : Pieces) (s t : State) → run ps s ≡ Ok t → run (ps ++ qs) s ≡ run qs t
run_after ps qs s t e = run_append ps qs s ∙ ap (λ (r : Outcome). and_then r (run qs)) e

abbrev state : Elements → List Frame → State
state es fs = record { elements = es; opened = fs }

same_name : (name : List ℕ) → bytes_eq name name ≡ true
same_name name = (bytes_eq-Decides name name).1 refl

pub closes : (es : Elements) (f : Frame) (fs : List Frame) (at : ℕ) → step (state es (f ∷ fs)) at (closing f.name) ≡ Ok (state es fs)
closes es f fs at = ap (λ (t : Bool). cond t (Ok (state es fs)) (Err mismatch)) (same_name f.name)

opens : (es : Elements) (f : Frame) (fs : List Frame) (at : ℕ) (tag : Tag) → length (f ∷ fs) < 64 →
    step (state es (f ∷ fs)) at (opening tag) ≡ Ok (with_element at tag (Some f.index) (state es (f ∷ fs)))
opens es f fs at tag l = ap (λ (t : Bool). cond t (Ok (with_element at tag (Some f.index) (state es (f ∷ fs)))) (Err too_deep)) (lt-ltb (length (f ∷ fs)) 64 l)

-- what is between two tags is read as it is
pub content_runs : {depth parent next : ℕ} {ps : Pieces} {text : List ℕ} {found : Elements} → Content depth parent next ps text found →
    (es : Elements) (f : Frame) (fs : List Frame) → f.index ≡ parent → length es ≡ next → parent < next → length fs + depth ≡ 63 →
    run ps (state es (f ∷ fs)) ≡ Ok (state (add_text parent text es ++ found) (f ∷ fs))
content_runs (nothing {depth = depth} {parent = parent} {next = next}) es f fs i n l d =
    run_end (state es (f ∷ fs)) ∙ sym (ap (λ (xs : Elements). Ok (state xs (f ∷ fs))) (append-nil (add_text parent [] es) ∙ add_none parent es))
content_runs (a_character {depth = depth} {parent = parent} {next = next} {at = at} {c = c} {pieces = ps} {text = text} {elements = found} content) es f fs i n l d =
    let es' : Elements = add_text f.index (c ∷ []) es in
    let same : es' ≡ add_text parent (c ∷ []) es = ap (λ (k : ℕ). add_text k (c ∷ []) es) i in
    run_cons (record { at = at; piece = character c }) ps (state es (f ∷ fs)) (state es' (f ∷ fs)) refl
    ∙ (content_runs content es' f fs i (length_added f.index (c ∷ []) es ∙ n) l d
    ∙ ap (λ (xs : Elements). Ok (state (xs ++ found) (f ∷ fs))) (ap (λ (xs : Elements). add_text parent text xs) same ∙ add_more parent (c ∷ []) text es))
content_runs (an_element to {depth = depth} {parent = parent} {next = next} {at = at} {tag = tag} {inner = inner} {pieces = ps} {said = said} {text = text} {inside = inside} {elements = found} content after) es f fs i n l d =
    let p : Placed = record { at = at; piece = opening tag } in
    let q : Placed = record { at = to; piece = closing tag.name } in
    let g : Frame = record { index = length es; name = tag.name } in
    let es1 : Elements = es ++ element at tag (Some f.index) [] ∷ [] in
    let e : Element = element at tag (Some parent) said in
    let few : length (f ∷ fs) < 64 = omega (arith, d) in
    let n1 : length es1 ≡ suc next = length-append es (element at tag (Some f.index) [] ∷ []) ∙ omega (arith, n) in
    let d1 : length (f ∷ fs) + depth ≡ 63 = omega (arith, d) in
    let within : run inner (state es1 (g ∷ f ∷ fs)) ≡ Ok (state (add_text next said es1 ++ inside) (g ∷ f ∷ fs)) = content_runs content es1 g (f ∷ fs) n n1 (omega arith) d1 in
    let now : add_text next said es1 ++ inside ≡ es ++ e ∷ inside =
    ap (λ (k : ℕ). add_text k said es1 ++ inside) (sym n) ∙ (grown es inside at tag (Some f.index) said ∙ ap (λ (k : ℕ). es ++ element at tag (Some k) said ∷ inside) i) in
    let n2 : length (es ++ e ∷ inside) ≡ suc next + length inside = length-append es (e ∷ inside) ∙ omega (arith, n) in
    run_cons p (inner ++ q ∷ ps) (state es (f ∷ fs)) (state es1 (g ∷ f ∷ fs)) (opens es f fs at tag few)
    ∙ (run_after inner (q ∷ ps) (state es1 (g ∷ f ∷ fs)) (state (add_text next said es1 ++ inside) (g ∷ f ∷ fs)) within
    ∙ (run_cons q ps (state (add_text next said es1 ++ inside) (g ∷ f ∷ fs)) (state (add_text next said es1 ++ inside) (f ∷ fs)) (closes (add_text next said es1 ++ inside) g (f ∷ fs) to)
    ∙ (ap (λ (xs : Elements). run ps (state xs (f ∷ fs))) now
    ∙ (content_runs after (es ++ e ∷ inside) f fs i n2 (omega arith) d
    ∙ ap (λ (xs : Elements). Ok (state xs (f ∷ fs))) (passed parent text es (e ∷ inside) found (omega (arith, l, n)))))))

-- ---- what is read is content

-- what is read from here on: content, the end tag of the innermost element, and the rest
record Inside (depth : ℕ) (f : Frame) (fs : List Frame) (es : Elements) (ps : Pieces) (end : State) : Type 0 where
  inner : Pieces
  to : ℕ
  rest : Pieces
  text : List ℕ
  found : Elements
  parts : ps ≡ inner ++ record { at = to; piece = closing f.name } ∷ rest
  content : Content depth f.index (length es) inner text found
  after : run rest (state (add_text f.index text es ++ found) fs) ≡ Ok end
  shorter : length rest < length ps

abbrev Claim : ℕ → Type 0
Claim n = (ps : Pieces) → length ps ≤ n → (depth : ℕ) (f : Frame) (fs : List Frame) (es : Elements) (end : State) →
    f.index < length es → length fs + depth ≡ 63 → end.opened ≡ [] → run ps (state es (f ∷ fs)) ≡ Ok end → Inside depth f fs es ps end

ok_is : (s t : State) → (let r : Outcome = Ok s in r ≡ Ok t) → s ≡ t
ok_is s t e = cc

module _ (n : ℕ) (claim : Claim n) (f : Frame) (fs : List Frame) (es : Elements) (end : State) (at : ℕ) (qs : Pieces)
    (few : length qs ≤ n) (within : f.index < length es) (done : end.opened ≡ []) where
  character_found : (depth c : ℕ) → length fs + depth ≡ 63 → run qs (state (add_text f.index (c ∷ []) es) (f ∷ fs)) ≡ Ok end →
      Inside depth f fs es (record { at = at; piece = character c } ∷ qs) end
  character_found depth c d e =
      let es' : Elements = add_text f.index (c ∷ []) es in
      let n1 : length es' ≡ length es = length_added f.index (c ∷ []) es in
      let w : f.index < length es' = omega (arith, within, n1) in
      let h : Inside depth f fs es' qs end = claim qs few depth f fs es' end w d done e in
      record {
        inner = record { at = at; piece = character c } ∷ h.inner;
        to = h.to;
        rest = h.rest;
        text = c ∷ h.text;
        found = h.found;
        parts = ap (λ (xs : Pieces). record { at = at; piece = character c } ∷ xs) h.parts;
        content = a_character (subst (λ (k : ℕ). Content depth f.index k h.inner h.text h.found) n1 h.content);
        after = sym (ap (λ (xs : Elements). run h.rest (state (xs ++ h.found) fs)) (add_more f.index (c ∷ []) h.text es)) ∙ h.after;
        shorter = let s : length h.rest < length qs = h.shorter in omega (arith, s);
      }

  closing_found : (depth : ℕ) (name : List ℕ) (t : Bool) → bytes_eq name f.name ≡ t → and_then (cond t (Ok (state es fs)) (Err mismatch)) (run qs) ≡ Ok end →
      Inside depth f fs es (record { at = at; piece = closing name } ∷ qs) end
  closing_found depth name false b e = absurd (cc)
  closing_found depth name true b e =
      let same : name ≡ f.name = (bytes_eq-Decides name f.name).0 b in
      record {
        inner = [];
        to = at;
        rest = qs;
        text = [];
        found = [];
        parts = ap (λ (x : List ℕ). record { at = at; piece = closing x } ∷ qs) same;
        content = nothing;
        after = ap (λ (xs : Elements). run qs (state xs fs)) (append-nil (add_text f.index [] es) ∙ add_none f.index es) ∙ e;
        shorter = omega arith;
      }

  element_found : (depth : ℕ) (tag : Tag) → length fs + suc depth ≡ 63 → run qs (with_element at tag (Some f.index) (state es (f ∷ fs))) ≡ Ok end →
      Inside (suc depth) f fs es (record { at = at; piece = opening tag } ∷ qs) end
  element_found depth tag d e =
      let g : Frame = record { index = length es; name = tag.name } in
      let e0 : Element = element at tag (Some f.index) [] in
      let es1 : Elements = es ++ e0 ∷ [] in
      let n1 : length es1 ≡ suc (length es) = length-append es (e0 ∷ []) ∙ omega arith in
      let d1 : length (f ∷ fs) + depth ≡ 63 = omega (arith, d) in
      let h : Inside depth g (f ∷ fs) es1 qs end = claim qs few depth g (f ∷ fs) es1 end (omega (arith, n1)) d1 done e in
      let s1 : length h.rest < length qs = h.shorter in
      let e1 : Element = element at tag (Some f.index) h.text in
      let es2 : Elements = es ++ e1 ∷ h.found in
      let now : add_text (length es) h.text es1 ++ h.found ≡ es2 = grown es h.found at tag (Some f.index) h.text in
      let n2 : length es2 ≡ suc (length es) + length h.found = length-append es (e1 ∷ h.found) ∙ omega arith in
      let goes : run h.rest (state es2 (f ∷ fs)) ≡ Ok end = sym (ap (λ (xs : Elements). run h.rest (state xs (f ∷ fs))) now) ∙ h.after in
      let k : Inside (suc depth) f fs es2 h.rest end = claim h.rest (omega (arith, s1, few)) (suc depth) f fs es2 end (omega (arith, n2, within)) d done goes in
      let s2 : length k.rest < length h.rest = k.shorter in
      let q : Placed = record { at = h.to; piece = closing tag.name } in
      let last : Placed = record { at = k.to; piece = closing f.name } in
      record {
        inner = record { at = at; piece = opening tag } ∷ (h.inner ++ q ∷ k.inner);
        to = k.to;
        rest = k.rest;
        text = k.text;
        found = e1 ∷ (h.found ++ k.found);
        parts = ap (λ (xs : Pieces). record { at = at; piece = opening tag } ∷ xs)
            (h.parts ∙ (ap (λ (xs : Pieces). h.inner ++ q ∷ xs) k.parts ∙ sym (append_assoc h.inner (q ∷ k.inner) (last ∷ k.rest))));
        content = an_element h.to (subst (λ (m : ℕ). Content depth (length es) m h.inner h.text h.found) n1 h.content)
            (subst (λ (m : ℕ). Content (suc depth) f.index m k.inner k.text k.found) n2 k.content);
        after = sym (ap (λ (xs : Elements). run k.rest (state xs fs)) (passed f.index k.text es (e1 ∷ h.found) k.found within)) ∙ k.after;
        shorter = omega (arith, s1, s2);
      }

  opening_found : (depth : ℕ) (tag : Tag) (t : Bool) → nat_lt (length (f ∷ fs)) 64 ≡ t → length fs + depth ≡ 63 →
      and_then (cond t (Ok (with_element at tag (Some f.index) (state es (f ∷ fs)))) (Err too_deep)) (run qs) ≡ Ok end →
      Inside depth f fs es (record { at = at; piece = opening tag } ∷ qs) end
  opening_found depth tag false b d e = absurd (cc)
  opening_found zero tag true b d e = let l : length (f ∷ fs) < 64 = ltb-true (length (f ∷ fs)) 64 b in absurd (omega (arith, l, d))
  opening_found (suc depth) tag true b d e = element_found depth tag d e

  piece_found : (depth : ℕ) (piece : Piece) → length fs + depth ≡ 63 → and_then (step (state es (f ∷ fs)) at piece) (run qs) ≡ Ok end →
      Inside depth f fs es (record { at = at; piece = piece } ∷ qs) end
  piece_found depth (character c) d e = character_found depth c d e
  piece_found depth (closing name) d e = closing_found depth name (bytes_eq name f.name) refl e
  piece_found depth (opening tag) d e = opening_found depth tag (nat_lt (length (f ∷ fs)) 64) refl d e

inside_found : (n : ℕ) → Claim n
inside_found n [] l depth f fs es end w d done e =
    let same : state es (f ∷ fs) ≡ end = ok_is (state es (f ∷ fs)) end (sym (run_end (state es (f ∷ fs))) ∙ e) in
    let none : f ∷ fs ≡ [] = ap (λ (s : State). s.opened) same ∙ done in
    absurd (cc)
inside_found zero (p ∷ ps) l depth f fs es end w d done e = absurd (omega arith)
inside_found (suc n) (p ∷ ps) l depth f fs es end w d done e =
    piece_found n (inside_found n) f fs es end p.at ps (omega arith) w done depth p.piece d (sym (run_first p ps (state es (f ∷ fs))) ∙ e)

-- ---- documents

-- behind the outermost element come blanks
module _ (e : Element) (es : Elements) (end : State) where
  abbrev Trail : Pieces → Type 0
  Trail ps = AreBlanks ps × (end ≡ state (e ∷ es) [])

  trail_blank : (ps : Pieces) (at c : ℕ) → (run ps (state (e ∷ es) []) ≡ Ok end → Trail ps) → (t : Bool) → is_blank c ≡ t → and_then (cond t (Ok (state (e ∷ es) [])) (Err outside)) (run ps) ≡ Ok end →
      Trail (record { at = at; piece = character c } ∷ ps)
  trail_blank ps at c ih false b h = absurd (cc)
  trail_blank ps at c ih true b h = let k = ih h in (one_more b k.0, k.1)

  trail_piece : (ps : Pieces) (at : ℕ) (piece : Piece) → (run ps (state (e ∷ es) []) ≡ Ok end → Trail ps) → and_then (step (state (e ∷ es) []) at piece) (run ps) ≡ Ok end →
      Trail (record { at = at; piece = piece } ∷ ps)
  trail_piece ps at (opening tag) ih h = absurd (cc)
  trail_piece ps at (closing name) ih h = absurd (cc)
  trail_piece ps at (character c) ih h = trail_blank ps at c ih (is_blank c) refl h

  trailing : (ps : Pieces) → run ps (state (e ∷ es) []) ≡ Ok end → Trail ps
  trailing [] h = (no_more, sym (ok_is (state (e ∷ es) []) end (sym (run_end (state (e ∷ es) [])) ∙ h)))
  trailing (p ∷ ps) h = trail_piece ps p.at p.piece (trailing ps) (sym (run_first p ps (state (e ∷ es) [])) ∙ h)

-- the outermost element
rooted : (at : ℕ) (tag : Tag) (ps : Pieces) (end : State) → end.opened ≡ [] → run ps (with_element at tag None start) ≡ Ok end →
    IsDocument (record { at = at; piece = opening tag } ∷ ps) end.elements
rooted at tag ps end done e =
    let f : Frame = record { index = 0; name = tag.name } in
    let e0 : Element = element at tag None [] in
    let one : length (e0 ∷ []) ≡ 1 = omega arith in
    let h : Inside 63 f [] (e0 ∷ []) ps end = inside_found (length ps) ps (omega arith) 63 f [] (e0 ∷ []) end (omega arith) (omega arith) done e in
    let k = trailing (element at tag None h.text) h.found end h.rest h.after in
    record {
      before = [];
      at = at;
      tag = tag;
      inner = h.inner;
      to = h.to;
      after = h.rest;
      said = h.text;
      inside = h.found;
      pieces_are = ap (λ (xs : Pieces). record { at = at; piece = opening tag } ∷ xs) h.parts;
      elements_are = ap (λ (s : State). s.elements) k.1;
      blank_before = no_more;
      blank_after = k.0;
      content = subst (λ (m : ℕ). Content 63 0 m h.inner h.text h.found) one h.content;
    }

behind_blank : (at c : ℕ) (ps : Pieces) (es : Elements) → is_blank c ≡ true → IsDocument ps es → IsDocument (record { at = at; piece = character c } ∷ ps) es
behind_blank at c ps es b d = record {
  before = record { at = at; piece = character c } ∷ d.before;
  at = d.at;
  tag = d.tag;
  inner = d.inner;
  to = d.to;
  after = d.after;
  said = d.said;
  inside = d.inside;
  pieces_are = ap (λ (xs : Pieces). record { at = at; piece = character c } ∷ xs) d.pieces_are;
  elements_are = d.elements_are;
  blank_before = one_more b d.blank_before;
  blank_after = d.blank_after;
  content = d.content;
}

module _ (end : State) (done : end.opened ≡ []) where
  root_blank : (ps : Pieces) (at c : ℕ) → (run ps start ≡ Ok end → IsDocument ps end.elements) → (t : Bool) → is_blank c ≡ t → and_then (cond t (Ok start) (Err outside)) (run ps) ≡ Ok end →
      IsDocument (record { at = at; piece = character c } ∷ ps) end.elements
  root_blank ps at c ih false b h = absurd (cc)
  root_blank ps at c ih true b h = behind_blank at c ps end.elements b (ih h)

  root_piece : (ps : Pieces) (at : ℕ) (piece : Piece) → (run ps start ≡ Ok end → IsDocument ps end.elements) → and_then (step start at piece) (run ps) ≡ Ok end →
      IsDocument (record { at = at; piece = piece } ∷ ps) end.elements
  root_piece ps at (opening tag) ih h = rooted at tag ps end done h
  root_piece ps at (closing name) ih h = absurd (cc)
  root_piece ps at (character c) ih h = root_blank ps at c ih (is_blank c) refl h

pub document_found : (ps : Pieces) (end : State) → is_whole end ≡ true → end.opened ≡ [] → run ps start ≡ Ok end → IsDocument ps end.elements
document_found [] end whole done e =
    let same : start ≡ end = ok_is start end (sym (run_end start) ∙ e) in
    let never : is_whole start ≡ true = ap is_whole same ∙ whole in
    absurd (cc)
document_found (p ∷ ps) end whole done e = root_piece end done ps p.at p.piece (document_found ps end whole done) (sym (run_first p ps start) ∙ e)

blanks_run : {ps : Pieces} → AreBlanks ps → (es : Elements) → run ps (state es []) ≡ Ok (state es [])
blanks_run no_more es = run_end (state es [])
blanks_run (one_more {at = at} {c = c} {pieces = ps} b bs) es =
    run_cons (record { at = at; piece = character c }) ps (state es []) (state es []) (ap (λ (t : Bool). cond t (Ok (state es [])) (Err outside)) b)
    ∙ blanks_run bs es

pub document_runs : (ps : Pieces) (es : Elements) → IsDocument ps es → run ps start ≡ Ok (state es [])
document_runs ps es d =
    let p : Placed = record { at = d.at; piece = opening d.tag } in
    let q : Placed = record { at = d.to; piece = closing d.tag.name } in
    let f : Frame = record { index = 0; name = d.tag.name } in
    let e0 : Element = element d.at d.tag None [] in
    let all : Elements = element d.at d.tag None d.said ∷ d.inside in
    ap (λ (xs : Pieces). run xs start) d.pieces_are
    ∙ (run_after d.before (p ∷ (d.inner ++ q ∷ d.after)) start start (blanks_run d.blank_before [])
    ∙ (run_cons p (d.inner ++ q ∷ d.after) start (state (e0 ∷ []) (f ∷ [])) refl
    ∙ (run_after d.inner (q ∷ d.after) (state (e0 ∷ []) (f ∷ [])) (state all (f ∷ [])) (content_runs d.content (e0 ∷ []) f [] refl (omega arith) (omega arith) (omega arith))
    ∙ (run_cons q d.after (state all (f ∷ [])) (state all []) (closes all f [] d.to)
    ∙ (blanks_run d.blank_after all ∙ sym (ap (λ (xs : Elements). Ok (state xs [])) d.elements_are))))))
