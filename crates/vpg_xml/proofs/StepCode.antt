-- The code's values as states: characters, tags and tokens.
use Rattle.std.proofs.Common.{◌≡◌, ℕ, zero, suc, ◌<◌, ◌≤◌, Bool, true, false, cond, List, [], ◌∷◌, ◌++◌, length, map, set, get_or, reverse, Option, Result, Ok, Err, OnOk, IfOk, IfErr, inl, inr, refl, ap, ◌∙◌, arith}
use Rattle.std.specs.Prelude.{bytes_eq}
use Rattle.std.proofs.lemmas.List.{map-append, reverse-append}
use Rattle.std.proofs.lemmas.Slice.Eq.{bytes_eq-Decides}
use Rattle.vpg_xml.specs.Elements.{Tag, Element, Piece, Placed, opening, closing}
use Rattle.vpg_xml.specs.Tokens.{Token, a_start, pieces_of}
use Rattle.vpg_xml.specs.Nesting.{element}
use Rattle.vpg_xml.specs.Reading.{Frame, State, Refusal, mismatch, more_text, add_text, with_element, step, and_then, run}
use Rattle.vpg_xml.specs.View.{element_of, elements_of, frame_of, tag_of, IsPieceError, IsStepError}
use Rattle.vpg_xml.specs.declared.element.Element as code_element
use Rattle.vpg_xml.specs.declared.element.Tag as code_tag
use Rattle.vpg_xml.specs.declared.reader.Open.{Open}
use Rattle.vpg_xml.specs.declared.fault.XmlFault.{XmlFault}

-- ---- outcomes

pub if_ok_by : {T E : Type 0} (r : Result T E) {P Q : Type 0} → (P → Q) → OnOk r P → OnOk r Q
if_ok_by (Ok x) f h = f h
if_ok_by (Err e) f h = h

pub if_ok_of : {T E : Type 0} (r : Result T E) {P Q : T → Type 0} → ((x : T) → P x → Q x) → IfOk r P → IfOk r Q
if_ok_of (Ok x) f h = f x h
if_ok_of (Err e) f h = h

pub if_err_by : {T E : Type 0} (r : Result T E) {P Q : E → Type 0} → ((e : E) → P e → Q e) → IfErr r P → IfErr r Q
if_err_by (Ok x) f h = h
if_err_by (Err e) f h = f e h

-- ---- texts

pub past : (i : ℕ) (said : List ℕ) (es : List Element) → length es ≤ i → es ≡ add_text i said es
past i said [] l = refl
past zero said (e ∷ es) l = absurd (omega arith)
past (suc i) said (e ∷ es) l = ap (λ (xs : List Element). e ∷ xs) (past i said es (omega arith))

pub set_more : (xs : List code_element.Element) (i : ℕ) (d new : code_element.Element) (said : List ℕ) → i < length xs →
    element_of new ≡ more_text said (element_of (get_or xs i d)) → elements_of (set xs i new) ≡ add_text i said (elements_of xs)
set_more [] i d new said l e = absurd (omega arith)
set_more (x ∷ xs) zero d new said l e = ap (λ (y : Element). y ∷ elements_of xs) e
set_more (x ∷ xs) (suc i) d new said l e = ap (λ (ys : List Element). element_of x ∷ ys) (set_more xs i d new said (omega arith) e)

-- ---- pieces and tokens

pub run_one : (s t : State) (at : ℕ) (piece : Piece) → step s at piece ≡ Ok t → run (record { at = at; piece = piece } ∷ []) s ≡ Ok t
unfolding run
run_one s t at piece e = ap (λ (r : Result State Refusal). and_then r (run [])) e

pub run_none : (s : State) → run [] s ≡ Ok s
unfolding run
run_none s = refl

same_name : (name : List ℕ) → bytes_eq name name ≡ true
same_name name = (bytes_eq-Decides name name).1 refl

pub run_empty : (s : State) (at : ℕ) (tag : Tag) (parent : Option ℕ) → step s at (opening tag) ≡ Ok (with_element at tag parent s) →
    run (pieces_of at (a_start tag true)) s ≡ Ok (record { elements = s.elements ++ element at tag parent [] ∷ []; opened = s.opened })
unfolding run
run_empty s at tag parent e =
    let end : State = record { elements = s.elements ++ element at tag parent [] ∷ []; opened = s.opened } in
    ap (λ (r : Result State Refusal). and_then r (run (record { at = at; piece = closing tag.name } ∷ []))) e
    ∙ ap (λ (t : Bool). and_then (cond t (Ok end) (Err mismatch)) (run [])) (same_name tag.name)

pub step_error : (s : State) (at : ℕ) (token : Token) (piece : Piece) (others : List Placed) (fault : XmlFault) →
    pieces_of at token ≡ record { at = at; piece = piece } ∷ others → IsPieceError s at piece fault → IsStepError s at token fault
step_error s at token piece others fault first (inl e) = inl e
step_error s at token piece others fault first (inr h) =
    inr (record { refusal = h.0; piece = piece; others = others; first = first; refused = h.1; fault_is = h.2 })

-- the pieces of a start tag begin with it
pub start_first : (at : ℕ) (tag : Tag) (alone : Bool) → (others : List Placed) × (pieces_of at (a_start tag alone) ≡ record { at = at; piece = opening tag } ∷ others)
start_first at tag true = (record { at = at; piece = closing tag.name } ∷ [], refl)
start_first at tag false = ([], refl)

-- ---- pushes

pub elements_pushed : (old new : List code_element.Element) (at : ℕ) (tag : code_tag.Tag) (parent : Option ℕ) (e : code_element.Element) → new ≡ old ++ e ∷ [] →
    element_of e ≡ element at (tag_of tag) parent [] → elements_of new ≡ elements_of old ++ element at (tag_of tag) parent [] ∷ []
elements_pushed old new at tag parent e pushed is =
    ap elements_of pushed ∙ (map-append element_of old (e ∷ []) ∙ ap (λ (x : Element). elements_of old ++ x ∷ []) is)

pub opened_pushed : (old new : List Open) (o : Open) → new ≡ old ++ o ∷ [] → reverse (map frame_of new) ≡ frame_of o ∷ reverse (map frame_of old)
opened_pushed old new o pushed =
    ap (λ (os : List Open). reverse (map frame_of os)) pushed
    ∙ (ap (λ (fs : List Frame). reverse fs) (map-append frame_of old (o ∷ [])) ∙ reverse-append (map frame_of old) (frame_of o ∷ []))
