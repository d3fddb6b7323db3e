-- A document that is written of settings is read back as their decisions.
use Rattle.std.proofs.Common.{◌≡◌, ℕ, zero, suc, ◌-◌, ◌<◌, Bool, true, false, cond, not, ◌&&◌, ◌==◌, List, [], ◌∷◌, ◌++◌, length, flat_map, Option, Some, None, Result, Ok, Err, refl, sym, ap, ap₂, subst, ◌∙◌, arith, append_assoc}
use Rattle.std.specs.Prelude.{codes, nat_le, is_some}
use Rattle.std.specs.List.{list_all}
use Rattle.std.proofs.lemmas.List.{append-nil, length-append}
use Rattle.std.proofs.lemmas.List.Concat.{flat_map-cons}
use Rattle.std.proofs.lemmas.Bool.Decides.{nat_tests}
use Rattle.vpg_features.specs.Names.{is_name_byte, starts_as_name, constant_of}
use Rattle.vpg_features.proofs.Held.{both_true}
use Rattle.vpg_featureide.specs.Model.{is_name}
use Rattle.vpg_xml.specs.Elements.{Attribute, Tag, Element, Document, Placed, opening, closing, character}
use Rattle.vpg_xml.specs.Tokens.{◌>>=◌, is_plain, reference_at, character_at, value_with, quoted_at, after_gap, after_name, after_sign, name_in, place_of, has_attribute, is_new, attribute_at, attributes_at, ending_at, Token, a_character, a_start, an_end, token_at, pieces_of, HasPieces, no_token, one_token, body_of}
use Rattle.vpg_xml.specs.Nesting.{element}
use Rattle.vpg_xml.specs.Reading.{State, start, more_text, run}
use Rattle.vpg_xml.specs.View.{is_whole}
use Rattle.vpg_xml.proofs.Turns.{attributes_end, attributes_more}
use Rattle.vpg_xml.proofs.StepCode.{run_one, run_empty}
use Rattle.vpg_xml.proofs.Contents.{run_end, run_after, document_found}
use Rattle.vpg_configuration.specs.Deciding.{TextFault, Selection, Selected, Unselected, Undefined, selection_word, decision_line, feature_line, with_line, and_then, step, lines_with, Decides}
use Rattle.vpg_configuration.specs.Documents.{Setting, setting_line, document_text, decision_lines}

-- each name is a feature name
abbrev AreNamed : List Setting → Type 0
AreNamed settings = list_all (λ s. is_name s.name) settings ≡ true

-- ---- values

-- each byte stands for itself in double quotes
abbrev ArePlain : List ℕ → Type 0
ArePlain value = list_all (is_plain 34) value ≡ true

never_quote : (b : ℕ) → is_plain 34 b ≡ true → (b == 34) ≡ false
never_quote b p = grind (arith, nat_tests)

never_sign : (b : ℕ) → is_plain 34 b ≡ true → (b == 38) ≡ false
never_sign b p = grind (arith, nat_tests)

plain_byte : (b : ℕ) → is_name_byte b ≡ true → is_plain 34 b ≡ true
plain_byte b e = grind (arith, nat_tests)

plain_bytes : (bs : List ℕ) → list_all is_name_byte bs ≡ true → ArePlain bs
plain_bytes [] e = refl
plain_bytes (b ∷ bs) e = let h = both_true (is_name_byte b) (list_all is_name_byte bs) e in ap₂ (λ x y. x && y) (plain_byte b h.0) (plain_bytes bs h.1)

plain_name : (name : List ℕ) → is_name name ≡ true → ArePlain name
plain_name name e =
    let h = both_true (starts_as_name name) (list_all is_name_byte name && (nat_le (length name) 64 && not (is_some (constant_of name)))) e in
    let k = both_true (list_all is_name_byte name) (nat_le (length name) 64 && not (is_some (constant_of name))) h.1 in
    plain_bytes name k.0

plain_word : (s : Selection) → ArePlain (selection_word s)
plain_word Selected = refl
plain_word Unselected = refl
plain_word Undefined = refl

plain_at : (b : ℕ) (text : List ℕ) → is_plain 34 b ≡ true → character_at 34 (b ∷ text) ≡ Some (b, text)
plain_at b text p =
    ap (λ (t : Bool). cond t (reference_at text) (cond (is_plain 34 b) (Some (b, text)) None)) (never_sign b p)
    ∙ ap (λ (t : Bool). cond t (Some (b, text)) None) p

value_read : (n : ℕ) (said value rest : List ℕ) → ArePlain value → length value < n → value_with n 34 said (value ++ 34 ∷ rest) ≡ Some (said ++ value, rest)
unfolding value_with
value_read zero said value rest p l = absurd (omega arith)
value_read (suc n) said [] rest p l = ap (λ (t : List ℕ). Some (t, rest)) (sym (append-nil said))
value_read (suc n) said (b ∷ value) rest p l =
    let h = both_true (is_plain 34 b) (list_all (is_plain 34) value) p in
    let text : List ℕ = value ++ 34 ∷ rest in
    ap (λ (t : Bool). cond t (Some (said, text)) (character_at 34 (b ∷ text) >>= λ c. value_with n 34 (said ++ c.0 ∷ []) c.1)) (never_quote b h.0)
    ∙ (ap (λ (o : Option (ℕ × List ℕ)). o >>= λ c. value_with n 34 (said ++ c.0 ∷ []) c.1) (plain_at b text h.0)
    ∙ (value_read n (said ++ b ∷ []) value rest h.1 (omega arith)
    ∙ ap (λ (t : List ℕ). Some (t, rest)) (append_assoc said (b ∷ []) value)))

quoted_read : (value rest : List ℕ) → ArePlain value → quoted_at (34 ∷ (value ++ 34 ∷ rest)) ≡ Some (value, rest)
quoted_read value rest p = value_read (length (value ++ 34 ∷ rest)) [] value rest p (omega (arith, length-append value (34 ∷ rest)))

-- ---- attributes

abbrev attribute : ℕ → (from name value : List ℕ) → Attribute
attribute size from name value = record { at = place_of size (after_gap from); name = name; value = value }

-- the attribute that a text begins with
record Begins (from name value rest : List ℕ) : Type 0 where
  has : has_attribute from ≡ true
  behind : after_sign 61 (after_gap (after_name (after_gap from))) ≡ Some (34 ∷ (value ++ 34 ∷ rest))
  named : name_in (after_gap from) ≡ name
  plain : ArePlain value
  longer : length rest < length from

attribute_read : (size : ℕ) {from name value rest : List ℕ} → Begins from name value rest → attribute_at size from ≡ Some (attribute size from name value, rest)
attribute_read size {from} {name} {value} {rest} b =
    ap (λ (o : Option (List ℕ)). o >>= λ behind. quoted_at (after_gap behind) >>= λ v. Some (attribute size from (name_in (after_gap from)) v.0, v.1)) b.behind
    ∙ (ap (λ (o : Option (List ℕ × List ℕ)). o >>= λ v. Some (attribute size from (name_in (after_gap from)) v.0, v.1)) (quoted_read value rest b.plain)
    ∙ ap (λ (m : List ℕ). Some (attribute size from m value, rest)) b.named)

-- three attributes of different names
three_read : (size : ℕ) {r0 r1 r2 rest n0 n1 n2 v0 v1 v2 : List ℕ} → Begins r0 n0 v0 r1 → Begins r1 n1 v1 r2 → Begins r2 n2 v2 rest → has_attribute rest ≡ false →
    is_new [] n0 ≡ true → is_new (attribute size r0 n0 v0 ∷ []) n1 ≡ true → is_new (attribute size r0 n0 v0 ∷ attribute size r1 n1 v1 ∷ []) n2 ≡ true →
    attributes_at size r0 ≡ Some (attribute size r0 n0 v0 ∷ attribute size r1 n1 v1 ∷ attribute size r2 n2 v2 ∷ [], rest)
three_read size {r0} {r1} {r2} {rest} {n0} {n1} {n2} {v0} {v1} {v2} b0 b1 b2 last new0 new1 new2 =
    let a0 : Attribute = attribute size r0 n0 v0 in
    let a1 : Attribute = attribute size r1 n1 v1 in
    let a2 : Attribute = attribute size r2 n2 v2 in
    let n : ℕ = length r0 in
    let l0 : length r1 < length r0 = b0.longer in
    let l1 : length r2 < length r1 = b1.longer in
    attributes_more n size [] r0 a0 r1 (omega arith) b0.has (attribute_read size b0) new0
    ∙ (attributes_more (n - 1) size (a0 ∷ []) r1 a1 r2 (omega (arith, l0)) b1.has (attribute_read size b1) new1
    ∙ (attributes_more (n - 1 - 1) size (a0 ∷ a1 ∷ []) r2 a2 rest (omega (arith, l0, l1)) b2.has (attribute_read size b2) new2
    ∙ sym (attributes_end (n - 1 - 1 - 1) size (a0 ∷ a1 ∷ a2 ∷ []) rest last)))

-- a text is longer than what stands behind a value in it
longer_by : (key value rest : List ℕ) → length rest < length (key ++ (value ++ 34 ∷ rest))
longer_by key value rest = omega (arith, length-append key (value ++ 34 ∷ rest), length-append value (34 ∷ rest))

-- ---- the declaration

abbrev standalone : List ℕ → List ℕ
standalone x = codes " standalone=\"" ++ (codes "no" ++ 34 ∷ (codes "?>\n<configuration>\n" ++ x))

abbrev encoding : List ℕ → List ℕ
encoding x = codes " encoding=\"" ++ (codes "UTF-8" ++ 34 ∷ standalone x)

abbrev version : List ℕ → List ℕ
version x = codes " version=\"" ++ (codes "1.0" ++ 34 ∷ encoding x)

begins_version : (x : List ℕ) → Begins (version x) (codes "version") (codes "1.0") (encoding x)
begins_version x = record { has = refl; behind = refl; named = refl; plain = refl; longer = longer_by (codes " version=\"") (codes "1.0") (encoding x) }

begins_encoding : (x : List ℕ) → Begins (encoding x) (codes "encoding") (codes "UTF-8") (standalone x)
begins_encoding x = record { has = refl; behind = refl; named = refl; plain = refl; longer = longer_by (codes " encoding=\"") (codes "UTF-8") (standalone x) }

begins_standalone : (x : List ℕ) → Begins (standalone x) (codes "standalone") (codes "no") (codes "?>\n<configuration>\n" ++ x)
begins_standalone x = record { has = refl; behind = refl; named = refl; plain = refl; longer = longer_by (codes " standalone=\"") (codes "no") (codes "?>\n<configuration>\n" ++ x) }

body_is : (x : List ℕ) → body_of (codes "<?xml version=\"1.0\" encoding=\"UTF-8\" standalone=\"no\"?>\n<configuration>\n" ++ x) ≡ Some (codes "\n<configuration>\n" ++ x)
body_is x =
    let size : ℕ = length (codes "<?xml version=\"1.0\" encoding=\"UTF-8\" standalone=\"no\"?>\n<configuration>\n" ++ x) in
    ap (λ (o : Option (List Attribute × List ℕ)). o >>= λ a. after_sign 63 (after_gap a.1) >>= λ behind. after_sign 62 behind)
    (three_read size (begins_version x) (begins_encoding x) (begins_standalone x) refl refl refl refl)

-- ---- a line

abbrev from_name : Setting → List ℕ → List ℕ
from_name s x = codes " name=\"" ++ (s.name ++ 34 ∷ (codes "/>\n" ++ x))

abbrev from_manual : Setting → List ℕ → List ℕ
from_manual s x = codes " manual=\"" ++ (selection_word s.manual ++ 34 ∷ from_name s x)

abbrev from_automatic : Setting → List ℕ → List ℕ
from_automatic s x = codes " automatic=\"" ++ (selection_word s.automatic ++ 34 ∷ from_manual s x)

line_is : (s : Setting) (x : List ℕ) → setting_line s ++ x ≡ codes "\t<feature" ++ from_automatic s x
line_is s x = simp append_assoc

abbrev tagged : List ℕ → List Attribute → Tag
tagged name attributes = record { name = name; attributes = attributes }

-- what stands behind attributes, and behind a tag
abbrev tag_behind : List ℕ → List Attribute × List ℕ → Option (Tag × List ℕ)
tag_behind name a = Some (tagged name a.0, a.1)

abbrev token_behind : Tag × List ℕ → Option (Token × List ℕ)
token_behind t = ending_at (after_gap t.1) >>= λ e. Some (a_start t.0 e.0, e.1)

abbrev setting_tag : ℕ → Setting → List ℕ → Tag
setting_tag size s x = tagged (codes "feature")
    (attribute size (from_automatic s x) (codes "automatic") (selection_word s.automatic)
    ∷ attribute size (from_manual s x) (codes "manual") (selection_word s.manual)
    ∷ attribute size (from_name s x) (codes "name") s.name ∷ [])

feature_token : (size : ℕ) (s : Setting) (x : List ℕ) → is_name s.name ≡ true → token_at size (codes "<feature" ++ from_automatic s x) ≡ Some (a_start (setting_tag size s x) true, codes "\n" ++ x)
feature_token size s x named =
    let b0 : Begins (from_automatic s x) (codes "automatic") (selection_word s.automatic) (from_manual s x) =
    record { has = refl; behind = refl; named = refl; plain = plain_word s.automatic; longer = longer_by (codes " automatic=\"") (selection_word s.automatic) (from_manual s x) } in
    let b1 : Begins (from_manual s x) (codes "manual") (selection_word s.manual) (from_name s x) =
    record { has = refl; behind = refl; named = refl; plain = plain_word s.manual; longer = longer_by (codes " manual=\"") (selection_word s.manual) (from_name s x) } in
    let b2 : Begins (from_name s x) (codes "name") s.name (codes "/>\n" ++ x) =
    record { has = refl; behind = refl; named = refl; plain = plain_name s.name named; longer = longer_by (codes " name=\"") s.name (codes "/>\n" ++ x) } in
    ap (λ (o : Option (List Attribute × List ℕ)). (o >>= tag_behind (codes "feature")) >>= token_behind)
    (three_read size b0 b1 b2 refl refl refl refl)

-- ---- lines of a script

abbrev Read : Type 0
Read = Result (List ℕ) TextFault

said_alone : (r : Read) → and_then r (λ (lines : List ℕ). Ok lines) ≡ r
said_alone (Ok lines) = refl
said_alone (Err fault) = refl

said_more : (es : Document) (e : Element) → ((lines : List ℕ) → lines_with lines (es ++ e ∷ []) ≡ and_then (lines_with lines es) (λ lines. step lines e)) → (r : Read) →
    and_then r (λ lines. lines_with lines (es ++ e ∷ [])) ≡ and_then (and_then r (λ lines. lines_with lines es)) (λ lines. step lines e)
said_more es e later (Ok lines) = later lines
said_more es e later (Err fault) = refl

-- one more element
lines_more : (before : List ℕ) (es : Document) (e : Element) → lines_with before (es ++ e ∷ []) ≡ and_then (lines_with before es) (λ lines. step lines e)
lines_more before [] e = said_alone (step before e)
lines_more before (d ∷ es) e = said_more es e (λ lines. lines_more lines es e) (step before d)

if_true : {A : Type 0} (t : Bool) (x y : A) → t ≡ true → cond t x y ≡ x
if_true t x y e = ap (λ (t : Bool). cond t x y) e

abbrev said_tag : (at0 at1 at2 : ℕ) → (automatic manual : Selection) → List ℕ → Tag
said_tag at0 at1 at2 automatic manual name = tagged (codes "feature")
    (record { at = at0; name = codes "automatic"; value = selection_word automatic } ∷ record { at = at1; name = codes "manual"; value = selection_word manual }
    ∷ record { at = at2; name = codes "name"; value = name } ∷ [])

element_says : (at at0 at1 at2 : ℕ) (automatic manual : Selection) (name : List ℕ) → is_name name ≡ true →
    feature_line (element at (said_tag at0 at1 at2 automatic manual name) (Some 0) []) ≡ Ok (decision_line (Some manual) name)
element_says at at0 at1 at2 Selected Selected name e = if_true (is_name name) _ _ e
element_says at at0 at1 at2 Unselected Selected name e = if_true (is_name name) _ _ e
element_says at at0 at1 at2 Undefined Selected name e = if_true (is_name name) _ _ e
element_says at at0 at1 at2 _ Unselected name e = if_true (is_name name) _ _ e
element_says at at0 at1 at2 _ _ name e = if_true (is_name name) _ _ e

-- ---- tokens up to the end

-- the document's element is open, and these begin in it
abbrev inside : Element → List Element → State
inside root es = record { elements = root ∷ es; opened = record { index = 0; name = codes "configuration" } ∷ [] }

abbrev outside : Element → List Element → State
outside root es = record { elements = root ∷ es; opened = [] }

-- the tokens of a text lead from a state to the end of a document with these lines
record Tail (size : ℕ) (text : List ℕ) (s : State) (lines : List ℕ) : Type 0 where
  pieces : List Placed
  end : State
  has : HasPieces size text pieces []
  runs : run pieces s ≡ Ok end
  whole : is_whole end ≡ true
  closed : end.opened ≡ []
  says : lines_with [] end.elements ≡ Ok lines

tail_token : (size : ℕ) (text behind : List ℕ) (token : Token) (s t : State) (lines : List ℕ) → token_at size text ≡ Some (token, behind) → run (pieces_of (place_of size text) token) s ≡ Ok t →
    Tail size behind t lines → Tail size text s lines
tail_token size text behind token s t lines e r h = record {
  pieces = pieces_of (place_of size text) token ++ h.pieces;
  end = h.end;
  has = one_token e h.has;
  runs = run_after (pieces_of (place_of size text) token) h.pieces s t r ∙ h.runs;
  whole = h.whole;
  closed = h.closed;
  says = h.says;
}

tail_end : (size : ℕ) (root : Element) (es : List Element) (lines : List ℕ) → lines_with [] (root ∷ es) ≡ Ok lines → Tail size (codes "</configuration>\n") (inside root es) lines
tail_end size root es lines says =
    let s : State = outside root es in
    let done : Tail size [] s lines = record { pieces = []; end = s; has = no_token; runs = run_end s; whole = refl; closed = refl; says = says } in
    tail_token size (codes "</configuration>\n") (codes "\n") (an_end (codes "configuration")) (inside root es) s lines refl
    (run_one (inside root es) s (place_of size (codes "</configuration>\n")) (closing (codes "configuration")) refl)
    (tail_token size (codes "\n") [] (a_character 10) s s lines refl (run_one s s (place_of size (codes "\n")) (character 10) refl) done)

tail_settings : (size : ℕ) (settings : List Setting) (root : Element) (es : List Element) (before : List ℕ) → AreNamed settings → lines_with [] (root ∷ es) ≡ Ok before →
    Tail size (flat_map setting_line settings ++ codes "</configuration>\n") (inside root es) (before ++ decision_lines settings)
tail_settings size [] root es before named says =
    subst (λ (lines : List ℕ). Tail size (codes "</configuration>\n") (inside root es) lines) (sym (append-nil before)) (tail_end size root es before says)
tail_settings size (s ∷ settings) root es before named says =
    let h = both_true (is_name s.name) (list_all (λ s. is_name s.name) settings) named in
    let x : List ℕ = flat_map setting_line settings ++ codes "</configuration>\n" in
    let text : List ℕ = codes "<feature" ++ from_automatic s x in
    let at : ℕ = place_of size text in
    let tag : Tag = setting_tag size s x in
    let e : Element = element at tag (Some 0) [] in
    let line : List ℕ = decision_line (Some s.manual) s.name in
    let root1 : Element = more_text (9 ∷ []) root in
    let root2 : Element = more_text (10 ∷ []) root1 in
    let more : List Element = es ++ e ∷ [] in
    let all : List ℕ = before ++ decision_lines (s ∷ settings) in
    let line_says : feature_line e ≡ Ok line =
    element_says at (place_of size (after_gap (from_automatic s x))) (place_of size (after_gap (from_manual s x))) (place_of size (after_gap (from_name s x))) s.automatic s.manual s.name h.0 in
    let says2 : lines_with [] (root2 ∷ more) ≡ Ok (before ++ line) =
    lines_more [] (root2 ∷ es) e ∙ (ap (λ (r : Result (List ℕ) TextFault). and_then r (λ lines. step lines e)) says ∙ ap (with_line before) line_says) in
    let lines_are : (before ++ line) ++ decision_lines settings ≡ all = append_assoc before line (decision_lines settings) in
    let text_is : codes "\t" ++ text ≡ flat_map setting_line (s ∷ settings) ++ codes "</configuration>\n" =
    sym (ap (λ (t : List ℕ). t ++ codes "</configuration>\n") (flat_map-cons setting_line s settings)
    ∙ (append_assoc (setting_line s) (flat_map setting_line settings) (codes "</configuration>\n") ∙ line_is s x)) in
    let next : Tail size x (inside root2 more) all =
    subst (λ (lines : List ℕ). Tail size x (inside root2 more) lines) lines_are (tail_settings size settings root2 more (before ++ line) h.1 says2) in
    subst (λ (t : List ℕ). Tail size t (inside root es) all) text_is
    (tail_token size (codes "\t" ++ text) text (a_character 9) (inside root es) (inside root1 es) all refl
    (run_one (inside root es) (inside root1 es) (place_of size (codes "\t" ++ text)) (character 9) refl)
    (tail_token size text (codes "\n" ++ x) (a_start tag true) (inside root1 es) (inside root1 more) all (feature_token size s x h.0)
    (run_empty (inside root1 es) at tag (Some 0) refl)
    (tail_token size (codes "\n" ++ x) x (a_character 10) (inside root1 more) (inside root2 more) all refl
    (run_one (inside root1 more) (inside root2 more) (place_of size (codes "\n" ++ x)) (character 10) refl) next)))

start_token : (size : ℕ) (x : List ℕ) → token_at size (codes "<configuration>\n" ++ x) ≡ Some (a_start (tagged (codes "configuration") []) false, codes "\n" ++ x)
start_token size x =
    let r : List ℕ = codes ">\n" ++ x in
    ap (λ (o : Option (List Attribute × List ℕ)). (o >>= tag_behind (codes "configuration")) >>= token_behind)
    (sym (attributes_end (length r) size [] r refl))

pub read_back : (settings : List Setting) → AreNamed settings → Decides (document_text settings) (decision_lines settings)
read_back settings named =
    let x : List ℕ = flat_map setting_line settings ++ codes "</configuration>\n" in
    let size : ℕ = length (document_text settings) in
    let lines : List ℕ = decision_lines settings in
    let text : List ℕ = codes "<configuration>\n" ++ x in
    let tag : Tag = tagged (codes "configuration") [] in
    let root : Element = element (place_of size text) tag None [] in
    let root1 : Element = more_text (10 ∷ []) root in
    let tail : Tail size (codes "\n" ++ text) start lines =
    tail_token size (codes "\n" ++ text) text (a_character 10) start start lines refl (run_one start start (place_of size (codes "\n" ++ text)) (character 10) refl)
    (tail_token size text (codes "\n" ++ x) (a_start tag false) start (inside root []) lines (start_token size x) (run_one start (inside root []) (place_of size text) (opening tag) refl)
    (tail_token size (codes "\n" ++ x) x (a_character 10) (inside root []) (inside root1 []) lines refl
    (run_one (inside root []) (inside root1 []) (place_of size (codes "\n" ++ x)) (character 10) refl)
    (tail_settings size settings root1 [] [] named refl))) in
    record {
      document = tail.end.elements;
      spells = record { body = codes "\n" ++ text; pieces = tail.pieces; body_is = body_is x; has = tail.has; is = document_found tail.pieces tail.end tail.whole tail.closed tail.runs };
      is = tail.says;
    }
