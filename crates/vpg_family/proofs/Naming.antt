-- The set that words name, word by word.
use Rattle.std.proofs.Common.{◌≡◌, ℕ, zero, suc, ◌+◌, ◌<◌, Bool, true, false, ◌||◌, List, [], ◌∷◌, ◌++◌, length, take, set, map, replicate, get_or, Some, slice_get, Contains, refl, sym, ap, subst, ◌∙◌, arith, Bor}
use Rattle.std.specs.List.{list_any}
use Rattle.std.specs.Str.{bytes_eq}
use Rattle.std.proofs.lemmas.List.{take_more, length-map, get_or-map}
use Rattle.std.proofs.lemmas.List.Elements.{All-nil, All-push}
use Rattle.std.proofs.lemmas.Option.{slice_get_within, get_or_from_slice_get, slice_get-get_or}
use Rattle.std.proofs.lemmas.Bool.{or_right}
use Rattle.std.proofs.lemmas.List.Folds.{list_any-append}
use Rattle.vpg_features.proofs.Held.{same_bytes, other_bytes}
use Rattle.vpg_features.specs.Names.{Lacks, AreDistinct}
use Rattle.vpg_diagram.specs.DiagramText.{NamedDiagram}
use Rattle.vpg_diagram.specs.FeatureDiagram.{IsProduct}
use Rattle.vpg_game.specs.Game.{NamedGame}
use Rattle.vpg_hope.specs.Plain.{projection, plain_text}
use Rattle.vpg_family.specs.Families.{AreKnown, set_of, IsNamedSet, IsUnknown, TellsUnknown, IsProjected, IsNotProjected}
use Rattle.vpg_family.specs.declared.fault.Fault.{Fault}
use Rattle.vpg_family.specs.declared.fault.Fault.TheVariants as told

-- ---- one word more

or_false : (b : Bool) → (b || false) ≡ b
or_false true = refl
or_false false = refl

any_other : (p : List ℕ → Bool) (words : List (List ℕ)) (word : List ℕ) → p word ≡ false → list_any p (words ++ word ∷ []) ≡ list_any p words
any_other p words word e = list_any-append p words (word ∷ []) ∙ ap (λ (t : Bool). list_any p words || (t || false)) e ∙ or_false (list_any p words)

-- a word that is none of the names changes nothing
set_kept : (names words : List (List ℕ)) (word : List ℕ) → Lacks names word → set_of names words ≡ set_of names (words ++ word ∷ [])
set_kept [] words word lacks = refl
set_kept (n ∷ names) words word lacks =
    let other = other_bytes n word (λ same. lacks zero (ap (λ (m : List ℕ). Some m) same)) in
    ap (λ (t : Bool). t ∷ set_of names words) (sym (any_other (bytes_eq n) words word other))
    ∙ ap (λ (ts : List Bool). list_any (bytes_eq n) (words ++ word ∷ []) ∷ ts) (set_kept names words word (λ i. lacks (suc i)))

-- a word that is the name at a place puts it in
set_more : (names words : List (List ℕ)) (word : List ℕ) (f : ℕ) → AreDistinct names → slice_get names f ≡ Some word → set (set_of names words) f true ≡ set_of names (words ++ word ∷ [])
set_more [] words word f distinct e = absurd cc
set_more (n ∷ names) words word zero distinct e =
    let same : n ≡ word = cc in
    let any : list_any (bytes_eq n) (words ++ word ∷ []) ≡ true =
    list_any-append (bytes_eq n) words (word ∷ []) ∙ or_right (list_any (bytes_eq n) words) (bytes_eq n word || false) (ap (λ (t : Bool). t || false) (same_bytes n word same)) in
    ap (λ (t : Bool). t ∷ set_of names words) (sym any)
    ∙ ap (λ (ts : List Bool). list_any (bytes_eq n) (words ++ word ∷ []) ∷ ts) (set_kept names words word (subst (Lacks names) same distinct.0))
set_more (n ∷ names) words word (suc f) distinct e =
    let other = other_bytes n word (λ same. distinct.0 f (e ∙ ap (λ (m : List ℕ). Some m) (sym same))) in
    ap (λ (t : Bool). t ∷ set (set_of names words) f true) (sym (any_other (bytes_eq n) words word other))
    ∙ ap (λ (ts : List Bool). list_any (bytes_eq n) (words ++ word ∷ []) ∷ ts) (set_more names words word f distinct.1 e)

held_contains : (names : List (List ℕ)) (word : List ℕ) (f : ℕ) → slice_get names f ≡ Some word → Contains names word
held_contains names word f e = (f, slice_get_within names f word e, get_or_from_slice_get names f word word e)

named_more : (names words : List (List ℕ)) (word : List ℕ) (f : ℕ) (old : List Bool) → AreDistinct names → slice_get names f ≡ Some word → IsNamedSet names words old → IsNamedSet names (words ++ word ∷ []) (set old f true)
named_more names words word f old distinct e is = record {
  known = All-push (Contains names) words word is.known (held_contains names word f e);
  set_is = ap (λ (s : List Bool). set s f true) is.set_is ∙ set_more names words word f distinct e;
}

-- ---- the words of a slice, as far as a loop has come

abbrev pub texts : List (Bor (List ℕ)) → List (List ℕ)
texts words = map (λ word. word.now) words

-- what a look-up past the end gives
abbrev pub no_word : Bor (List ℕ)
no_word = record { ref_ptr = (0, 0); now = [] }

abbrev pub word_at : List (Bor (List ℕ)) → ℕ → List ℕ
word_at words i = (get_or words i no_word).now

within : (words : List (Bor (List ℕ))) (i : ℕ) → i < length words → i < length (texts words)
within words i lt = omega (arith, length-map words (λ (w : Bor (List ℕ)). w.now))

at : (words : List (Bor (List ℕ))) (i : ℕ) → i < length words → get_or (texts words) i [] ≡ word_at words i
at words i lt = get_or-map (λ (w : Bor (List ℕ)). w.now) words i no_word [] lt

texts_more : (words : List (Bor (List ℕ))) (i : ℕ) → i < length words → take (i + 1) (texts words) ≡ take i (texts words) ++ word_at words i ∷ []
texts_more words i lt =
    take_more (texts words) i [] (within words i lt) ∙ ap (λ (w : List ℕ). take i (texts words) ++ w ∷ []) (at words i lt)

none_named : (names : List (List ℕ)) → replicate (length names) false ≡ set_of names []
none_named [] = refl
none_named (n ∷ names) = ap (λ (ts : List Bool). false ∷ ts) (none_named names)

-- before the first word
pub named_first : (names : List (List ℕ)) (set : List Bool) → set ≡ replicate (length names) false → IsNamedSet names [] set
named_first names set e = record { known = All-nil (Contains names); set_is = e ∙ none_named names }

-- after one word more
pub named_next : (names : List (List ℕ)) (words : List (Bor (List ℕ))) (i f : ℕ) (old : List Bool) → i < length words → AreDistinct names → slice_get names f ≡ Some (word_at words i)
    → IsNamedSet names (take i (texts words)) old → IsNamedSet names (take (i + 1) (texts words)) (set old f true)
named_next names words i f old lt distinct e is =
    subst (λ (ws : List (List ℕ)). IsNamedSet names ws (set old f true)) (sym (texts_more words i lt)) (named_more names (take i (texts words)) (word_at words i) f old distinct e is)

-- a place of a name is one of the set
pub named_within : (names words : List (List ℕ)) (word : List ℕ) (f : ℕ) (set : List Bool) → slice_get names f ≡ Some word → IsNamedSet names words set → f < length set
named_within names words word f set e is =
    omega (arith, slice_get_within names f word e, ap length is.set_is, length-map names (λ (name : List ℕ). list_any (bytes_eq name) words))

-- what is told of a word is told of all of them, where those before it are known
pub unknown_first : (names : List (List ℕ)) (words : List (Bor (List ℕ))) (i : ℕ) (fault : Fault) → i < length words → AreKnown names (take i (texts words))
    → IsUnknown names (word_at words i) fault → TellsUnknown names (texts words) fault
unknown_first names words i (told.UnknownFeature name) lt known h =
    let here : slice_get (texts words) i ≡ Some (word_at words i) = slice_get-get_or (texts words) i [] (within words i lt) ∙ ap (λ (w : List ℕ). Some w) (at words i lt) in
    (i, here ∙ ap (λ (w : List ℕ). Some w) (sym h.0), known, subst (Lacks names) (sym h.0) h.1)
unknown_first names words i told.Memory lt known h = tt
unknown_first names words i _ lt known h = absurd h

-- ---- products

-- an unknown word is told of a product too
pub unknown_product : (diagram : NamedDiagram) (words : List (List ℕ)) (fault : Fault) → TellsUnknown diagram.names words fault → IsNotProjected diagram words fault
unknown_product diagram words told.NotAProduct h = absurd h
unknown_product diagram words _ h = h

pub no_product : (diagram : NamedDiagram) (words : List (List ℕ)) (set : List Bool) → IsNamedSet diagram.names words set → (IsProduct diagram.lines set → ⊥) → IsNotProjected diagram words told.NotAProduct
no_product diagram words set is none = (is.known, λ product. none (subst (IsProduct diagram.lines) (sym is.set_is) product))

pub projected : (diagram : NamedDiagram) (game : NamedGame) (words : List (List ℕ)) (set : List Bool) (text : List ℕ) → IsNamedSet diagram.names words set → IsProduct diagram.lines set
    → text ≡ plain_text (projection set game) → IsProjected diagram game words text
projected diagram game words set text is product written = record {
  known = is.known;
  product = subst (IsProduct diagram.lines) is.set_is product;
  text_is = written ∙ ap (λ (s : List Bool). plain_text (projection s game)) is.set_is;
}
