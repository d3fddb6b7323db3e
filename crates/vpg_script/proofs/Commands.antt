use Rattle.std.proofs.Common.{◌≡◌, ℕ, suc, zero, ◌+◌, ◌*◌, ◌≤◌, ◌<◌, Bool, true, false, cond, List, [], ◌∷◌, ◌++◌, length, get_or, drop, min, map, Option, Some, None, option_map, Result, Ok, Err, refl, sym, ap, ◌∙◌, arith, append_assoc}
use Rattle.std.proofs.lemmas.List.{append-nil, drop_all, drop_more, map-append}
use Rattle.std.specs.Prelude.{IfOk}
use Rattle.std.specs.List.{find}
use Rattle.std.specs.Borrow.{Bor}
use Rattle.vpg_script.specs.declared.forms.Parameter.{Parameter}
use Rattle.vpg_script.specs.declared.arguments.Argument.{Argument as Code}
use Rattle.vpg_script.specs.declared.look.PageLook.{PageLook}
use Rattle.vpg_script.specs.declared.command.Command.{Command}
use Rattle.vpg_script.specs.Script as script
use Rattle.vpg_script.specs.Script.{Argument, all_there, argument_and, argument_by, arguments_by, asserted, claims_in, lift_of, next_parameter, verdicts_command}
use Rattle.vpg_script.specs.View.{argument_shown, command_shown, texts}

pub capped : (above v w d : ℕ) → v ≡ min above w → min above (v * 10 + d) ≡ min above (w * 10 + d)
capped above v w d h = omega arith

-- ---- values that each name something

module _ {A B X : Type 0} (shown : A → B) (named : B → Option X) where
  pub all_named : (found : List X) (values : List (Option X)) → values ≡ map Some found → all_there values ≡ Some found
  all_named found values is = ap all_there is ∙ go found
    where
      go : (xs : List X) → all_there (map Some xs) ≡ Some xs
      go [] = refl
      go (x ∷ xs) = ap (option_map (λ ys. x ∷ ys)) (go xs)

  -- one names nothing
  pub none_at : (values : List A) (i : ℕ) (d : A) → i < length values → named (shown (get_or values i d)) ≡ None → all_there (map named (map shown values)) ≡ None
  none_at [] i d l none = absurd (omega (arith, l))
  none_at (v ∷ values) zero d l none = ap (λ (x : Option X). all_there (x ∷ map named (map shown values))) none
  none_at (v ∷ values) (suc i) d l none = go (named (shown v)) (none_at values i d (omega (arith, l)) none)
    where
      go : (x : Option X) → all_there (map named (map shown values)) ≡ None → all_there (x ∷ map named (map shown values)) ≡ None
      go None rest = refl
      go (Some x) rest = ap (option_map (λ ys. x ∷ ys)) rest

-- what is none is shown as none
pub shown_none : {A B : Type 0} (shown : A → B) (found : Option A) (named : Option B) → found ≡ None → option_map shown found ≡ named → named ≡ None
shown_none shown found named none is = sym is ∙ ap (option_map shown) none

-- the first value that is shown as one of this kind
pub find_shown : {A B : Type 0} (shown : A → B) (test : B → Bool) (values : List A) → option_map shown (find (λ v. test (shown v)) values) ≡ find test (map shown values)
find_shown shown test [] = refl
find_shown shown test (v ∷ values) = go (test (shown v)) (find_shown shown test values)
  where
    go : (b : Bool) → option_map shown (find (λ x. test (shown x)) values) ≡ find test (map shown values)
        → option_map shown (cond b (Some v) (find (λ x. test (shown x)) values)) ≡ cond b (Some (shown v)) (find test (map shown values))
    go true rest = refl
    go false rest = rest

-- ---- words that are read one by one

-- some arguments, and then those of further words
abbrev pub after : List Argument → Option (List Argument) → Option (List Argument)
after done further = option_map (λ (more : List Argument). done ++ more) further

pub after_none : (further : Option (List Argument)) → further ≡ after [] further
after_none None = refl
after_none (Some more) = refl

after_one : (done : List Argument) (argument : Argument) (further : Option (List Argument)) → after done (argument_and (Some argument) further) ≡ after (done ++ argument ∷ []) further
after_one done argument None = refl
after_one done argument (Some more) = ap Some (sym (append_assoc done (argument ∷ []) more))

module _ (parameters : List Parameter) (rest : Option Parameter) (words : List (Bor (List ℕ))) (i : ℕ) (d : Bor (List ℕ)) (done : List Argument) (l : i < length words) where
  one_more : (argument : Option Argument) → argument ≡ argument_by (next_parameter parameters rest) (get_or words i d).now →
      after done (arguments_by parameters rest (texts (drop i words))) ≡ after done (argument_and argument (arguments_by (drop 1 parameters) rest (texts (drop (i + 1) words))))
  one_more argument is =
      ap (λ (ws : List (Bor (List ℕ))). after done (arguments_by parameters rest (texts ws))) (drop_more words i d l)
      ∙ ap (λ (a : Option Argument). after done (argument_and a (arguments_by (drop 1 parameters) rest (texts (drop (i + 1) words))))) (sym is)

  -- the next word says something
  pub read_one : (argument : Argument) → Some argument ≡ argument_by (next_parameter parameters rest) (get_or words i d).now →
      after done (arguments_by parameters rest (texts (drop i words))) ≡ after (done ++ argument ∷ []) (arguments_by (drop 1 parameters) rest (texts (drop (i + 1) words)))
  read_one argument is = one_more (Some argument) is ∙ after_one done argument (arguments_by (drop 1 parameters) rest (texts (drop (i + 1) words)))

  -- the next word says nothing
  pub read_none : None ≡ argument_by (next_parameter parameters rest) (get_or words i d).now →
      after done (arguments_by parameters rest (texts (drop i words))) ≡ None
  read_none is = one_more None is

-- there are no more words
pub read_all : (parameters : List Parameter) (rest : Option Parameter) (words : List (Bor (List ℕ))) (i : ℕ) (done : List Argument) → length words ≤ i →
    after done (arguments_by parameters rest (texts (drop i words))) ≡ Some done
read_all parameters rest words i done h =
    ap (λ (ws : List (Bor (List ℕ))). after done (arguments_by parameters rest (texts ws))) (drop_all i words h) ∙ ap Some (append-nil done)

-- ---- arguments of the code

-- nothing is read
pub begun : (items : List Code) → items ≡ [] → (further : Option (List Argument)) → further ≡ after (map argument_shown items) further
begun items e further = after_none further ∙ ap (λ (xs : List Code). after (map argument_shown xs) further) (sym e)

one_shown : (items new : List Code) (argument : Code) → new ≡ items ++ argument ∷ [] → map argument_shown items ++ argument_shown argument ∷ [] ≡ map argument_shown new
one_shown items new argument e = sym (map-append argument_shown items (argument ∷ [])) ∙ ap (map argument_shown) (sym e)

-- a word is read
pub one_word : (parameters later : List Parameter) (rest : Option Parameter) (words : List (Bor (List ℕ))) (i : ℕ) (d : Bor (List ℕ)) (items new : List Code) (argument : Code) →
    i < length words → Some (argument_shown argument) ≡ argument_by (next_parameter parameters rest) (get_or words i d).now → new ≡ items ++ argument ∷ [] → later ≡ drop 1 parameters →
    after (map argument_shown items) (arguments_by parameters rest (texts (drop i words))) ≡ after (map argument_shown new) (arguments_by later rest (texts (drop (i + 1) words)))
one_word parameters later rest words i d items new argument l is e behind =
    read_one parameters rest words i d (map argument_shown items) l (argument_shown argument) is
    ∙ ap (λ (done : List Argument). after done (arguments_by (drop 1 parameters) rest (texts (drop (i + 1) words)))) (one_shown items new argument e)
    ∙ ap (λ (ps : List Parameter). after (map argument_shown new) (arguments_by ps rest (texts (drop (i + 1) words)))) (sym behind)

-- ---- more arguments than one

-- a lift has two arguments
pub no_lift : (first : Argument) (more : List Code) → 2 ≤ length more → None ≡ lift_of first (map argument_shown more)
no_lift first [] h = absurd (omega arith)
no_lift first (a ∷ []) h = absurd (omega arith)
no_lift first (a ∷ b ∷ more) h = refl

several : (state : Option PageLook) (vertex : script.Vertex) (verdicts : List Code) → 2 ≤ length verdicts →
    option_map (verdicts_command vertex) (claims_in (map argument_shown verdicts)) ≡ asserted state vertex (map argument_shown verdicts)
several state vertex [] h = absurd (omega arith)
several state vertex (a ∷ []) h = absurd (omega arith)
several state vertex (a ∷ b ∷ more) h = refl

-- several verdicts of a vertex
pub several_as : {E : Type 0} (state : Option PageLook) (vertex : script.Vertex) (verdicts : List Code) (r : Result (Option Command) E) → 2 ≤ length verdicts →
    IfOk r (λ found. option_map command_shown found ≡ option_map (verdicts_command vertex) (claims_in (map argument_shown verdicts))) →
    IfOk r (λ found. option_map command_shown found ≡ asserted state vertex (map argument_shown verdicts))
several_as state vertex verdicts (Ok found) h is = is ∙ several state vertex verdicts h
several_as state vertex verdicts (Err e) h is = tt
