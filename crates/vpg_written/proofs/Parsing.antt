-- Marks of a tree make the tree, and pieces are made one by one.
use Rattle.std.proofs.Common.{◌≡◌, ℕ, zero, suc, ◌+◌, ◌-◌, ◌<◌, ◌≤◌, Bool, true, false, List, [], ◌∷◌, ◌++◌, length, take, drop, get_or, refl, sym, subst, ◌∙◌, ap, ap₂, arith, append_assoc, length-append}
use Rattle.std.proofs.lemmas.List.{append-nil, take_more, take_all}
use Rattle.vpg_requirement.specs.Actions.{ActionFormula}
use Rattle.vpg_parts.specs.Sets.{actions_at}
use Rattle.vpg_formula.specs.Regular.{Regular, every_action, no_action, action, other_than, both_of, either_of, sequence, choice, repeated, repeated_once}
use Rattle.vpg_formula.specs.Written.{Prefix, negated, some_path, every_path, always, never, possibly, inevitably, again_and_again, after, mu, nu, Written, constant, named, deadlock_free, can, will, prefixed, conjunction, disjunction, implication, binding}
use Rattle.vpg_formula.specs.Marks.{written_marks}
use Rattle.vpg_formula.specs.declared.mark.Mark.{Mark}
use Rattle.vpg_written.specs.Trees.{Tree, nothing, node, leaf, tree_marks, regular_tree, tree_of, actions_in}
use Rattle.vpg_written.specs.Terms.{IsTerm, AreSets, IsSetBy, set_at_end, length_at_end}
use Rattle.vpg_written.specs.Parsing.{arity, reduced, parsed, below_top, first_of, last_of, rest_of, AreStacked, IsLastTerm, AreOperands, IsMade}
use Rattle.vpg_written.specs.declared.piece.Piece.{Piece}
use Rattle.vpg_written.proofs.Linking.{marks_are}
use Rattle.vpg_meaning.specs.Labels.{none_of_them}
use Rattle.vpg_written.proofs.Cutting.{take_front, drop_front}
use Rattle.vpg_written.proofs.Values.{same_actions}

-- each mark of the tree has cs many operands cs it takes
pub data IsFit : Tree → Type 0 where
  without : {m : Mark} → arity m ≡ 0 → IsFit (leaf m)
  with_one : {m : Mark} {t : Tree} → arity m ≡ 1 → IsFit t → IsFit (node m nothing t)
  with_two : {m : Mark} {s t : Tree} → arity m ≡ 2 → IsFit s → IsFit t → IsFit (node m s t)

pub fit_parsed : (t : Tree) → IsFit t → (ts : List Tree) (ms : List Mark) → parsed ts (tree_marks t ++ ms) ≡ parsed (t ∷ ts) ms
fit_parsed t (without {m} e) ts ms = ap (λ (n : ℕ). parsed (reduced n m ts) ms) e
fit_parsed t (with_one {m} {t = u} e h) ts ms = ap (parsed ts) (append_assoc (tree_marks u) (m ∷ []) ms) ∙ fit_parsed u h ts (m ∷ ms) ∙ ap (λ (n : ℕ). parsed (reduced n m (u ∷ ts)) ms) e
fit_parsed t (with_two {m} {s} {t = u} e h k) ts ms =
    ap (parsed ts) (append_assoc (tree_marks s) (tree_marks u ++ m ∷ []) ms ∙ ap (λ (rest : List Mark). tree_marks s ++ rest) (append_assoc (tree_marks u) (m ∷ []) ms))
    ∙ fit_parsed s h ts (tree_marks u ++ m ∷ ms) ∙ fit_parsed u k (s ∷ ts) (m ∷ ms) ∙ ap (λ (n : ℕ). parsed (reduced n m (u ∷ s ∷ ts)) ms) e

regular_fit : (x : Regular) → IsFit (regular_tree x)
regular_fit every_action = without refl
regular_fit no_action = without refl
regular_fit (action label) = without refl
regular_fit (other_than x) = with_one refl (regular_fit x)
regular_fit (both_of x y) = with_two refl (regular_fit x) (regular_fit y)
regular_fit (either_of x y) = with_two refl (regular_fit x) (regular_fit y)
regular_fit (sequence x y) = with_two refl (regular_fit x) (regular_fit y)
regular_fit (choice x y) = with_two refl (regular_fit x) (regular_fit y)
regular_fit (repeated x) = with_one refl (regular_fit x)
regular_fit (repeated_once x) = with_one refl (regular_fit x)

behind_fit : (p : Prefix) (f : Written) → IsFit (tree_of f) → IsFit (tree_of (prefixed p f))
behind_fit negated f h = with_one refl h
behind_fit (some_path x) f h = with_two refl (regular_fit x) h
behind_fit (every_path x) f h = with_two refl (regular_fit x) h
behind_fit always f h = with_one refl h
behind_fit never f h = with_one refl h
behind_fit possibly f h = with_one refl h
behind_fit inevitably f h = with_one refl h
behind_fit again_and_again f h = with_one refl h
behind_fit (after x) f h = with_two refl (regular_fit x) h

written_fit : (f : Written) → IsFit (tree_of f)
written_fit (constant true) = without refl
written_fit (constant false) = without refl
written_fit (named x) = without refl
written_fit deadlock_free = without refl
written_fit (can x) = with_one refl (regular_fit x)
written_fit (will x) = with_one refl (regular_fit x)
written_fit (prefixed p f) = behind_fit p f (written_fit f)
written_fit (conjunction f g) = with_two refl (written_fit f) (written_fit g)
written_fit (disjunction f g) = with_two refl (written_fit f) (written_fit g)
written_fit (implication f g) = with_two refl (written_fit f) (written_fit g)
written_fit (binding mu x f) = with_one refl (written_fit f)
written_fit (binding nu x f) = with_one refl (written_fit f)

-- the marks of a formula make its tree
pub written_parsed : (f : Written) → parsed [] (written_marks f) ≡ tree_of f ∷ []
written_parsed f = ap (parsed []) (sym (append-nil (written_marks f)) ∙ ap (λ (ms : List Mark). ms ++ []) (sym (marks_are f))) ∙ fit_parsed (tree_of f) (written_fit f) [] []

pub parsed_more : (ts : List Tree) (xs : List Mark) (m : Mark) → parsed ts (xs ++ m ∷ []) ≡ reduced (arity m) m (parsed ts xs)
parsed_more ts [] m = refl
parsed_more ts (x ∷ xs) m = parsed_more (reduced (arity x) x ts) xs m

-- ---- pieces

pub term_grows : (names : List (List ℕ)) (actions more : List ActionFormula) → ((x : ℕ) → x < length actions → actions_at (actions ++ more) x ≡ actions_at actions x) → (t : Tree) (ps : List Piece) → IsTerm names actions t ps → IsTerm names (actions ++ more) t ps
term_grows names actions more same nothing ps h = h
term_grows names actions more same (node m s t) ps (us, vs, p, whole, first, second, piece) = (
  us,
  vs,
  p,
  whole,
  term_grows names actions more same s us first,
  term_grows names actions more same t vs second,
  record {
    mark = piece.mark;
    whole = piece.whole;
    last = piece.last;
    known = omega (arith, piece.known, length-append actions more);
    set = same p.set piece.known ∙ piece.set;
  },
)

pub stack_grows : (names : List (List ℕ)) (actions more : List ActionFormula) → ((x : ℕ) → x < length actions → actions_at (actions ++ more) x ≡ actions_at actions x) → (ts : List Tree) (ps : List Piece) → AreStacked names actions ts ps → AreStacked names (actions ++ more) ts ps
stack_grows names actions more same [] ps h = h
stack_grows names actions more same (t ∷ ts) ps (us, vs, whole, some, below, top) = (us, vs, whole, some, stack_grows names actions more same ts us below, term_grows names actions more same t vs top)

-- ---- the set of a term is that of its tree

pub set_of_term : (names : List (List ℕ)) (actions : List ActionFormula) → actions_at actions 1 ≡ none_of_them → (t : Tree) (ps : List Piece) → IsTerm names actions t ps → actions_at actions (set_at_end ps) ≡ actions_in names t
set_of_term names actions none nothing ps e = ap (λ (qs : List Piece). actions_at actions (set_at_end qs)) e ∙ none
set_of_term names actions none (node m s t) ps (us, vs, p, whole, first, second, piece) = ap (λ (qs : List Piece). actions_at actions (set_at_end qs)) (whole ∙ sym (append_assoc us vs (p ∷ []))) ∙ ap (actions_at actions) (at_last (us ++ vs)) ∙ piece.set
  where
    at_last : (qs : List Piece) → set_at_end (qs ++ p ∷ []) ≡ p.set
    at_last [] = refl
    at_last (q ∷ []) = refl
    at_last (q ∷ r ∷ qs) = at_last (r ∷ qs)

-- ---- the last term

module _ (names : List (List ℕ)) (actions : List ActionFormula) where
  none_taken : (n : ℕ) → take {A = Piece} n [] ≡ []
  none_taken zero = refl
  none_taken (suc n) = refl

  none_dropped : (n : ℕ) → drop {A = Piece} n [] ≡ []
  none_dropped zero = refl
  none_dropped (suc n) = refl

  long_last : (qs : List Piece) (p : Piece) → length_at_end (qs ++ p ∷ []) ≡ p.length
  long_last [] p = refl
  long_last (q ∷ []) p = refl
  long_last (q ∷ r ∷ qs) p = long_last (r ∷ qs) p

  pub last_by_length : (ts : List Tree) (ps front last : List Piece) (n : ℕ) → n ≡ length ps - length_at_end ps → front ≡ take n ps → last ≡ drop n ps → AreStacked names actions ts ps → IsLastTerm names actions ts ps front last
  last_by_length [] ps front last n e before behind h = record {
    whole = h ∙ ap₂ (λ (xs ys : List Piece). xs ++ ys) (sym (before ∙ ap (take n) h ∙ none_taken n)) (sym (behind ∙ ap (drop n) h ∙ none_dropped n));
    below = before ∙ ap (take n) h ∙ none_taken n;
    top = behind ∙ ap (drop n) h ∙ none_dropped n;
  }
  last_by_length (nothing ∷ ts) ps front last n e before behind (us, vs, whole, some, below, term) = absurd some
  last_by_length (node m s t ∷ ts) ps front last n e before behind (us, vs, whole, some, below, (xs, ys, p, more, first, second, piece)) = record {
    whole = whole ∙ ap₂ (λ (zs ws : List Piece). zs ++ ws) (sym front_is) (sym last_is);
    below = subst (AreStacked names actions ts) (sym front_is) below;
    top = subst (IsTerm names actions (node m s t)) (sym last_is) (xs, ys, p, more, first, second, piece);
  }
    where
      cut : ps ≡ (us ++ (xs ++ ys)) ++ p ∷ []
      cut = whole ∙ ap (λ (zs : List Piece). us ++ zs) (more ∙ sym (append_assoc xs ys (p ∷ []))) ∙ sym (append_assoc us (xs ++ ys) (p ∷ []))

      count : length ps ≡ length (us ++ (xs ++ ys)) + 1
      count = ap length cut ∙ length-append (us ++ (xs ++ ys)) (p ∷ [])

      long : length_at_end ps ≡ length xs + length ys + 1
      long = ap length_at_end cut ∙ long_last (us ++ (xs ++ ys)) p ∙ piece.whole

      here : n ≡ length us
      here = omega (arith, e, long, count, length-append us (xs ++ ys), length-append xs ys)

      front_is : front ≡ us
      front_is = before ∙ ap (take n) whole ∙ take_front us vs n here

      last_is : last ≡ vs
      last_is = behind ∙ ap (drop n) whole ∙ drop_front us vs n here

  -- ---- operands

  pub nothing_taken : (n : ℕ) (ts : List Tree) (ps none also : List Piece) → n ≡ 0 → none ≡ [] → also ≡ [] → AreStacked names actions ts ps → AreOperands names actions n ts ps none also
  nothing_taken zero ts ps none also z e k h = record {
    front = ps;
    whole = sym (append-nil ps) ∙ ap₂ (λ (xs ys : List Piece). ps ++ (xs ++ ys)) (sym e) (sym k);
    below = h;
    first_is = e;
    last_is = k;
  }
  nothing_taken (suc n) ts ps none also z e k h = absurd (omega arith)

  pub two_operands : (n : ℕ) (ts : List Tree) (ps front last before first : List Piece) → IsLastTerm names actions ts ps front last → IsLastTerm names actions (below_top ts) front before first → (n ≡ 0 → ⊥) → (n ≡ 1 → ⊥) → AreOperands names actions n ts ps first last
  two_operands zero ts ps front last before first h k z o = absurd (z refl)
  two_operands (suc zero) ts ps front last before first h k z o = absurd (o refl)
  two_operands (suc (suc n)) ts ps front last before first h k z o = record {
    front = before;
    whole = h.whole ∙ ap (λ (xs : List Piece). xs ++ last) k.whole ∙ append_assoc before first last;
    below = k.below;
    first_is = k.top;
    last_is = h.top;
  }

  -- ---- one more piece

  pub one_more_piece : (m : Mark) (ts : List Tree) (sets : List (List Bool)) (ps first last : List Piece) (p : Piece) → actions_at actions 1 ≡ none_of_them → AreOperands names actions (arity m) ts ps first last →
      IsSetBy names m actions (set_at_end first) (set_at_end last) sets p.set → p.mark.now ≡ m → p.length ≡ length first + length last + 1 → p.last ≡ length last → IsMade names actions (reduced (arity m) m ts) sets (ps ++ p ∷ [])
  one_more_piece m ts sets ps first last p none ops set mark whole count = record {
    more = set.more;
    are = set.are;
    stacked = (
      ops.front,
      first ++ (last ++ p ∷ []),
      ap (λ (xs : List Piece). xs ++ p ∷ []) ops.whole ∙ append_assoc ops.front (first ++ last) (p ∷ []) ∙ ap (λ (xs : List Piece). ops.front ++ xs) (append_assoc first last (p ∷ [])),
      tt,
      stack_grows names actions set.more (same_actions actions set.more) (rest_of (arity m) ts) ops.front ops.below,
      (
        first,
        last,
        p,
        refl,
        term_grows names actions set.more (same_actions actions set.more) (first_of (arity m) ts) first ops.first_is,
        term_grows names actions set.more (same_actions actions set.more) (last_of (arity m) ts) last ops.last_is,
        record {
          mark = mark;
          whole = whole;
          last = count;
          known = set.known;
          set = set.set (first_of (arity m) ts) (last_of (arity m) ts)
              (set_of_term names actions none (first_of (arity m) ts) first ops.first_is) (set_of_term names actions none (last_of (arity m) ts) last ops.last_is);
        },
      ),
    );
  }

-- first so many sets more, and then more
pub made_further : (names : List (List ℕ)) (actions : List ActionFormula) (ts us : List Tree) (sets later : List (List Bool)) (ps qs : List Piece) (made : IsMade names actions ts sets ps) → IsMade names (actions ++ made.more) us later qs → IsMade names actions us later qs
made_further names actions ts us sets later ps qs made h = record {
  more = made.more ++ h.more;
  are = subst (AreSets names later) (append_assoc actions made.more h.more) h.are;
  stacked = subst (λ (xs : List ActionFormula). AreStacked names xs us qs) (append_assoc actions made.more h.more) h.stacked;
}

-- no piece yet
pub none_made : (names : List (List ℕ)) (actions : List ActionFormula) (sets : List (List Bool)) (ps : List Piece) → ps ≡ [] → AreSets names sets actions → IsMade names actions [] sets ps
none_made names actions sets ps e are = record {
  more = [];
  are = subst (AreSets names sets) (sym (append-nil actions)) are;
  stacked = e;
}

-- the pieces of one more mark
pub mark_made : (names : List (List ℕ)) (actions : List ActionFormula) (ms : List Mark) (i : ℕ) (m : Mark) (sets later : List (List Bool)) (ps qs : List Piece) (p : Piece) → i < length ms → m ≡ get_or ms i m → IsMade names actions (parsed [] (take i ms)) sets ps →
    ((acts : List ActionFormula) (ts : List Tree) → AreSets names sets acts → AreStacked names acts ts ps → IsMade names acts (reduced (arity m) m ts) later (ps ++ p ∷ [])) → qs ≡ ps ++ p ∷ [] → IsMade names actions (parsed [] (take (i + 1) ms)) later qs
mark_made names actions ms i m sets later ps qs p l is made h e =
    subst (λ (ts : List Tree). IsMade names actions ts later qs) (sym (ap (parsed []) (take_more ms i m l ∙ ap (λ (n : Mark). take i ms ++ n ∷ []) (sym is)) ∙ parsed_more [] (take i ms) m))
    (subst (IsMade names actions (reduced (arity m) m (parsed [] (take i ms))) later) (sym e)
    (made_further names actions (parsed [] (take i ms)) (reduced (arity m) m (parsed [] (take i ms))) sets later ps (ps ++ p ∷ []) made (h (actions ++ made.more) (parsed [] (take i ms)) made.are made.stacked)))

pub all_made : (names : List (List ℕ)) (actions : List ActionFormula) (ms : List Mark) (i : ℕ) (sets : List (List Bool)) (ps : List Piece) → length ms ≤ i → IsMade names actions (parsed [] (take i ms)) sets ps → IsMade names actions (parsed [] ms) sets ps
all_made names actions ms i sets ps l made = subst (λ (xs : List Mark). IsMade names actions (parsed [] xs) sets ps) (take_all i ms l) made
