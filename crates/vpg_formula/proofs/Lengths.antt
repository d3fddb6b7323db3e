-- How long words are, as loops count it.
use Rattle.std.proofs.Common.{◌≡◌, ℕ, zero, suc, ◌+◌, ◌-◌, ◌<◌, ◌≤◌, Bool, true, false, cond, List, [], ◌∷◌, ◌≢◌, length, get_or, take, drop, Option, Some, None, refl, sym, ap, ◌∙◌, arith}
use Rattle.std.specs.Prelude.{option_map, ◌&&◌, ◌||◌, ◌==◌}
use Rattle.std.proofs.lemmas.List.{at_drop_more, at_drop_all, length-drop, take_all}
use Rattle.std.specs.Prelude.{unwrap_or}
use Rattle.std.specs.List.{prefix_len}
use Rattle.vpg_features.specs.Names.{is_name_byte}
use Rattle.vpg_formula.specs.ActionCode.{end_at}
use Rattle.vpg_formula.specs.Words.{is_keyword, starts_name, name_len, is_pair, gap_len, one_more, ended, opening, go_on, open_behind, action_len, quote_len, word_and, after_gap, words_with, words_of, word_len}

-- so many bytes, and then these
abbrev pub shifted : ℕ → Option ℕ → Option ℕ
shifted at n = option_map (λ k. at + k) n

one_shifted : (at : ℕ) (o : Option ℕ) → shifted at (one_more o) ≡ shifted (at + 1) o
one_shifted at None = refl
one_shifted at (Some k) = ap (λ (n : ℕ). Some n) (omega arith)

-- ---- actions

-- what stands behind a byte, as a slice
pub behind_byte : (text : List ℕ) (i : ℕ) → take (length text - (i + 1)) (drop (i + 1) text) ≡ drop (i + 1) text
behind_byte text i = take_all (length text - (i + 1)) (drop (i + 1) text) (omega (arith, length-drop (i + 1) text))

-- an action has an end where no parenthesis is open
action_ends : (text : List ℕ) → action_len 0 text ≢ None
unfolding action_len
action_ends [] = λ e. absurd cc
action_ends (b ∷ text) = go (open_behind 0 b text) (action_ends text)
  where
    closed : (o : Option ℕ) → o ≢ None → one_more o ≢ None
    closed None n = n
    closed (Some k) n = λ e. absurd cc

    opened : (o : Option ℕ) → opening o ≢ None
    opened None = λ e. absurd cc
    opened (Some k) = λ e. absurd cc

    go : (o : Option ℕ) → action_len 0 text ≢ None → go_on 0 o (λ more. action_len more text) ≢ None
    go None later = λ e. absurd cc
    go (Some zero) later = closed (action_len 0 text) later
    go (Some (suc more)) later = opened (action_len (suc more) text)

-- what has come so far, and what is still to come: nothing where the parentheses are not closed
abbrev pub resumed : ℕ → ℕ → ℕ → Option ℕ → Option ℕ
resumed zero opened at o = shifted at o
resumed (suc depth) opened at None = Some opened
resumed (suc depth) opened at (Some k) = Some (at + k)

resumed_more : (depth opened at : ℕ) (o : Option ℕ) (more : ℕ) → (more ≡ 0 → o ≢ None) → resumed (suc depth) opened at (one_more o) ≡ resumed more opened (at + 1) o
resumed_more depth opened at None zero some = absurd (some refl refl)
resumed_more depth opened at None (suc more) some = refl
resumed_more depth opened at (Some k) zero some = ap (λ (n : ℕ). Some n) (omega arith)
resumed_more depth opened at (Some k) (suc more) some = ap (λ (n : ℕ). Some n) (omega arith)

resumed_opening : (at more : ℕ) (o : Option ℕ) → shifted at (opening o) ≡ resumed (suc more) at (at + 1) o
resumed_opening at more None = ap (λ (n : ℕ). Some n) (omega arith)
resumed_opening at more (Some k) = ap (λ (n : ℕ). Some n) (omega arith)

pub action_goes : (depth more opened : ℕ) (text : List ℕ) (i d : ℕ) → i < length text → open_behind depth (get_or text i d) (drop (i + 1) text) ≡ Some more
    → resumed depth opened i (action_len depth (drop i text)) ≡ resumed more (end_at depth i opened) (i + 1) (action_len more (drop (i + 1) text))
unfolding action_len
action_goes depth more opened text i d lt e =
    ap (resumed depth opened i) (at_drop_more (action_len depth) text i d lt ∙ ap (λ (o : Option ℕ). go_on depth o (λ more. action_len more (drop (i + 1) text))) e) ∙ go depth more
  where
    go : (depth more : ℕ) → resumed depth opened i (go_on depth (Some more) (λ more. action_len more (drop (i + 1) text))) ≡ resumed more (end_at depth i opened) (i + 1) (action_len more (drop (i + 1) text))
    go zero zero = one_shifted i (action_len 0 (drop (i + 1) text))
    go zero (suc more) = resumed_opening i more (action_len (suc more) (drop (i + 1) text))
    go (suc depth) more = resumed_more depth opened i (action_len more (drop (i + 1) text)) more (λ z. rw z (action_ends (drop (i + 1) text)))

resumed_ended : (depth opened i : ℕ) → resumed depth opened i (ended depth) ≡ Some (end_at depth i opened)
resumed_ended zero opened i = ap (λ (n : ℕ). Some n) (omega arith)
resumed_ended (suc depth) opened i = refl

pub action_stops : (depth opened : ℕ) (text : List ℕ) (i d : ℕ) → i < length text → open_behind depth (get_or text i d) (drop (i + 1) text) ≡ None
    → resumed depth opened i (action_len depth (drop i text)) ≡ Some (end_at depth i opened)
unfolding action_len
action_stops depth opened text i d lt e =
    ap (resumed depth opened i) (at_drop_more (action_len depth) text i d lt ∙ ap (λ (o : Option ℕ). go_on depth o (λ more. action_len more (drop (i + 1) text))) e) ∙ resumed_ended depth opened i

pub action_end : (depth opened : ℕ) (text : List ℕ) (i : ℕ) → length text ≤ i → resumed depth opened i (action_len depth (drop i text)) ≡ Some (end_at depth i opened)
unfolding action_len
action_end depth opened text i le = ap (resumed depth opened i) (at_drop_all (action_len depth) text i le) ∙ resumed_ended depth opened i

pub end_within : (depth at opened n : ℕ) → at ≤ n → opened ≤ n → end_at depth at opened ≤ n
end_within zero at opened n a o = a
end_within (suc depth) at opened n a o = o

-- an action that begins with a letter, a digit or `_` has a byte
pub action_some : (text : List ℕ) (n : ℕ) → starts_name text ≡ true → action_len 0 text ≡ Some n → 0 < n
unfolding action_len
action_some [] n s e = absurd cc
action_some (b ∷ text) n s e =
    let here : open_behind 0 b text ≡ Some 0 = ap (λ (t : Bool). cond (t || (b == 124 && starts_name text)) (Some 0) (cond (b == 40) (Some 1) None)) s in
    more (action_len 0 text) n (sym (ap (λ (o : Option ℕ). go_on 0 o (λ more. action_len more text)) here) ∙ e)
  where
    more : (o : Option ℕ) (n : ℕ) → one_more o ≡ Some n → 0 < n
    more None n e = absurd cc
    more (Some k) n e = let same : suc k ≡ n = cc in omega arith

run_some : (text : List ℕ) → starts_name text ≡ true → 0 < prefix_len is_name_byte text
run_some [] s = absurd cc
run_some (b ∷ text) s = rw s (omega arith)

pub name_len_some : (text : List ℕ) → starts_name text ≡ true → 0 < name_len text
name_len_some text s = go (is_keyword (take (prefix_len is_name_byte text) text)) (action_len 0 text) (λ n e. action_some text n s e) (action_ends text)
  where
    go : (t : Bool) (o : Option ℕ) → ((n : ℕ) → o ≡ Some n → 0 < n) → o ≢ None → 0 < cond t (prefix_len is_name_byte text) (unwrap_or o 0)
    go true o some is = run_some text s
    go false None some is = absurd (is refl)
    go false (Some n) some is = some n refl

pub word_len_some : (b : ℕ) (text : List ℕ) → 0 < word_len (b ∷ text)
word_len_some b text = go (is_name_byte b) refl (b == 34) (quote_len text) (is_pair b text)
  where
    go : (t : Bool) → is_name_byte b ≡ t → (u : Bool) (n : ℕ) (v : Bool) → 0 < cond t (name_len (b ∷ text)) (cond u (suc n) (cond v 2 1))
    go true e u n v = name_len_some (b ∷ text) e
    go false e true n v = omega arith
    go false e false n true = omega arith
    go false e false n false = omega arith

-- ---- the words of a text

gap_shorter : (text : List ℕ) → length (after_gap text) ≤ length text
gap_shorter text = omega (arith, length-drop (gap_len false text) text)

-- looking at more bytes than there are finds nothing more
enough : (k m : ℕ) (text : List ℕ) → length text ≤ k → length text ≤ m → words_with k text ≡ words_with m text
unfolding words_with
enough zero zero text le lf = refl
enough zero (suc m) [] le lf = refl
enough zero (suc m) (b ∷ text) le lf = absurd (omega arith)
enough (suc k) zero [] le lf = refl
enough (suc k) zero (b ∷ text) le lf = absurd (omega arith)
enough (suc k) (suc m) text le lf = go (after_gap text) (gap_shorter text) (λ rest lg lh. enough k m rest lg lh)
  where
    go : (rest : List ℕ) → length rest ≤ length text → ((s : List ℕ) → length s ≤ k → length s ≤ m → words_with k s ≡ words_with m s) → word_and (words_with k) rest ≡ word_and (words_with m) rest
    go [] shorter later = refl
    go (b ∷ rest) shorter later =
        let n = word_len (b ∷ rest) in
        let some = word_len_some b rest in
        let long = length-drop n (b ∷ rest) in
        ap (λ (ws : List (List ℕ)). take n (b ∷ rest) ∷ ws) (later (drop n (b ∷ rest)) (omega arith) (omega arith))

pub words_next : (text : List ℕ) → 0 < length (after_gap text) → words_of text ≡ take (word_len (after_gap text)) (after_gap text) ∷ words_of (drop (word_len (after_gap text)) (after_gap text))
unfolding words_with
words_next [] lt = absurd (omega arith)
words_next (c ∷ text) lt = go (after_gap (c ∷ text)) lt (gap_shorter (c ∷ text))
  where
    go : (rest : List ℕ) → 0 < length rest → length rest ≤ suc (length text) → word_and (words_with (length text)) rest ≡ take (word_len rest) rest ∷ words_of (drop (word_len rest) rest)
    go [] lt shorter = absurd (omega arith)
    go (b ∷ rest) lt shorter =
        let n = word_len (b ∷ rest) in
        let some = word_len_some b rest in
        let long = length-drop n (b ∷ rest) in
        let s = drop n (b ∷ rest) in
        ap (λ (ws : List (List ℕ)). take n (b ∷ rest) ∷ ws) (enough (length text) (length s) s (omega arith) (omega arith))

pub words_none : (text : List ℕ) → length (after_gap text) ≡ 0 → words_of text ≡ []
unfolding words_with
words_none [] e = refl
words_none (c ∷ text) e = go (after_gap (c ∷ text)) e
  where
    go : (rest : List ℕ) → length rest ≡ 0 → word_and (words_with (length text)) rest ≡ []
    go [] e = refl
    go (b ∷ rest) e = absurd (omega arith)

pub first_is : (text rest word behind : List ℕ) (n : ℕ) → rest ≡ after_gap text → 0 < length rest → n ≡ word_len rest → word ≡ take n rest → behind ≡ drop n rest → words_of text ≡ word ∷ words_of behind
first_is text rest word behind n e lt f g h =
    let inside : 0 < length (after_gap text) = omega (arith, ap length e) in
    let long : n ≡ word_len (after_gap text) = f ∙ ap word_len e in
    let front : word ≡ take (word_len (after_gap text)) (after_gap text) = g ∙ ap (λ (k : ℕ). take k rest) long ∙ ap (take (word_len (after_gap text))) e in
    let back : behind ≡ drop (word_len (after_gap text)) (after_gap text) = h ∙ ap (λ (k : ℕ). drop k rest) long ∙ ap (drop (word_len (after_gap text))) e in
    words_next text inside ∙ ap (λ (w : List ℕ). w ∷ words_of (drop (word_len (after_gap text)) (after_gap text))) (sym front) ∙ ap (λ (s : List ℕ). word ∷ words_of s) (sym back)
