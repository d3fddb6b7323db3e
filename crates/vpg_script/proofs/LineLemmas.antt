-- The first line of what is held.
use Rattle.std.proofs.Common.{◌≡◌, ℕ, suc, ◌+◌, ◌<◌, ◌≤◌, Bool, true, false, cond, List, [], ◌∷◌, ◌++◌, length, take, drop, get_or, Option, Some, None, refl, sym, ap, ◌∙◌, inl, inr, arith, subst, append_assoc, append-nil, take-append-drop, add-one, drop-cons}
use Rattle.std.specs.Prelude.{not, ◌==◌, ◌&&◌}
use Rattle.std.specs.List.{list_all, prefix_len}
use Rattle.std.specs.Io.KnownBytes.{prepend_known, Keeps, IsAtEnd}
use Rattle.std.specs.Str.Lines.{strip_carriage_return}
use Rattle.std.proofs.lemmas.Bool.{eqb-true}
use Rattle.std.proofs.lemmas.List.Sums.{prefix_len_stops}
use Rattle.std.proofs.lemmas.List.{take_all}
use Rattle.std.proofs.lemmas.List.Folds.{list_all-append}
use Rattle.std.specs.Global.{Vec}
use Rattle.vpg_script.specs.declared.lines.Next.TheVariants as next
use Rattle.vpg_script.specs.Lines.{is_within_line, IsUnended, ComesKnown, PassedKnown, HeldKnown}

-- what passes the test at the front does
pub front_all : (p : ℕ → Bool) (text : List ℕ) → list_all p (take (prefix_len p text) text) ≡ true
front_all p [] = refl
front_all p (b ∷ text) = go (p b) refl (front_all p text)
  where
    go : (t : Bool) → p b ≡ t → list_all p (take (prefix_len p text) text) ≡ true → list_all p (take (cond t (1 + prefix_len p text) 0) (b ∷ text)) ≡ true
    go true e rest = let one : 1 + prefix_len p text ≡ suc (prefix_len p text) = omega arith in rw (one, e) rest
    go false e rest = refl

-- a byte that doesn't pass is a line feed
is_feed : (b : ℕ) → is_within_line b ≡ false → b ≡ 10
is_feed b h = go (b == 10) refl h
  where
    go : (t : Bool) → (b == 10) ≡ t → not t ≡ false → b ≡ 10
    go true e n = eqb-true b 10 e
    go false e n = absurd cc

-- what is held begins with a line and its feed
pub held_parts : (held : List ℕ) (n : ℕ) → n ≡ prefix_len is_within_line held → n < length held → held ≡ take n held ++ 10 ∷ drop (n + 1) held
held_parts held n is less =
    let stops : is_within_line (get_or held n 0) ≡ false = rw is (prefix_len_stops is_within_line held 0 (rw is at less)) in
    let feed : get_or held n 0 ≡ 10 = is_feed _ stops in
    let behind : drop n held ≡ get_or held n 0 ∷ drop (suc n) held = drop-cons held n 0 less in
    sym (take-append-drop n held) ∙ ap (λ (rest : List ℕ). take n held ++ rest) (behind ∙ ap (λ (b : ℕ). b ∷ drop (suc n) held) feed ∙ ap (λ (k : ℕ). 10 ∷ drop k held) (sym (add-one n)))

pub front_unended : (held : List ℕ) (n : ℕ) → n ≡ prefix_len is_within_line held → IsUnended (take n held)
front_unended held n is = rw is (front_all is_within_line held)

pub all_unended : (held : List ℕ) (n : ℕ) → n ≡ prefix_len is_within_line held → length held ≤ n → IsUnended held
all_unended held n is long = subst IsUnended (take_all n held long) (front_unended held n is)

-- ---- what comes next in the known bytes

-- a line that was held whole
pub line_comes : (a b : Option (List ℕ)) (held new : List ℕ) (n : ℕ) (line : Vec ℕ) → Keeps a (prepend_known held b) → n ≡ prefix_len is_within_line held → n < length held
    → line.items ≡ strip_carriage_return (take n held) → new ≡ drop (n + 1) held → ComesKnown (next.Line line) a (prepend_known new b)
line_comes None b held new n line kept is less line_is new_is = tt
line_comes (Some text) None held new n line kept is less line_is new_is = absurd kept
line_comes (Some text) (Some more) held new n line kept is less line_is new_is =
    inl (record {
      front = take n held;
      text_is = sym kept ∙ ap (λ (h : List ℕ). h ++ more) (held_parts held n is less) ∙ append_assoc (take n held) (10 ∷ drop (n + 1) held) more
          ∙ ap (λ (h : List ℕ). take n held ++ 10 ∷ (h ++ more)) (sym new_is);
      unended = front_unended held n is;
      line_is = line_is;
    })

-- more than a line may have
pub too_long_comes : (a b : Option (List ℕ)) (held : List ℕ) (n : ℕ) → Keeps a (prepend_known held b) → n ≡ prefix_len is_within_line held → length held ≤ n
    → 4097 < length held → ComesKnown next.TooLong a (prepend_known held b)
too_long_comes None b held n kept is all long = tt
too_long_comes (Some text) None held n kept is all long = absurd kept
too_long_comes (Some text) (Some more) held n kept is all long =
    (record { front = held; rest = more; text_is = sym kept; unended = all_unended held n is all; long = long }, kept)

-- ---- a line that is passed over

unended_both : (front held : List ℕ) → IsUnended front → IsUnended held → IsUnended (front ++ held)
unended_both front held h k = list_all-append is_within_line front held ∙ (ap (λ (b : Bool). b && list_all is_within_line held) h ∙ k)

-- what is held is of the line; it is given up, and more is read
pub passed_more : (a b c : Option (List ℕ)) (front held cleared new : List ℕ) → IsUnended front → IsUnended held → cleared ≡ [] → Keeps a (prepend_known (front ++ held) b)
    → Keeps (prepend_known cleared b) (prepend_known new c) → IsUnended (front ++ held) × Keeps a (prepend_known ((front ++ held) ++ new) c)
passed_more None b c front held cleared new h k none kept read = (unended_both front held h k, tt)
passed_more (Some text) None c front held cleared new h k none kept read = absurd kept
passed_more (Some text) (Some more) None front held cleared new h k none kept read = absurd read
passed_more (Some text) (Some more) (Some rest) front held cleared new h k none kept read = (
  unended_both front held h k,
  append_assoc (front ++ held) new rest ∙ ap (λ (m : List ℕ). (front ++ held) ++ m) (read ∙ ap (λ (m : List ℕ). m ++ more) none) ∙ kept,
)

-- nothing more is read
pub passed_held : (a b : Option (List ℕ)) (front held : List ℕ) → IsUnended front → IsUnended held → Keeps a (prepend_known (front ++ held) b) → HeldKnown a b
passed_held a b front held h k kept = (front ++ held, (unended_both front held h k, kept))

pub passed_unread : (a b c : Option (List ℕ)) (front held cleared new : List ℕ) → IsUnended front → IsUnended held → cleared ≡ [] → new ≡ cleared → Keeps a (prepend_known (front ++ held) b)
    → Keeps (prepend_known cleared b) (prepend_known new c) → HeldKnown a c
passed_unread a b c front held cleared new h k none same kept read =
    let both = passed_more a b c front held cleared new h k none kept read in
    passed_held a c (front ++ held) new both.0 (rw (same ∙ none) refl) both.1

-- the line's feed is held
pub passed_ended : (a b : Option (List ℕ)) (front held new : List ℕ) (n : ℕ) → IsUnended front → Keeps a (prepend_known (front ++ held) b) → n ≡ prefix_len is_within_line held → n < length held
    → new ≡ drop (n + 1) held → PassedKnown a (prepend_known new b)
passed_ended None b front held new n h kept is less new_is = tt
passed_ended (Some text) None front held new n h kept is less new_is = absurd kept
passed_ended (Some text) (Some more) front held new n h kept is less new_is = (
  front ++ take n held,
  (
    unended_both front (take n held) h (front_unended held n is),
    inl (sym kept ∙ append_assoc front held more ∙ ap (λ (t : List ℕ). front ++ (t ++ more)) (held_parts held n is less)
        ∙ ap (λ (t : List ℕ). front ++ t) (append_assoc (take n held) (10 ∷ drop (n + 1) held) more)
        ∙ ap (λ (t : List ℕ). front ++ (take n held ++ 10 ∷ (t ++ more))) (sym new_is) ∙ sym (append_assoc front (take n held) (10 ∷ (new ++ more)))),
  ),
)

-- the text ends with the line
pub passed_last : (a b : Option (List ℕ)) (front new : List ℕ) → IsUnended front → Keeps a (prepend_known (front ++ new) b) → new ≡ [] → IsAtEnd b → PassedKnown a (prepend_known new b)
passed_last None b front new h kept none end = tt
passed_last (Some text) None front new h kept none end = absurd kept
passed_last (Some text) (Some more) front new h kept none end = (
  front,
  (
    h,
    inr (
      sym kept ∙ ap (λ (m : List ℕ). (front ++ new) ++ m) end ∙ append-nil (front ++ new) ∙ ap (λ (t : List ℕ). front ++ t) none ∙ append-nil front,
      ap (λ (m : List ℕ). new ++ m) end ∙ append-nil new ∙ none,
    ),
  ),
)
