-- The lines behind the header, with what stands before them.
use Rattle.std.proofs.Common.{◌≡◌, ℕ, ◌+◌, ◌<◌, ◌≤◌, Bool, true, false, nat_le, cond, List, [], ◌∷◌, ◌++◌, length, Result, Ok, Err, ◌⊎◌, inl, inr, refl, sym, ap, ◌∙◌, subst, arith, append_assoc, append-nil}
use Rattle.std.proofs.lemmas.Bool.{leb-false}
use Rattle.std.proofs.lemmas.List.{length-append}
use Rattle.vpg_system.specs.SystemText.{Transition, Header, SpellsHeader, AreTransitions, IsWithin, not_blank, kept, place_with, with_name}
use Rattle.vpg_system.specs.SystemReading.{Refusal, Fault, TooFew, At, Seen, line_at, system_of, after_line, read_lines}
use Rattle.vpg_system.specs.ReadCode.{IsFaultOf}
use Rattle.vpg_system.specs.TextFaults.{AreLinesOf, IsFaultBelow, HasTooFew}
use Rattle.vpg_system.specs.declared.fault.SystemFault.{SystemFault}
use Rattle.vpg_system.proofs.Forms.{form_sound, label_sound}
use Rattle.vpg_system.proofs.TextLemmas.{guard_sound, kept_blank, kept_here, line_sound}
use Rattle.vpg_system.proofs.TextFirst.{split_checked, kept_append}
use Rattle.vpg_system.proofs.TextBelow.{Refused}

-- transitions behind others
joined : (features : List (List ℕ)) (n : ℕ) (a b c : List (List ℕ)) (ls ks : List (List ℕ)) (ts us : List Transition) → AreTransitions features n a ls ts b → AreTransitions features n b ks us c → AreTransitions features n a (ls ++ ks) (ts ++ us) c
joined features n a b c [] ks [] us x y = subst (λ (z : List (List ℕ)). AreTransitions features n z ks us c) (sym x) y
joined features n a b c [] ks (t ∷ ts) us x y = absurd x
joined features n a b c (l ∷ ls) ks [] us x y = absurd x
joined features n a b c (l ∷ ls) ks (t ∷ ts) us x y = (x.0, x.1, x.2, x.3, x.4, joined features n (with_name a x.0) b c ls ks ts us x.5 y)

module _ (features : List (List ℕ)) (e : SystemFault) (all before : List (List ℕ)) (bytes : List ℕ) (blank : kept before ≡ []) (written : not_blank bytes ≡ true) (h : Header) (spelled : SpellsHeader bytes h) (good : IsWithin h) (first : h.first < h.states)
    (refused : (number : ℕ) (seen : Seen) (line : List ℕ) (r : Refusal) → IsFaultOf (At number r) e → line_at features h seen line ≡ Err r → Refused features e number h seen line) (fault : Fault) (f : IsFaultOf fault e) where
  abbrev Stands : List (List ℕ) → Seen → Type 0
  Stands mid seen = AreTransitions features h.states [] (kept mid) seen.transitions seen.names × (length seen.transitions ≤ h.count)

  lines_so_far : (mid : List (List ℕ)) (seen : Seen) → Stands mid seen → AreLinesOf features (before ++ bytes ∷ mid) (length before + 1) h seen.transitions
  lines_so_far mid seen x = record {
    blanks = before;
    header = bytes;
    others = mid;
    lines_are = refl;
    blank = blank;
    written = written;
    number_is = refl;
    header_is = spelled;
    within = good;
    first_below = first;
    names = seen.names;
    few = x.1;
    others_are = x.0;
  }

  one_more : (mid : List (List ℕ)) (line : List ℕ) (seen after : Seen) → not_blank line ≡ true → Stands mid seen → line_at features h seen line ≡ Ok after → Stands (mid ++ line ∷ []) after
  one_more mid line seen after w x k =
      let y = line_sound features h seen line after k in
      let t : Transition = record { source = y.form.source; action = place_with seen.names y.name; guard = y.g; target = y.form.target } in
      let l = length-append seen.transitions (t ∷ []) in
      let m = y.fewer in
      subst (Stands (mid ++ line ∷ [])) y.after_is (
        subst (λ (ks : List (List ℕ)). AreTransitions features h.states [] ks (seen.transitions ++ t ∷ []) (with_name seen.names y.name)) (sym (kept_append mid (line ∷ []) ∙ ap (λ z. kept mid ++ z) (kept_here line [] w)))
            (joined features h.states [] seen.names (with_name seen.names y.name) (kept mid) (line ∷ []) seen.transitions (t ∷ []) x.0
            (y.name, record { label = y.form.label; text = y.text; form_is = form_sound line y.form y.form_is; label_is = label_sound y.form.label (y.name, y.text) y.label_is; guard_is = guard_sound features y.text y.g y.guard_is }, y.source_below, y.target_below, refl, refl)),
        omega (arith, l, m),
      )

  here : (line : List ℕ) (rest mid : List (List ℕ)) (number : ℕ) (seen : Seen) (r : Result Seen Refusal) → all ≡ (before ++ bytes ∷ mid) ++ line ∷ rest → Stands mid seen → number ≡ length (before ++ bytes ∷ mid) + 1 → not_blank line ≡ true →
      ((after : Seen) → Stands (mid ++ line ∷ []) after → read_lines features h (length before + 1) (number + 1) rest after ≡ Err fault → IsFaultBelow features all e ⊎ HasTooFew features all e) →
      line_at features h seen line ≡ r → after_line number r (read_lines features h (length before + 1) (number + 1) rest) ≡ Err fault → IsFaultBelow features all e ⊎ HasTooFew features all e
  here line rest mid number seen (Ok after) a x n w ih k q = ih after (one_more mid line seen after w x k) q
  here line rest mid number seen (Err r) a x n w ih k q =
      let z : At number r ≡ fault = cc in
      let g = refused number seen line r (subst (λ (y : Fault). IsFaultOf y e) (sym z) f) k in
      inl (record {
        before = before ++ bytes ∷ mid;
        bytes = line;
        after = rest;
        lines_are = a;
        written = w;
        number = length before + 1;
        h = h;
        ts = seen.transitions;
        before_are = lines_so_far mid seen x;
        kind = g.0;
        refused = g.1;
        fault_is = subst (λ (m : ℕ). e ≡ Rattle.vpg_system.specs.TextFaults.fault_at m g.0) n g.2;
      })

  step : (line : List ℕ) (rest mid : List (List ℕ)) (number : ℕ) (seen : Seen) (b : Bool) → all ≡ (before ++ bytes ∷ mid) ++ line ∷ rest → Stands mid seen → number ≡ length (before ++ bytes ∷ mid) + 1 → not_blank line ≡ b →
      ((more : List (List ℕ)) (after : Seen) → all ≡ (before ++ bytes ∷ more) ++ rest → Stands more after → number + 1 ≡ length (before ++ bytes ∷ more) + 1 → read_lines features h (length before + 1) (number + 1) rest after ≡ Err fault → IsFaultBelow features all e ⊎ HasTooFew features all e) →
      cond b (after_line number (line_at features h seen line) (read_lines features h (length before + 1) (number + 1) rest)) (read_lines features h (length before + 1) (number + 1) rest seen) ≡ Err fault → IsFaultBelow features all e ⊎ HasTooFew features all e
  step line rest mid number seen b a x n w ih q = go b w q
    where
      longer : (before ++ bytes ∷ mid) ++ line ∷ [] ≡ before ++ bytes ∷ (mid ++ line ∷ [])
      longer = append_assoc before (bytes ∷ mid) (line ∷ [])

      all_is : all ≡ (before ++ bytes ∷ (mid ++ line ∷ [])) ++ rest
      all_is = a ∙ (sym (append_assoc (before ++ bytes ∷ mid) (line ∷ []) rest) ∙ ap (λ z. z ++ rest) longer)

      number_is : number + 1 ≡ length (before ++ bytes ∷ (mid ++ line ∷ [])) + 1
      number_is = let l = length-append (before ++ bytes ∷ mid) (line ∷ []) in let k = ap length longer in omega (arith, l, k, n)

      go : (t : Bool) → not_blank line ≡ t → cond t (after_line number (line_at features h seen line) (read_lines features h (length before + 1) (number + 1) rest)) (read_lines features h (length before + 1) (number + 1) rest seen) ≡ Err fault → IsFaultBelow features all e ⊎ HasTooFew features all e
      go true v r = here line rest mid number seen (line_at features h seen line) a x n v (λ after y. ih (mid ++ line ∷ []) after all_is y number_is) refl r
      go false v r =
          let k : kept (mid ++ line ∷ []) ≡ kept mid = kept_append mid (line ∷ []) ∙ (ap (λ z. kept mid ++ z) (kept_blank line [] v) ∙ append-nil (kept mid)) in
          ih (mid ++ line ∷ []) seen all_is (subst (λ (ks : List (List ℕ)). AreTransitions features h.states [] ks seen.transitions seen.names) (sym k) x.0, x.1) number_is r

  pub walk_below : (ls mid : List (List ℕ)) (number : ℕ) (seen : Seen) → all ≡ (before ++ bytes ∷ mid) ++ ls → Stands mid seen → number ≡ length (before ++ bytes ∷ mid) + 1 → read_lines features h (length before + 1) number ls seen ≡ Err fault →
      IsFaultBelow features all e ⊎ HasTooFew features all e
  walk_below [] mid number seen a x n r = go (split_checked (nat_le h.count (length seen.transitions)) (TooFew (length before + 1)) (Ok (system_of features h seen)) fault r)
    where
      go : ((nat_le h.count (length seen.transitions) ≡ false) × (TooFew (length before + 1) ≡ fault)) ⊎ ((nat_le h.count (length seen.transitions) ≡ true) × (Ok (system_of features h seen) ≡ Err fault)) → IsFaultBelow features all e ⊎ HasTooFew features all e
      go (inl z) = inr (record {
        number = length before + 1;
        h = h;
        ts = seen.transitions;
        lines_are = subst (λ (ls : List (List ℕ)). AreLinesOf features ls (length before + 1) h seen.transitions) (sym (a ∙ append-nil (before ++ bytes ∷ mid))) (lines_so_far mid seen x);
        fewer = leb-false h.count (length seen.transitions) z.0;
        fault_is = subst (λ (y : Fault). IsFaultOf y e) (sym z.1) f;
      })
      go (inr z) = let y = z.1 in absurd (cc)
  walk_below (line ∷ rest) mid number seen a x n r = step line rest mid number seen (not_blank line) a x n refl (λ more after. walk_below rest more (number + 1) after) r
