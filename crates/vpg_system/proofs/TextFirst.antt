-- A text that is refused has the fault that comes first.
use Rattle.std.proofs.Common.{◌≡◌, ℕ, ◌+◌, ◌-◌, ◌<◌, max, Bool, true, false, ◌&&◌, nat_lt, nat_le, cond, List, [], ◌∷◌, ◌++◌, length, Option, Some, None, Result, Err, ◌⊎◌, inl, inr, refl, sym, ap, ◌∙◌, subst, arith, append_assoc, append-nil}
use Rattle.std.proofs.lemmas.Bool.{le-leb, ltb-false, ltb-true, leb-true}
use Rattle.std.proofs.lemmas.List.{length-append}
use Rattle.vpg_system.specs.SystemText.{Header, SpellsHeader, not_blank, kept, IsWithin}
use Rattle.vpg_system.specs.SystemReading.{Fault, NoHeader, TooMany, NoFirst, checked, nothing, read_lines, is_within, after_header, header_at, read_header}
use Rattle.vpg_system.specs.ReadCode.{IsFaultOf}
use Rattle.vpg_system.specs.TextFaults.{IsHeaderFault, IsAllBlank, IsFaultAtHeader, IsFaultBelow, HasTooFew}
use Rattle.vpg_system.specs.declared.fault.SystemFault.{SystemFault}
use Rattle.vpg_system.specs.declared.fault.SystemFault.TheVariants as faults
use Rattle.vpg_system.proofs.Forms.{and_true, header_sound, header_complete}
use Rattle.vpg_system.proofs.TextLemmas.{kept_blank, kept_here}

pub kept_append : (xs ys : List (List ℕ)) → kept (xs ++ ys) ≡ kept xs ++ kept ys
kept_append [] ys = refl
kept_append (x ∷ xs) ys = go (not_blank x) refl (kept_append xs ys)
  where
    go : (b : Bool) → not_blank x ≡ b → kept (xs ++ ys) ≡ kept xs ++ kept ys → kept (x ∷ (xs ++ ys)) ≡ kept (x ∷ xs) ++ kept ys
    go true w e = kept_here x (xs ++ ys) w ∙ (ap (λ k. x ∷ k) e ∙ sym (ap (λ k. k ++ kept ys) (kept_here x xs w)))
    go false w e = kept_blank x (xs ++ ys) w ∙ (e ∙ sym (ap (λ k. k ++ kept ys) (kept_blank x xs w)))

blank_more : (xs : List (List ℕ)) (x : List ℕ) → kept xs ≡ [] → not_blank x ≡ false → kept (xs ++ x ∷ []) ≡ []
blank_more xs x k w = kept_append xs (x ∷ []) ∙ (ap (λ y. y ++ kept (x ∷ [])) k ∙ kept_blank x [] w)

pub split_checked : {A E : Type 0} (b : Bool) (fault : E) (r : Result A E) (x : E) → checked b fault r ≡ Err x → ((b ≡ false) × (fault ≡ x)) ⊎ ((b ≡ true) × (r ≡ Err x))
split_checked true fault r x e = inr (refl, e)
split_checked false fault r x e = inl (refl, (cc))

pub not_both : (a b : Bool) → (a && b) ≡ false → a ≡ true → b ≡ true → ⊥
not_both true b e p q = absurd (let w : true ≡ false = sym q ∙ e in cc)
not_both false b e p q = absurd (cc)

beyond_limits : (h : Header) → is_within h ≡ false → IsWithin h → ⊥
beyond_limits h e w = not_both (nat_le h.states 65536) (nat_le h.count 1048576) e (le-leb h.states 65536 w.few_states) (le-leb h.count 1048576 w.few_transitions)

module _ (features : List (List ℕ)) (e : SystemFault) (all : List (List ℕ)) where
  -- a fault of the header's line
  header_refused : (before : List (List ℕ)) (bytes : List ℕ) (rest : List (List ℕ)) → all ≡ before ++ bytes ∷ rest → kept before ≡ [] → not_blank bytes ≡ true → IsHeaderFault bytes (length before + 1) e → IsFaultAtHeader all e
  header_refused before bytes rest a k w f = record { before = before; bytes = bytes; after = rest; lines_are = a; blank = k; written = w; header = f }

  module _ (below : (before : List (List ℕ)) (bytes : List ℕ) (rest : List (List ℕ)) (h : Header) (fault : Fault) → all ≡ before ++ bytes ∷ rest → kept before ≡ [] → not_blank bytes ≡ true → SpellsHeader bytes h → IsWithin h → h.first < h.states →
      read_lines features h (length before + 1) (length before + 1 + 1) rest nothing ≡ Err fault → IsFaultOf fault e → IsFaultBelow features all e ⊎ HasTooFew features all e) where
    at_header : (before : List (List ℕ)) (bytes : List ℕ) (rest : List (List ℕ)) (fault : Fault) (o : Option Header) → all ≡ before ++ bytes ∷ rest → kept before ≡ [] → not_blank bytes ≡ true → header_at bytes ≡ o →
        after_header features (length before + 1) o rest ≡ Err fault → IsFaultOf fault e → IsFaultAtHeader all e ⊎ (IsFaultBelow features all e ⊎ HasTooFew features all e)
    at_header before bytes rest fault None a k w o r f =
        let q : NoHeader (length before + 1) ≡ fault = cc in
        let g : e ≡ faults.NoHeader (length before + 1) = subst (λ (x : Fault). IsFaultOf x e) (sym q) f in
        inl (header_refused before bytes rest a k w (subst (IsHeaderFault bytes (length before + 1)) (sym g) (refl, λ h s. let z : ◌≡◌ {A = Option Header} None (Some h) = sym o ∙ header_complete bytes h s in absurd (cc))))
    at_header before bytes rest fault (Some h) a k w o r f = many (split_checked (is_within h) (TooMany number) (checked (nat_lt h.first h.states) (NoFirst number) (read_lines features h number (number + 1) rest nothing)) fault r)
      where
        number : ℕ
        number = length before + 1

        first : is_within h ≡ true → ((nat_lt h.first h.states ≡ false) × (NoFirst number ≡ fault)) ⊎ ((nat_lt h.first h.states ≡ true) × (read_lines features h number (number + 1) rest nothing ≡ Err fault)) → IsFaultAtHeader all e ⊎ (IsFaultBelow features all e ⊎ HasTooFew features all e)
        first i (inl z) =
            let b = and_true (nat_le h.states 65536) (nat_le h.count 1048576) i in
            let g : e ≡ faults.NoState number = subst (λ (x : Fault). IsFaultOf x e) (sym z.1) f in
            inl (header_refused before bytes rest a k w (subst (IsHeaderFault bytes number) (sym g) (
              refl,
              (
                h,
                header_sound bytes h o,
                record { few_states = leb-true h.states 65536 b.0; few_transitions = leb-true h.count 1048576 b.1 },
                ltb-false h.first h.states z.0,
              ),
            )))
        first i (inr z) =
            let b = and_true (nat_le h.states 65536) (nat_le h.count 1048576) i in
            inr (below before bytes rest h fault a k w (header_sound bytes h o) (record { few_states = leb-true h.states 65536 b.0; few_transitions = leb-true h.count 1048576 b.1 }) (ltb-true h.first h.states z.0) z.1 f)

        many : ((is_within h ≡ false) × (TooMany number ≡ fault)) ⊎ ((is_within h ≡ true) × (checked (nat_lt h.first h.states) (NoFirst number) (read_lines features h number (number + 1) rest nothing) ≡ Err fault)) → IsFaultAtHeader all e ⊎ (IsFaultBelow features all e ⊎ HasTooFew features all e)
        many (inl z) =
            let g : e ≡ faults.TooMany number = subst (λ (x : Fault). IsFaultOf x e) (sym z.1) f in
            inl (header_refused before bytes rest a k w (subst (IsHeaderFault bytes number) (sym g) (refl, (h, header_sound bytes h o, beyond_limits h z.0))))
        many (inr z) = first z.0 (split_checked (nat_lt h.first h.states) (NoFirst number) (read_lines features h number (number + 1) rest nothing) fault z.1)

abbrev pub FirstOf : List (List ℕ) → SystemFault → List (List ℕ) → Type 0
FirstOf features e all = IsAllBlank all e ⊎ (IsFaultAtHeader all e ⊎ (IsFaultBelow features all e ⊎ HasTooFew features all e))

-- up to the header
module _ (features : List (List ℕ)) (e : SystemFault) (all : List (List ℕ)) (below : (before : List (List ℕ)) (bytes : List ℕ) (rest : List (List ℕ)) (h : Header) (fault : Fault) → all ≡ before ++ bytes ∷ rest → kept before ≡ [] → not_blank bytes ≡ true → SpellsHeader bytes h → IsWithin h → h.first < h.states →
    read_lines features h (length before + 1) (length before + 1 + 1) rest nothing ≡ Err fault → IsFaultOf fault e → IsFaultBelow features all e ⊎ HasTooFew features all e) (fault : Fault) (f : IsFaultOf fault e) where
  step_first : (before : List (List ℕ)) (bytes : List ℕ) (rest : List (List ℕ)) (number : ℕ) (b : Bool) → ((more : List (List ℕ)) → all ≡ more ++ rest → kept more ≡ [] → number + 1 ≡ length more + 1 → read_header features (number + 1) rest ≡ Err fault → FirstOf features e all) →
      all ≡ before ++ bytes ∷ rest → kept before ≡ [] → number ≡ length before + 1 → not_blank bytes ≡ b → cond b (after_header features number (header_at bytes) rest) (read_header features (number + 1) rest) ≡ Err fault → FirstOf features e all
  step_first before bytes rest number true ih a k n w r =
      inr (at_header features e all below before bytes rest fault (header_at bytes) a k w refl (subst (λ (x : ℕ). after_header features x (header_at bytes) rest ≡ Err fault) n r) f)
  step_first before bytes rest number false ih a k n w r =
      ih (before ++ bytes ∷ []) (a ∙ sym (append_assoc before (bytes ∷ []) rest)) (blank_more before bytes k w) (let l = length-append before (bytes ∷ []) in omega (arith, l, n)) r

  pub walk_first : (ls before : List (List ℕ)) (number : ℕ) → all ≡ before ++ ls → kept before ≡ [] → number ≡ length before + 1 → read_header features number ls ≡ Err fault → FirstOf features e all
  walk_first [] before number a k n r =
      let q : NoHeader (max 1 (number - 1)) ≡ fault = cc in
      let g : e ≡ faults.NoHeader (max 1 (number - 1)) = subst (λ (x : Fault). IsFaultOf x e) (sym q) f in
      let same : all ≡ before = a ∙ append-nil before in
      let l : number - 1 ≡ length all = (let z = ap length same in omega (arith, z, n)) in
      inl (record { blank = ap kept same ∙ k; fault_is = g ∙ ap (λ x. faults.NoHeader (max 1 x)) l })
  walk_first (bytes ∷ rest) before number a k n r = step_first before bytes rest number (not_blank bytes) (λ more. walk_first rest more (number + 1)) a k n refl r
