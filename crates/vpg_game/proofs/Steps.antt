-- The steps of reading, as the code takes them.
use Rattle.std.proofs.Common.{◌≡◌, ℕ, zero, suc, ◌+◌, ◌-◌, ◌*◌, ◌<◌, Bool, true, false, cond, min, List, [], ◌∷◌, ◌++◌, length, Option, Some, None, refl, sym, ap, ap₂, ◌∙◌, arith}
use Rattle.std.specs.Prelude.{nat_lt}
use Rattle.std.specs.Str.Parse.{digits_value}
use Rattle.std.proofs.lemmas.Bool.{lt-ltb, le-ltb}
use Rattle.vpg_game.specs.declared.fault.GameFault.{GameFault}
use Rattle.vpg_game.specs.declared.fault.GameFault.TheVariants as faults
use Rattle.vpg_guards.specs.declared.fault.GuardFault.{GuardFault}
use Rattle.vpg_guards.specs.declared.fault.GuardFault.TheVariants as guard_faults
use Rattle.vpg_guards.specs.Formula.{Formula}
use Rattle.vpg_guards.specs.Grammar.{Spells}
use Rattle.vpg_guards.specs.Reading.{◌>>=◌, after_blanks, after_sign, guard_at}
use Rattle.vpg_guards.proofs.Found.{guard_found}
use Rattle.vpg_game.specs.Spelled.{SpelledSuccessor, SpelledEntry}
use Rattle.vpg_game.specs.Reading.{Read, Fails, choice, within, digits_at, number_at, number_below, fault_of_guard, successor_at, more_successors, successors_at, starts_with_digit, entry_at, more_entries, if_ended, after_name, ended_entry}
use Rattle.vpg_game.specs.Grammar.{player_of}

-- where one reader fails another does
pub fails_too : {A B : Type 0} (e : GameFault) (r : Option A) (s : Option B) → (r ≡ None → s ≡ None) → Fails e r → Fails e s
fails_too (faults.Syntax at) r s so h = so h
fails_too (faults.BadOwner at) r s so h = so h
fails_too (faults.PriorityTooLarge at) r s so h = so h
fails_too (faults.TooMany at) r s so h = so h
fails_too (faults.Guard at fault) r s so h = so h
fails_too (faults.DoubleVertex id) r s so h = h
fails_too (faults.MissingVertex id) r s so h = h
fails_too faults.TooWide r s so h = h
fails_too faults.Memory r s so h = tt

pub bind_is : {A B : Type 0} (r : Option A) (f : A → Option B) (x : A) → r ≡ Some x → (r >>= f) ≡ f x
bind_is r f x e = ap (λ o. o >>= f) e

pub bind_none : {A B : Type 0} (r : Option A) (f : A → Option B) → r ≡ None → (r >>= f) ≡ None
bind_none r f e = ap (λ o. o >>= f) e

pub fails_bind : {A B : Type 0} (e : GameFault) (r : Option A) (f : A → Option B) → Fails e r → Fails e (r >>= f)
fails_bind e r f h = fails_too e r (r >>= f) (bind_none r f) h

-- a step that fails makes all that begins with it fail
pub fails_from : {A B : Type 0} (e : GameFault) (r : Option A) (s : Option B) (f : A → Option B) → s ≡ (r >>= f) → Fails e r → Fails e s
fails_from e r s f is h = fails_too e r s (λ n. is ∙ bind_none r f n) h

-- ---- room

pub within_none : {A : Type 0} (n : ℕ) (r : Option A) → r ≡ None → within n r ≡ None
within_none zero r e = refl
within_none (suc n) r e = e

pub within_some : {A : Type 0} (n : ℕ) (r : Option A) → 0 < n → within n r ≡ r
within_some zero r lt = absurd (omega arith)
within_some (suc n) r lt = refl

pub fails_within : {A : Type 0} (n : ℕ) (e : GameFault) (r : Option A) → Fails e r → Fails e (within n r)
fails_within n e r h = fails_too e r (within n r) (within_none n r) h

-- ---- numbers

pub capped : (limit v w d : ℕ) → v ≡ min limit w → min limit (v * 10 + d) ≡ min limit (w * 10 + d)
capped limit v w d e = omega arith

below_false : (limit : ℕ) (ds rest : List ℕ) (b : Bool) → nat_lt (digits_value 10 ds) limit ≡ b → b ≡ false → number_below limit ds rest ≡ None
below_false limit ds rest b e f = ap (λ t. cond t (Some (digits_value 10 ds, rest)) None) (e ∙ f)

pub number_large : (limit : ℕ) (text ds rest : List ℕ) → digits_at (after_blanks text) ≡ Some (ds, rest) → min limit (digits_value 10 ds) ≡ limit → number_at limit text ≡ None
unfolding number_at
number_large limit text ds rest e large =
    let no : nat_lt (digits_value 10 ds) limit ≡ false = le-ltb _ _ (omega arith) in
    bind_is (digits_at (after_blanks text)) (λ x. number_below limit x.0 x.1) (ds, rest) e ∙ below_false limit ds rest _ refl no

pub number_small : (limit v : ℕ) (text ds rest : List ℕ) → digits_at (after_blanks text) ≡ Some (ds, rest) → v ≡ min limit (digits_value 10 ds) → (v ≡ limit → ⊥) → number_at limit text ≡ Some (v, rest)
unfolding number_at
number_small limit v text ds rest e is ne =
    let yes : nat_lt (digits_value 10 ds) limit ≡ true = lt-ltb _ _ (omega arith) in
    let same : digits_value 10 ds ≡ v = omega arith in
    bind_is (digits_at (after_blanks text)) (λ x. number_below limit x.0 x.1) (ds, rest) e
    ∙ ap (λ t. cond t (Some (digits_value 10 ds, rest)) None) yes
    ∙ ap (λ (n : ℕ). Some (n, rest)) same

pub number_fails : (limit : ℕ) (text : List ℕ) (e : GameFault) → Fails e (digits_at (after_blanks text)) → Fails e (number_at limit text)
unfolding number_at
number_fails limit text e h = fails_bind e (digits_at (after_blanks text)) (λ x. number_below limit x.0 x.1) h

-- ---- guards

none_found : (names : List (List ℕ)) (text : List ℕ) → ((g : Formula) → Spells names text g → ⊥) → guard_at names text ≡ None
none_found names text none = go (guard_at names text) refl
  where
    go : (o : Option Formula) → guard_at names text ≡ o → o ≡ None
    go None e = refl
    go (Some g) e = absurd (none g (guard_found names text g e))

pub guard_refused : (names : List (List ℕ)) (text : List ℕ) (at : ℕ) (e : GuardFault) → ((g : Formula) → Spells names text g → e ≡ guard_faults.Memory) → Fails (fault_of_guard at e) (guard_at names text)
guard_refused names text at (guard_faults.Syntax place) only = none_found names text (λ g s. let h = only g s in cc)
guard_refused names text at (guard_faults.UnknownFeature place) only = none_found names text (λ g s. let h = only g s in cc)
guard_refused names text at (guard_faults.TooDeep place) only = none_found names text (λ g s. let h = only g s in cc)
guard_refused names text at guard_faults.Memory only = tt

-- ---- successors

abbrev pub further : List (List ℕ) → ℕ → List SpelledSuccessor → (SpelledSuccessor × List ℕ) → Read (List SpelledSuccessor)
further names n read x = more_successors names (n - 1) (read ++ x.0 ∷ []) x.1

pub no_successors : (names : List (List ℕ)) (n : ℕ) (text : List ℕ) → starts_with_digit (after_blanks text) ≡ false → successors_at names n text ≡ Some ([], text)
unfolding successors_at
no_successors names n text e = ap (λ b. cond b (within n (successor_at names text) >>= further names n []) (Some ([], text))) e

pub some_successors : (names : List (List ℕ)) (n : ℕ) (text : List ℕ) → starts_with_digit (after_blanks text) ≡ true → successors_at names n text ≡ (within n (successor_at names text) >>= further names n [])
unfolding successors_at
some_successors names n text e = ap (λ b. cond b (within n (successor_at names text) >>= further names n []) (Some ([], text))) e

pub more_ends : (names : List (List ℕ)) (n : ℕ) (read : List SpelledSuccessor) (text : List ℕ) → after_sign 44 text ≡ None → more_successors names n read text ≡ Some (read, text)
unfolding more_successors
more_ends names zero read text e = ap (λ (o : Option (List ℕ)). choice o (λ rest. None) (Some (read, text))) e
more_ends names (suc n) read text e = ap (λ (o : Option (List ℕ)). choice o (λ rest. successor_at names rest >>= λ x. more_successors names n (read ++ x.0 ∷ []) x.1) (Some (read, text))) e

pub more_goes : (names : List (List ℕ)) (n : ℕ) (read : List SpelledSuccessor) (text rest : List ℕ) → after_sign 44 text ≡ Some rest → more_successors names n read text ≡ (within n (successor_at names rest) >>= further names n read)
unfolding more_successors
more_goes names zero read text rest e = ap (λ (o : Option (List ℕ)). choice o (λ rest. None) (Some (read, text))) e
more_goes names (suc n) read text rest e =
    let less : suc n - 1 ≡ n = omega arith in
    ap (λ (o : Option (List ℕ)). choice o (λ rest. successor_at names rest >>= λ x. more_successors names n (read ++ x.0 ∷ []) x.1) (Some (read, text))) e
    ∙ ap (λ (k : ℕ). successor_at names rest >>= λ x. more_successors names k (read ++ x.0 ∷ []) x.1) (sym less)

-- one turn of the loop
pub successors_turn : (names : List (List ℕ)) (n m : ℕ) (read new : List SpelledSuccessor) (text rest behind : List ℕ) (s : SpelledSuccessor) → after_sign 44 text ≡ Some rest → within n (successor_at names rest) ≡ Some (s, behind) → n - 1 ≡ m → new ≡ read ++ s ∷ []
    → more_successors names n read text ≡ more_successors names m new behind
successors_turn names n m read new text rest behind s e f less is =
    more_goes names n read text rest e ∙ bind_is (within n (successor_at names rest)) (further names n read) (s, behind) f
    ∙ ap₂ (λ (k : ℕ) (r : List SpelledSuccessor). more_successors names k r behind) less (sym is)

pub successors_start : (names : List (List ℕ)) (n m : ℕ) (new : List SpelledSuccessor) (text behind : List ℕ) (s : SpelledSuccessor) → starts_with_digit (after_blanks text) ≡ true → within n (successor_at names text) ≡ Some (s, behind) → n - 1 ≡ m → new ≡ s ∷ []
    → successors_at names n text ≡ more_successors names m new behind
successors_start names n m new text behind s e f less is =
    some_successors names n text e ∙ bind_is (within n (successor_at names text)) (further names n []) (s, behind) f
    ∙ ap₂ (λ (k : ℕ) (r : List SpelledSuccessor). more_successors names k r behind) less (sym is)

-- ---- entries

abbrev pub later : List (List ℕ) → ℕ → ℕ → List SpelledEntry → (SpelledEntry × List ℕ) → Option (List SpelledEntry)
later names n left read x = more_entries names (n - 1) (left - length x.0.successors) (read ++ x.0 ∷ []) x.1

pub entries_end : (names : List (List ℕ)) (n left : ℕ) (read : List SpelledEntry) (text : List ℕ) → after_blanks text ≡ [] → more_entries names n left read text ≡ Some read
unfolding more_entries
entries_end names zero left read text e = ap (λ (t : List ℕ). if_ended t (Some read) None) e
entries_end names (suc n) left read text e =
    ap (λ (t : List ℕ). if_ended t (Some read) (entry_at names left text >>= λ x. more_entries names n (left - length x.0.successors) (read ++ x.0 ∷ []) x.1)) e

not_ended : {A : Type 0} (t : List ℕ) (a b : A) → 0 < length t → if_ended t a b ≡ b
not_ended [] a b lt = absurd (omega arith)
not_ended (c ∷ t) a b lt = refl

pub entries_go : (names : List (List ℕ)) (n left : ℕ) (read : List SpelledEntry) (text : List ℕ) → 0 < length (after_blanks text) → more_entries names n left read text ≡ (within n (entry_at names left text) >>= later names n left read)
unfolding more_entries
entries_go names zero left read text lt = not_ended (after_blanks text) (Some read) None lt
entries_go names (suc n) left read text lt =
    let less : suc n - 1 ≡ n = omega arith in
    not_ended (after_blanks text) (Some read) (entry_at names left text >>= λ x. more_entries names n (left - length x.0.successors) (read ++ x.0 ∷ []) x.1) lt
    ∙ ap (λ (k : ℕ). entry_at names left text >>= λ x. more_entries names k (left - length x.0.successors) (read ++ x.0 ∷ []) x.1) (sym less)

-- one turn of the loop
pub entries_turn : (names : List (List ℕ)) (n m left fewer : ℕ) (read new : List SpelledEntry) (text behind : List ℕ) (s : SpelledEntry) → 0 < length (after_blanks text) → within n (entry_at names left text) ≡ Some (s, behind) → n - 1 ≡ m → left - length s.successors ≡ fewer → new ≡ read ++ s ∷ []
    → more_entries names n left read text ≡ more_entries names m fewer new behind
entries_turn names n m left fewer read new text behind s e f less named is =
    entries_go names n left read text e ∙ bind_is (within n (entry_at names left text)) (later names n left read) (s, behind) f
    ∙ ap (λ (k : ℕ). more_entries names k (left - length s.successors) (read ++ s ∷ []) behind) less
    ∙ ap₂ (λ (k : ℕ) (r : List SpelledEntry). more_entries names m k r behind) named (sym is)

-- ---- one entry

abbrev pub behind_owner : List (List ℕ) → ℕ → ℕ → ℕ → (ℕ × List ℕ) → Read SpelledEntry
behind_owner names n id priority o = successors_at names n o.1 >>= λ s. ended_entry id priority o.0 s.0 s.1

abbrev pub behind_priority : List (List ℕ) → ℕ → ℕ → (ℕ × List ℕ) → Read SpelledEntry
behind_priority names n id p = number_at 2 p.1 >>= behind_owner names n id p.0

abbrev pub behind_id : List (List ℕ) → ℕ → (ℕ × List ℕ) → Read SpelledEntry
behind_id names n i = number_at 65536 i.1 >>= behind_priority names n i.0

abbrev pub entry_end : ℕ → ℕ → ℕ → List SpelledSuccessor → List ℕ → Read SpelledEntry
entry_end id priority owner successors rest = Some (record { id = id; priority = priority; owner = player_of owner; successors = successors }, rest)

module _ (names : List (List ℕ)) (n : ℕ) (text : List ℕ) where
  pub entry_is : entry_at names n text ≡ (number_at 4294967296 text >>= behind_id names n)
  unfolding entry_at
  entry_is = refl

  pub entry_has_id : (id : ℕ) (t : List ℕ) → number_at 4294967296 text ≡ Some (id, t) → entry_at names n text ≡ (number_at 65536 t >>= behind_priority names n id)
  entry_has_id id t e = entry_is ∙ bind_is (number_at 4294967296 text) (behind_id names n) (id, t) e

  pub entry_has_priority : (id p : ℕ) (t u : List ℕ) → number_at 4294967296 text ≡ Some (id, t) → number_at 65536 t ≡ Some (p, u) → entry_at names n text ≡ (number_at 2 u >>= behind_owner names n id p)
  entry_has_priority id p t u e f = entry_has_id id t e ∙ bind_is (number_at 65536 t) (behind_priority names n id) (p, u) f

  pub entry_has_owner : (id p o : ℕ) (t u v : List ℕ) → number_at 4294967296 text ≡ Some (id, t) → number_at 65536 t ≡ Some (p, u) → number_at 2 u ≡ Some (o, v) → entry_at names n text ≡ (successors_at names n v >>= λ s. ended_entry id p o s.0 s.1)
  entry_has_owner id p o t u v e f g = entry_has_priority id p t u e f ∙ bind_is (number_at 2 u) (behind_owner names n id p) (o, v) g

  pub entry_has_successors : (id p o : ℕ) (t u v w : List ℕ) (ss : List SpelledSuccessor) → number_at 4294967296 text ≡ Some (id, t) → number_at 65536 t ≡ Some (p, u) → number_at 2 u ≡ Some (o, v) → successors_at names n v ≡ Some (ss, w)
      → entry_at names n text ≡ (after_name w >>= λ x. after_sign 59 x >>= entry_end id p o ss)
  entry_has_successors id p o t u v w ss e f g h = entry_has_owner id p o t u v e f g ∙ bind_is (successors_at names n v) (λ s. ended_entry id p o s.0 s.1) (ss, w) h
