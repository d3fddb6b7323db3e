-- Successors, entries and whole texts: what is read is spelled so, and what is spelled so is read.
use Rattle.std.proofs.Common.{◌≡◌, ℕ, zero, suc, ◌+◌, ◌-◌, ◌<◌, ◌≤◌, ◌^◌, Bool, true, false, cond, List, [], ◌∷◌, ◌++◌, length, take, Option, Some, None, refl, sym, ap, ap₂, subst, ◌∙◌, inl, inr, arith, ◌⊎◌, append_assoc}
use Rattle.std.specs.Prelude.{codes, ◌==◌}
use Rattle.std.specs.List.{prefix_len}
use Rattle.std.specs.Char.{is_ascii_digit}
use Rattle.std.proofs.lemmas.List.{append-nil}
use Rattle.std.proofs.lemmas.Bool.{eqb-true}
use Rattle.vpg_guards.specs.Formula.{Formula}
use Rattle.vpg_guards.specs.Grammar.{is_blank, AreBlank}
use Rattle.vpg_guards.specs.Reading.{◌>>=◌, after_blanks, after_byte, after_sign}
use Rattle.vpg_guards.proofs.Blanks.{bind_some, front_all, front_split, Stops, sign_behind}
use Rattle.vpg_game.specs.Spelled.{SpelledSuccessor, SpelledEntry, named_in}
use Rattle.vpg_game.specs.Grammar.{Number, Successor, Successors, one, comma, Entry, Heading, number_text, bracket_text, successor_text, successors_text, all_successors_text, name_text, entry_text, entries_text, heading_text, IsSuccessor, AreSuccessors, first_successor, AreAllSuccessors, IsEntry, AreEntries, IsHeading, IsApart, successor_of, successors_of, all_successors_of, player_of, entry_of, entries_of, SpellsEntries}
use Rattle.vpg_game.specs.Reading.{within, number_at, bracket_at, with_guard, successor_at, more_successors, successors_at, starts_with_digit, after_name, ended_entry, entry_at, if_ended, more_entries, digits_at, after_word, if_spaced, heading_rest, after_heading, all_entries, entries_at}
use Rattle.vpg_game.proofs.Steps.{further, no_successors, some_successors, behind_owner, behind_priority, behind_id, entry_end, entry_is}
use Rattle.vpg_game.proofs.Parts.{choice_some, digits_found, number_found, apart, bracket_found, name_found, some_is}

-- ---- successors found

pub record SuccessorFound (names : List (List ℕ)) (text : List ℕ) (s : SpelledSuccessor) (rest : List ℕ) : Type 0 where
  pub tree : Successor
  pub formed : IsSuccessor names tree
  pub parts : text ≡ successor_text tree rest
  pub stands : successor_of tree ≡ s

pub successor_found : (names : List (List ℕ)) (text : List ℕ) (x : SpelledSuccessor × List ℕ) → successor_at names text ≡ Some x → SuccessorFound names text x.0 x.1
unfolding successor_at
successor_found names text x e =
    let h = bind_some (number_at (2 ^ 32) text) (λ y. bracket_at names y.1 >>= with_guard y.0) x e in
    let n = number_found (2 ^ 32) text h.0 h.1 in
    let k = bind_some (bracket_at names h.0.1) (with_guard h.0.0) x h.2 in
    let b = bracket_found names h.0.1 k.0 k.1 in
    subst (λ (y : SpelledSuccessor × List ℕ). SuccessorFound names text y.0 y.1) (some_is (record { id = h.0.0; guard = k.0.0 }, k.0.1) x k.2) (record {
      tree = record { target = n.tree; bracket = b.tree };
      formed = record { target = n.formed; bracket = b.formed };
      parts = n.parts ∙ ap (number_text n.tree) b.parts;
      stands = ap₂ (λ (i : ℕ) (g : Formula). let s : SpelledSuccessor = record { id = i; guard = g } in s) n.stands b.stands;
    })

within_is : {A : Type 0} (n : ℕ) (r : Option A) (x : A) → within n r ≡ Some x → (0 < n) × (r ≡ Some x)
within_is zero r x e = absurd cc
within_is (suc n) r x e = (omega arith, e)

-- further successors, or none
pub record FurtherFound (names : List (List ℕ)) (n : ℕ) (read out : List SpelledSuccessor) (text rest : List ℕ) : Type 0 where
  pub blanks : List ℕ
  pub tree : Successors
  pub are : AreBlank blanks
  pub formed : AreSuccessors names tree
  pub parts : text ≡ blanks ++ (44 ∷ successors_text tree rest)
  pub stands : out ≡ read ++ successors_of tree
  pub few : length (successors_of tree) ≤ n

abbrev NoneFound : (read out : List SpelledSuccessor) (text rest : List ℕ) → Type 0
NoneFound read out text rest = (out ≡ read) × (text ≡ rest)

-- a successor with what follows it
abbrev pub joined_to : Successor → List ℕ → Successors → Successors
joined_to s blanks more = comma s blanks more

record FirstFound (names : List (List ℕ)) (n : ℕ) (s : Successor) (read out : List SpelledSuccessor) (text rest : List ℕ) : Type 0 where
  tree : Successors
  formed : AreSuccessors names tree
  first : first_successor tree ≡ s
  parts : successor_text s text ≡ successors_text tree rest
  stands : out ≡ read ++ successors_of tree
  few : length (successors_of tree) ≤ suc n

first_found : (names : List (List ℕ)) (n : ℕ) (s : Successor) (read out : List SpelledSuccessor) (text rest : List ℕ) → IsSuccessor names s
    → FurtherFound names n (read ++ successor_of s ∷ []) out text rest ⊎ NoneFound (read ++ successor_of s ∷ []) out text rest → FirstFound names n s read out text rest
first_found names n s read out text rest ok (inl f) = record {
  tree = comma s f.blanks f.tree;
  formed = (ok, f.are, f.formed);
  first = refl;
  parts = ap (successor_text s) f.parts;
  stands = f.stands ∙ append_assoc read (successor_of s ∷ []) (successors_of f.tree);
  few = omega (arith, f.few);
}
first_found names n s read out text rest ok (inr e) = record {
  tree = one s;
  formed = ok;
  first = refl;
  parts = ap (successor_text s) e.1;
  stands = e.0;
  few = omega arith;
}

further_found : (names : List (List ℕ)) (n : ℕ) (read : List SpelledSuccessor) (text : List ℕ) (x : List SpelledSuccessor × List ℕ) → more_successors names n read text ≡ Some x
    → FurtherFound names n read x.0 text x.1 ⊎ NoneFound read x.0 text x.1
unfolding more_successors
further_found names zero read text x e = go (choice_some (after_sign 44 text) (λ rest. None) (Some (read, text)) x e)
  where
    go : ((r : List ℕ) × (after_sign 44 text ≡ Some r) × (◌≡◌ {A = Option (List SpelledSuccessor × List ℕ)} None (Some x))) ⊎ ((after_sign 44 text ≡ None) × (◌≡◌ {A = Option (List SpelledSuccessor × List ℕ)} (Some (read, text)) (Some x))) → FurtherFound names zero read x.0 text x.1 ⊎ NoneFound read x.0 text x.1
    go (inl (r, here, f)) = absurd cc
    go (inr (none, f)) = let same : (read, text) ≡ x = some_is (read, text) x f in inr (sym (ap (λ (y : List SpelledSuccessor × List ℕ). y.0) same), ap (λ (y : List SpelledSuccessor × List ℕ). y.1) same)
further_found names (suc n) read text x e = go (further_found names n) (choice_some (after_sign 44 text) (λ rest. successor_at names rest >>= λ y. more_successors names n (read ++ y.0 ∷ []) y.1) (Some (read, text)) x e)
  where
    go : ((read : List SpelledSuccessor) (text : List ℕ) (x : List SpelledSuccessor × List ℕ) → more_successors names n read text ≡ Some x → FurtherFound names n read x.0 text x.1 ⊎ NoneFound read x.0 text x.1)
        → ((r : List ℕ) × (after_sign 44 text ≡ Some r) × ((successor_at names r >>= λ y. more_successors names n (read ++ y.0 ∷ []) y.1) ≡ Some x)) ⊎ ((after_sign 44 text ≡ None) × (◌≡◌ {A = Option (List SpelledSuccessor × List ℕ)} (Some (read, text)) (Some x)))
        → FurtherFound names (suc n) read x.0 text x.1 ⊎ NoneFound read x.0 text x.1
    go rec (inl (r, here, f)) =
        let b = sign_behind 44 text r here in
        let h = bind_some (successor_at names r) (λ y. more_successors names n (read ++ y.0 ∷ []) y.1) x f in
        let s = successor_found names r h.0 h.1 in
        let again = rec (read ++ successor_of s.tree ∷ []) h.0.1 x (ap (λ (t : SpelledSuccessor). more_successors names n (read ++ t ∷ []) h.0.1) s.stands ∙ h.2) in
        let w = first_found names n s.tree read x.0 h.0.1 x.1 s.formed again in
        inl (record {
          blanks = b.blanks;
          tree = w.tree;
          are = b.are;
          formed = w.formed;
          parts = b.parts ∙ ap (λ (t : List ℕ). b.blanks ++ (44 ∷ t)) (s.parts ∙ w.parts);
          stands = w.stands;
          few = w.few;
        })
    go rec (inr (none, f)) = let same : (read, text) ≡ x = some_is (read, text) x f in inr (sym (ap (λ (y : List SpelledSuccessor × List ℕ). y.0) same), ap (λ (y : List SpelledSuccessor × List ℕ). y.1) same)

-- all successors of an entry, behind a number
pub record AllFoundHere (names : List (List ℕ)) (n : ℕ) (text : List ℕ) (out : List SpelledSuccessor) (rest : List ℕ) : Type 0 where
  pub tree : Option Successors
  pub formed : AreAllSuccessors names tree
  pub parts : text ≡ all_successors_text tree rest
  pub stands : out ≡ all_successors_of tree
  pub few : length out ≤ n

successors_start : (ss : Successors) (rest : List ℕ) → (t : List ℕ) × (successors_text ss rest ≡ number_text (first_successor ss).target t)
successors_start (one s) rest = (bracket_text s.bracket rest, refl)
successors_start (comma s blanks more) rest = (bracket_text s.bracket (blanks ++ (44 ∷ successors_text more rest)), refl)

first_is_number : (names : List (List ℕ)) (ss : Successors) → AreSuccessors names ss → IsSuccessor names (first_successor ss)
first_is_number names (one s) ok = ok
first_is_number names (comma s blanks more) ok = ok.0

pub all_found : (names : List (List ℕ)) (n : ℕ) (text : List ℕ) (x : List SpelledSuccessor × List ℕ) → Stops is_ascii_digit text → successors_at names n text ≡ Some x → AllFoundHere names n text x.0 x.1
all_found names n text x stops e = go (starts_with_digit (after_blanks text)) refl
  where
    go : (b : Bool) → starts_with_digit (after_blanks text) ≡ b → AllFoundHere names n text x.0 x.1
    go false is =
        let same : ([], text) ≡ x = some_is ([], text) x (sym (no_successors names n text is) ∙ e) in
        subst (λ (y : List SpelledSuccessor × List ℕ). AllFoundHere names n text y.0 y.1) same (record { tree = None; formed = tt; parts = refl; stands = refl; few = omega arith })
    go true is =
        let h = bind_some (within n (successor_at names text)) (further names n []) x (sym (some_successors names n text is) ∙ e) in
        let room = within_is n (successor_at names text) h.0 h.1 in
        let s = successor_found names text h.0 room.1 in
        let more = further_found names (n - 1) (successor_of s.tree ∷ []) h.0.1 x (ap (λ (t : SpelledSuccessor). more_successors names (n - 1) (t ∷ []) h.0.1) s.stands ∙ h.2) in
        let w = first_found names (n - 1) s.tree [] x.0 h.0.1 x.1 s.formed more in
        let whole : text ≡ successors_text w.tree x.1 = s.parts ∙ w.parts in
        let start = successors_start w.tree x.1 in
        let free : Stops is_ascii_digit (number_text (first_successor w.tree).target start.0) = subst (Stops is_ascii_digit) (whole ∙ start.1) stops in
        record {
          tree = Some w.tree;
          formed = (w.formed, apart (first_successor w.tree).target start.0 free (first_is_number names w.tree w.formed).target.0);
          parts = whole;
          stands = w.stands;
          few = omega (arith, w.few, ap length w.stands, room.0);
        }

-- ---- entries found

pub record EntryFound (names : List (List ℕ)) (n : ℕ) (text : List ℕ) (e : SpelledEntry) (rest : List ℕ) : Type 0 where
  pub tree : Entry
  pub formed : IsEntry names tree
  pub parts : text ≡ entry_text tree rest
  pub stands : entry_of tree ≡ e
  pub few : length e.successors ≤ n

pub entry_found : (names : List (List ℕ)) (n : ℕ) (text : List ℕ) (x : SpelledEntry × List ℕ) → entry_at names n text ≡ Some x → EntryFound names n text x.0 x.1
entry_found names n text x e =
    let h = bind_some (number_at 4294967296 text) (behind_id names n) x (sym (entry_is names n text) ∙ e) in
    let i = number_found 4294967296 text h.0 h.1 in
    let k = bind_some (number_at 65536 h.0.1) (behind_priority names n h.0.0) x h.2 in
    let p = number_found 65536 h.0.1 k.0 k.1 in
    let m = bind_some (number_at 2 k.0.1) (behind_owner names n h.0.0 k.0.0) x k.2 in
    let o = number_found 2 k.0.1 m.0 m.1 in
    let q = bind_some (successors_at names n m.0.1) (λ s. ended_entry h.0.0 k.0.0 m.0.0 s.0 s.1) x m.2 in
    let s = all_found names n m.0.1 q.0 o.ends q.1 in
    let end = entry_end h.0.0 k.0.0 m.0.0 q.0.0 in
    let r = bind_some (after_name q.0.1) (λ t. after_sign 59 t >>= end) x q.2 in
    let name = name_found q.0.1 r.0 r.1 in
    let z = bind_some (after_sign 59 r.0) end x r.2 in
    let b = sign_behind 59 r.0 z.0 z.1 in
    let priority_apart : IsApart p.tree = apart p.tree k.0.1 (subst (Stops is_ascii_digit) p.parts i.ends) p.formed.0 in
    let owner_apart : IsApart o.tree = apart o.tree m.0.1 (subst (Stops is_ascii_digit) o.parts p.ends) o.formed.0 in
    let tree : Entry = record { id = i.tree; priority = p.tree; owner = o.tree; successors = s.tree; name = name.tree; before_end = b.blanks } in
    let made : SpelledEntry = record { id = h.0.0; priority = k.0.0; owner = player_of m.0.0; successors = q.0.0 } in
    subst (λ (y : SpelledEntry × List ℕ). EntryFound names n text y.0 y.1) (some_is (made, z.0) x z.2) (record {
      tree = tree;
      formed = record { id = i.formed; priority = p.formed; priority_apart = priority_apart; owner = o.formed; owner_apart = owner_apart; successors = s.formed; name = name.formed; blank = b.are };
      parts = i.parts ∙ ap (number_text i.tree) (p.parts ∙ ap (number_text p.tree) (o.parts ∙ ap (number_text o.tree) (s.parts ∙ ap (all_successors_text s.tree) (name.parts ∙ ap (name_text name.tree) b.parts))));
      stands = entry_same i.stands p.stands o.stands s.stands;
      few = s.few;
    })
  where
    entry_same : {a b c d f g : ℕ} {ss ts : List SpelledSuccessor} → a ≡ b → c ≡ d → f ≡ g → ts ≡ ss
        → ◌≡◌ {A = SpelledEntry} (record { id = a; priority = c; owner = player_of f; successors = ss }) (record { id = b; priority = d; owner = player_of g; successors = ts })
    entry_same p q r s = cc

pub record EntriesFound (names : List (List ℕ)) (m n : ℕ) (read out : List SpelledEntry) (text : List ℕ) : Type 0 where
  pub trees : List Entry
  pub blanks : List ℕ
  pub formed : AreEntries names trees
  pub are : AreBlank blanks
  pub parts : text ≡ entries_text trees blanks
  pub stands : out ≡ read ++ entries_of trees
  pub few : length (entries_of trees) ≤ m
  pub few_successors : named_in (entries_of trees) ≤ n

ended_or : {A : Type 0} (t : List ℕ) (a b : Option A) (x : A) → if_ended t a b ≡ Some x → ((t ≡ []) × (a ≡ Some x)) ⊎ (b ≡ Some x)
ended_or [] a b x e = inl (refl, e)
ended_or (c ∷ t) a b x e = inr e

pub blank_text : (text : List ℕ) → after_blanks text ≡ [] → AreBlank text
blank_text text e =
    let split : text ≡ take (prefix_len is_blank text) text = front_split is_blank text ∙ ap (λ (t : List ℕ). take (prefix_len is_blank text) text ++ t) e ∙ append-nil _ in
    subst AreBlank (sym split) (front_all is_blank text)

none_more : (names : List (List ℕ)) (m n : ℕ) (read out : List SpelledEntry) (text : List ℕ) → after_blanks text ≡ [] → ◌≡◌ {A = Option (List SpelledEntry)} (Some read) (Some out) → EntriesFound names m n read out text
none_more names m n read out text blank e = record {
  trees = [];
  blanks = text;
  formed = tt;
  are = blank_text text blank;
  parts = refl;
  stands = sym (some_is read out e) ∙ sym (append-nil read);
  few = omega arith;
  few_successors = omega arith;
}

pub entries_found : (names : List (List ℕ)) (m n : ℕ) (read : List SpelledEntry) (text : List ℕ) (out : List SpelledEntry) → more_entries names m n read text ≡ Some out → EntriesFound names m n read out text
unfolding more_entries
entries_found names zero n read text out e = go (ended_or (after_blanks text) (Some read) None out e)
  where
    go : ((after_blanks text ≡ []) × (◌≡◌ {A = Option (List SpelledEntry)} (Some read) (Some out))) ⊎ (◌≡◌ {A = Option (List SpelledEntry)} None (Some out)) → EntriesFound names zero n read out text
    go (inl h) = none_more names zero n read out text h.0 h.1
    go (inr h) = absurd cc
entries_found names (suc m) n read text out e =
    go (entries_found names m) (ended_or (after_blanks text) (Some read) (entry_at names n text >>= λ x. more_entries names m (n - length x.0.successors) (read ++ x.0 ∷ []) x.1) out e)
  where
    go : ((n : ℕ) (read : List SpelledEntry) (text : List ℕ) (out : List SpelledEntry) → more_entries names m n read text ≡ Some out → EntriesFound names m n read out text)
        → ((after_blanks text ≡ []) × (◌≡◌ {A = Option (List SpelledEntry)} (Some read) (Some out))) ⊎ ((entry_at names n text >>= λ x. more_entries names m (n - length x.0.successors) (read ++ x.0 ∷ []) x.1) ≡ Some out)
        → EntriesFound names (suc m) n read out text
    go rec (inl h) = none_more names (suc m) n read out text h.0 h.1
    go rec (inr h) =
        let k = bind_some (entry_at names n text) (λ x. more_entries names m (n - length x.0.successors) (read ++ x.0 ∷ []) x.1) out h in
        let s = entry_found names n text k.0 k.1 in
        let f = rec (n - length k.0.0.successors) (read ++ k.0.0 ∷ []) k.0.1 out k.2 in
        let size : length (all_successors_of s.tree.successors) ≡ length k.0.0.successors = ap (λ (e : SpelledEntry). length e.successors) s.stands in
        record {
          trees = s.tree ∷ f.trees;
          blanks = f.blanks;
          formed = (s.formed, f.formed);
          are = f.are;
          parts = s.parts ∙ ap (entry_text s.tree) f.parts;
          stands = f.stands ∙ append_assoc read (k.0.0 ∷ []) (entries_of f.trees) ∙ ap (λ (t : SpelledEntry). read ++ (t ∷ entries_of f.trees)) (sym s.stands);
          few = omega (arith, f.few);
          few_successors = omega (arith, f.few_successors, s.few, size);
        }

-- ---- headings found

pub record HeadingFound (word text rest : List ℕ) : Type 0 where
  pub tree : Option Heading
  pub formed : IsHeading tree
  pub parts : text ≡ heading_text word tree rest

byte_behind : (sign : ℕ) (text rest : List ℕ) → after_byte sign text ≡ Some rest → text ≡ sign ∷ rest
byte_behind sign [] rest e = absurd cc
byte_behind sign (b ∷ text) rest e = go (b == sign) refl e
  where
    go : (t : Bool) → (b == sign) ≡ t → cond t (Some text) None ≡ Some rest → b ∷ text ≡ sign ∷ rest
    go true same e = let here : b ≡ sign = eqb-true b sign same in let there : text ≡ rest = some_is text rest e in cc
    go false same e = absurd cc

word_found : (word text rest : List ℕ) → after_word word text ≡ Some rest → text ≡ word ++ rest
word_found [] text rest e = some_is text rest e
word_found (w ∷ word) text rest e =
    let h = bind_some (after_byte w text) (after_word word) rest e in
    byte_behind w text h.0 h.1 ∙ ap (λ (t : List ℕ). w ∷ t) (word_found word h.0 rest h.2)

record Spaced (t u : List ℕ) : Type 0 where
  same : t ≡ u
  front : 0 < length (take (prefix_len is_blank t) t)

spaced_found : (t u : List ℕ) → if_spaced t ≡ Some u → Spaced t u
spaced_found [] u e = absurd cc
spaced_found (b ∷ t) u e = go (is_blank b) refl e
  where
    go : (c : Bool) → is_blank b ≡ c → cond c (Some (b ∷ t)) None ≡ Some u → Spaced (b ∷ t) u
    go false is e = absurd cc
    go true is e =
        let suc_is : 1 + prefix_len is_blank t ≡ suc (prefix_len is_blank t) = omega arith in
        record { same = some_is (b ∷ t) u e; front = rw (is, suc_is) (omega arith) }

pub heading_found : (first : ℕ) (word text rest : List ℕ) → after_heading first word text ≡ Some rest → HeadingFound (first ∷ word) text rest
unfolding after_heading
heading_found first word text rest e = go (choice_some (after_sign first text) (heading_rest word) (Some text) rest e)
  where
    go : ((r : List ℕ) × (after_sign first text ≡ Some r) × (heading_rest word r ≡ Some rest)) ⊎ ((after_sign first text ≡ None) × (◌≡◌ {A = Option (List ℕ)} (Some text) (Some rest))) → HeadingFound (first ∷ word) text rest
    go (inr (none, f)) = record { tree = None; formed = tt; parts = some_is text rest f }
    go (inl (r, here, f)) =
        let b = sign_behind first text r here in
        let h = bind_some (after_word word r) (λ t. if_spaced t >>= λ u. digits_at (after_blanks u) >>= λ x. after_sign 59 x.1) rest f in
        let k = bind_some (if_spaced h.0) (λ u. digits_at (after_blanks u) >>= λ x. after_sign 59 x.1) rest h.2 in
        let m = bind_some (digits_at (after_blanks k.0)) (λ x. after_sign 59 x.1) rest k.2 in
        let s = spaced_found h.0 k.0 k.1 in
        let d = digits_found (after_blanks k.0) m.0 m.1 in
        let end = sign_behind 59 m.0.1 rest m.2 in
        let blanks : List ℕ = take (prefix_len is_blank k.0) k.0 in
        let free : 0 < length blanks = subst (λ (t : List ℕ). 0 < length (take (prefix_len is_blank t) t)) s.same s.front in
        let number : Number = record { before = blanks; digits = m.0.0 } in
        record {
          tree = Some (record { before = b.blanks; number = number; before_end = end.blanks });
          formed = (b.are, record { blank = front_all is_blank k.0; some = d.some; digits = d.digits }, free, end.are);
          parts = b.parts ∙ ap (λ (t : List ℕ). b.blanks ++ (first ∷ t)) (word_found word r h.0 h.1
              ∙ ap (λ (t : List ℕ). word ++ t) (s.same ∙ front_split is_blank k.0 ∙ ap (λ (t : List ℕ). blanks ++ t) (d.parts ∙ ap (λ (t : List ℕ). m.0.0 ++ t) end.parts)));
        }

-- ---- what is read is spelled so

pub text_found : (names : List (List ℕ)) (text : List ℕ) (out : List SpelledEntry) → entries_at names text ≡ Some out → SpellsEntries names text out
unfolding entries_at
text_found names text out e =
    let h = bind_some (after_heading 112 (codes "arity") text) (λ t. after_heading 115 (codes "tart") t >>= all_entries names) out e in
    let header = heading_found 112 (codes "arity") text h.0 h.1 in
    let k = bind_some (after_heading 115 (codes "tart") h.0) (all_entries names) out h.2 in
    let start = heading_found 115 (codes "tart") h.0 k.0 k.1 in
    let m = bind_some (entry_at names 1048576 k.0) (λ x. more_entries names 65535 (1048576 - length x.0.successors) (x.0 ∷ []) x.1) out k.2 in
    let first = entry_found names 1048576 k.0 m.0 m.1 in
    let f = entries_found names 65535 (1048576 - length m.0.0.successors) (m.0.0 ∷ []) m.0.1 out m.2 in
    let size : length (all_successors_of first.tree.successors) ≡ length m.0.0.successors = ap (λ (e : SpelledEntry). length e.successors) first.stands in
    let whole : entry_of first.tree ∷ entries_of f.trees ≡ out = ap (λ (t : SpelledEntry). t ∷ entries_of f.trees) first.stands ∙ sym f.stands in
    let count : length out ≡ suc (length (entries_of f.trees)) = ap length (sym whole) in
    let named : named_in out ≡ length (all_successors_of first.tree.successors) + named_in (entries_of f.trees) = ap named_in (sym whole) in
    record {
      file = record { header = header.tree; start = start.tree; first = first.tree; entries = f.trees; blanks = f.blanks };
      well_formed = record { header = header.formed; start = start.formed; first = first.formed; entries = f.formed; blank = f.are };
      spelled = header.parts ∙ ap (heading_text (codes "parity") header.tree) (start.parts ∙ ap (heading_text (codes "start") start.tree) (first.parts ∙ ap (entry_text first.tree) f.parts));
      stands = whole;
      few_entries = omega (arith, f.few, count);
      few_successors = omega (arith, f.few_successors, first.few, size, named);
    }
