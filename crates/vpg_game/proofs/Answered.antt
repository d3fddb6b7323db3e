-- What reading answers, against what the text spells.
use Rattle.std.proofs.Common.{◌≡◌, ℕ, zero, suc, ◌<◌, List, [], ◌∷◌, length, take, Some, None, Result, Ok, Err, slice_get, refl, sym, ap, ap₂, subst, ◌∙◌, arith}
use Rattle.std.specs.Prelude.{IfOk, IfErr, MatchResult}
use Rattle.vpg_features.specs.Names.{AreNames}
use Rattle.vpg_game.specs.declared.fault.GameFault.{GameFault}
use Rattle.vpg_game.specs.declared.fault.GameFault.TheVariants as faults
use Rattle.vpg_game.specs.Spelled.{SpelledSuccessor, SpelledEntry}
use Rattle.vpg_game.specs.Grammar.{SpellsEntries}
use Rattle.vpg_game.specs.Reading.{entries_at, Fails}
use Rattle.vpg_game.specs.Game.{NamedGame, game_of, entry_ids, AreSound, SpellsGame, Lacks, Holds, AreDistinct, AllHeld, AllFound, IsFirstDouble, IsMissing}
use Rattle.vpg_game.specs.Laws.{TextsSpellOneGame}
use Rattle.vpg_game.specs.Refused.{SpellsNone, IsRefused}
use Rattle.vpg_game.specs.Building.{IsMakingFault}
use Rattle.vpg_game.proofs.Build.{index_held}
use Rattle.vpg_game.proofs.Parts.{some_is}
use Rattle.vpg_game.proofs.Whole.{text_found}
use Rattle.vpg_game.proofs.ReadAgain.{text_again}

module _ (names : List (List ℕ)) (text : List ℕ) (are : AreNames names) where
  spells_none : entries_at names text ≡ None → SpellsNone names text
  spells_none none es s = let some = text_again names are text es s in absurd cc

  pub text_refused : (e : GameFault) → Fails e (entries_at names text) → IsRefused names text e
  text_refused (faults.Syntax at) h = spells_none h
  text_refused (faults.BadOwner at) h = spells_none h
  text_refused (faults.PriorityTooLarge at) h = spells_none h
  text_refused (faults.TooMany at) h = spells_none h
  text_refused (faults.Guard at fault) h = spells_none h
  text_refused (faults.DoubleVertex id) h = absurd h
  text_refused (faults.MissingVertex id) h = absurd h
  text_refused faults.TooWide h = absurd h
  text_refused faults.Memory h = tt

  pub text_only : (e : GameFault) → Fails e (entries_at names text) → (game : NamedGame) → SpellsGame names text game → e ≡ faults.Memory
  text_only (faults.Syntax at) h game s = absurd (spells_none h s.entries s.spelled)
  text_only (faults.BadOwner at) h game s = absurd (spells_none h s.entries s.spelled)
  text_only (faults.PriorityTooLarge at) h game s = absurd (spells_none h s.entries s.spelled)
  text_only (faults.TooMany at) h game s = absurd (spells_none h s.entries s.spelled)
  text_only (faults.Guard at fault) h game s = absurd (spells_none h s.entries s.spelled)
  text_only (faults.DoubleVertex id) h game s = absurd h
  text_only (faults.MissingVertex id) h game s = absurd h
  text_only faults.TooWide h game s = absurd h
  text_only faults.Memory h game s = refl

-- ---- sound entries have none of the faults

pub got_take : (ids : List ℕ) (n i id : ℕ) → slice_get (take n ids) i ≡ Some id → (i < n) × (slice_get ids i ≡ Some id)
got_take ids zero i id e = absurd cc
got_take [] (suc n) i id e = absurd cc
got_take (k ∷ ids) (suc n) zero id e = (omega arith, e)
got_take (k ∷ ids) (suc n) (suc i) id e = let h = got_take ids n i id e in (omega (arith, h.0), h.1)

no_double : (ids : List ℕ) (id : ℕ) → AreDistinct ids → IsFirstDouble ids id → ⊥
no_double ids id distinct (n, before, here, held) =
    let h = got_take ids n held.0 id held.1 in
    let one = index_held id ids n distinct here in
    let two = index_held id ids held.0 distinct h.1 in
    absurd (omega (arith, h.0, one, two))

entry_found_at : (ids : List ℕ) (es : List SpelledEntry) (n : ℕ) (e : SpelledEntry) → AllFound ids es → slice_get es n ≡ Some e → AllHeld ids e.successors
entry_found_at ids [] n e found is = absurd cc
entry_found_at ids (f ∷ es) zero e found is = subst (λ (g : SpelledEntry). AllHeld ids g.successors) (some_is f e is) found.0
entry_found_at ids (f ∷ es) (suc n) e found is = entry_found_at ids es n e found.1 is

held_at : (ids : List ℕ) (ss : List SpelledSuccessor) (n : ℕ) (s : SpelledSuccessor) → AllHeld ids ss → slice_get ss n ≡ Some s → Holds ids s.id
held_at ids [] n s held is = absurd cc
held_at ids (t ∷ ss) zero s held is = subst (λ (u : SpelledSuccessor). Holds ids u.id) (some_is t s is) held.0
held_at ids (t ∷ ss) (suc n) s held is = held_at ids ss n s held.1 is

no_missing : (es : List SpelledEntry) (id : ℕ) → AllFound (entry_ids es) es → IsMissing es id → ⊥
no_missing es id found missing = go missing.first
  where
    go : (n : ℕ) × (e : SpelledEntry) × (slice_get es n ≡ Some e) × AllFound (entry_ids es) (take n es) × ((k : ℕ) × (s : SpelledSuccessor) × (slice_get e.successors k ≡ Some s) × (s.id ≡ id) × AllHeld (entry_ids es) (take k e.successors) × Lacks (entry_ids es) id) → ⊥
    go (n, e, is, before, (k, s, here, same, earlier, lacks)) =
        let held = held_at (entry_ids es) e.successors k s (entry_found_at (entry_ids es) es n e found is) here in
        lacks held.0 (held.1 ∙ ap (λ (i : ℕ). Some i) same)

pub sound_makes : (es : List SpelledEntry) (e : GameFault) → AreSound es → IsMakingFault es e → e ≡ faults.Memory
sound_makes es (faults.DoubleVertex id) sound h = absurd (no_double (entry_ids es) id sound.distinct h)
sound_makes es (faults.MissingVertex id) sound h = absurd (no_missing es id sound.found h)
sound_makes es faults.TooWide sound h = absurd (h.wide sound.narrow)
sound_makes es faults.Memory sound h = refl
sound_makes es (faults.Syntax at) sound h = absurd h
sound_makes es (faults.BadOwner at) sound h = absurd h
sound_makes es (faults.PriorityTooLarge at) sound h = absurd h
sound_makes es (faults.TooMany at) sound h = absurd h
sound_makes es (faults.Guard at fault) sound h = absurd h

making_refused : (names : List (List ℕ)) (text : List ℕ) (es : List SpelledEntry) (e : GameFault) → SpellsEntries names text es → IsMakingFault es e → IsRefused names text e
making_refused names text es (faults.DoubleVertex id) s h = (es, s, h)
making_refused names text es (faults.MissingVertex id) s h = (es, s, h)
making_refused names text es faults.TooWide s h = (es, s, h)
making_refused names text es faults.Memory s h = tt
making_refused names text es (faults.Syntax at) s h = absurd h
making_refused names text es (faults.BadOwner at) s h = absurd h
making_refused names text es (faults.PriorityTooLarge at) s h = absurd h
making_refused names text es (faults.TooMany at) s h = absurd h
making_refused names text es (faults.Guard at fault) s h = absurd h

-- ---- what `make` answers

pub made_found : (names : List (List ℕ)) (text : List ℕ) (n : ℕ) (es : List SpelledEntry) (r : Result NamedGame GameFault) → n ≡ length names → entries_at names text ≡ Some es
    → IfOk r (λ g. g ≡ game_of n es) → IfOk r (λ _. AreSound es) → IfOk r (λ g. SpellsGame names text g)
made_found names text n es (Ok g) same read is sound = record { entries = es; spelled = text_found names text es read; sound = sound; stands = ap (λ (k : ℕ). game_of k es) (sym same) ∙ sym is }
made_found names text n es (Err e) same read is sound = tt

pub made_refused : (names : List (List ℕ)) (text : List ℕ) (es : List SpelledEntry) (r : Result NamedGame GameFault) → entries_at names text ≡ Some es → IfErr r (IsMakingFault es) → IfErr r (IsRefused names text)
made_refused names text es (Ok g) read h = tt
made_refused names text es (Err e) read h = making_refused names text es e (text_found names text es read) h

pub made_only : (names : List (List ℕ)) (text : List ℕ) (n : ℕ) (es : List SpelledEntry) (r : Result NamedGame GameFault) → AreNames names → n ≡ length names → entries_at names text ≡ Some es
    → IfOk r (λ g. g ≡ game_of n es) → IfErr r (IsMakingFault es) → (game : NamedGame) → SpellsGame names text game → MatchResult r (λ g. g ≡ game) (λ e. e ≡ faults.Memory)
made_only names text n es (Ok g) are same read is h game s =
    let here : es ≡ s.entries = some_is es s.entries (sym read ∙ text_again names are text s.entries s.spelled) in
    is ∙ ap₂ game_of same here ∙ s.stands
made_only names text n es (Err e) are same read is h game s =
    let here : s.entries ≡ es = some_is s.entries es (sym (text_again names are text s.entries s.spelled) ∙ read) in
    sound_makes es e (subst AreSound here s.sound) h

pub texts_spell_one_game : TextsSpellOneGame
texts_spell_one_game names text g h are s t =
    let same : s.entries ≡ t.entries = some_is s.entries t.entries (sym (text_again names are text s.entries s.spelled) ∙ text_again names are text t.entries t.spelled) in
    sym s.stands ∙ ap (game_of (length names)) same ∙ t.stands

pub made_only_memory : (es : List SpelledEntry) (r : Result NamedGame GameFault) → IfErr r (IsMakingFault es) → AreSound es → IfErr r (λ e. e ≡ faults.Memory)
made_only_memory es (Ok g) h sound = tt
made_only_memory es (Err e) h sound = sound_makes es e sound h
