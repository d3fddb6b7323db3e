-- Arrows that are joined.
use Rattle.std.proofs.Common.{◌≡◌, ℕ, zero, suc, ◌+◌, ◌<◌, ◌≤◌, Bool, true, false, not, ◌||◌, cond, if◌then◌else◌, List, [], ◌∷◌, ◌++◌, length, get_or, set, codes, refl, sym, ap, ◌∙◌, subst, arith, add-one}
use Rattle.std.specs.List.{list_any, position_or_len}
use Rattle.indexmap.specs.IndexSet.{insert_key}
use Rattle.vpg_guards.specs.declared.tri.Tri.{Tri}
use Rattle.vpg_system.specs.SystemText.{Transition, NamedSystem}
use Rattle.vpg_system_draw.specs.Arrows.{Arrow, same_ends, joined, arrows_below, with_transition, no_transition}
use Rattle.vpg_system_draw.specs.Joining.{arrows_in, no_arrow, AreArrows, AreJoined}
use Rattle.vpg_system_draw.specs.declared.arrows.Look.{Look}

abbrev Ends : Type 0
Ends = List (ℕ × ℕ)

abbrev Labels : Type 0
Labels = List (List ℕ)

one_more : (n : ℕ) → 1 + n ≡ suc n
one_more n = omega arith

-- ---- one arrow more

module _ (source target : ℕ) (text : List ℕ) where
  abbrev it : ℕ × ℕ
  it = (source, target)

  abbrev new : Arrow
  new = record { source = source; target = target; label = text }

  -- where the ends first stand
  abbrev place : Ends → ℕ
  place ends = position_or_len (same_ends it) ends

  -- the label with the text in a line of its own
  abbrev with_line : List ℕ → List ℕ
  with_line label = label ++ (codes "\\n" ++ text)

  -- behind another arrow
  behind : (any : Bool) (e : ℕ × ℕ) (x : List ℕ) (ends : Ends) (labels : Labels) (arrows : List Arrow) → AreArrows arrows (if any then ends else ends ++ it ∷ []) labels →
      AreArrows (record { source = e.0; target = e.1; label = x } ∷ arrows) (if any then e ∷ ends else (e ∷ ends) ++ it ∷ []) (x ∷ labels)
  behind true e x ends labels arrows is = record { count = ap suc is.count; are = ap (λ (others : List Arrow). record { source = e.0; target = e.1; label = x } ∷ others) is.are }
  behind false e x ends labels arrows is = record { count = ap suc is.count; are = ap (λ (others : List Arrow). record { source = e.0; target = e.1; label = x } ∷ others) is.are }

  line_added : (ends : Ends) (labels : Labels) → length labels ≡ length ends → place ends < length labels →
      AreJoined ends labels source target text (insert_key same_ends ends it) (set labels (place ends) (with_line (get_or labels (place ends) [])))
  line_added [] [] count less = absurd (omega arith)
  line_added [] (x ∷ labels) count less = absurd (omega arith)
  line_added (e ∷ ends) [] count less = absurd (omega arith)
  line_added (e ∷ ends) (x ∷ labels) count less = at (same_ends it e) less (line_added ends labels (omega (arith, count)))
    where
      at : (b : Bool) → cond (not b) (1 + place ends) 0 < length (x ∷ labels) →
          (place ends < length labels → AreJoined ends labels source target text (insert_key same_ends ends it) (set labels (place ends) (with_line (get_or labels (place ends) [])))) →
          AreArrows (cond b (record { source = e.0; target = e.1; label = with_line x } ∷ arrows_in ends labels) (record { source = e.0; target = e.1; label = x } ∷ joined (arrows_in ends labels) new))
          (if b || list_any (same_ends it) ends then e ∷ ends else (e ∷ ends) ++ it ∷ [])
          (set (x ∷ labels) (cond (not b) (1 + place ends) 0) (with_line (get_or (x ∷ labels) (cond (not b) (1 + place ends) 0) [])))
      at true l rest = record { count = count; are = refl }
      at false l rest = subst (λ (n : ℕ). AreArrows (record { source = e.0; target = e.1; label = x } ∷ joined (arrows_in ends labels) new)
          (if list_any (same_ends it) ends then e ∷ ends else (e ∷ ends) ++ it ∷ []) (set (x ∷ labels) n (with_line (get_or (x ∷ labels) n [])))) (sym (one_more (place ends)))
          (behind (list_any (same_ends it) ends) e x ends (set labels (place ends) (with_line (get_or labels (place ends) []))) (joined (arrows_in ends labels) new)
          (rest (omega (arith, l))))

  arrow_added : (ends : Ends) (labels : Labels) → length labels ≡ length ends → length labels ≤ place ends → AreJoined ends labels source target text (insert_key same_ends ends it) (labels ++ text ∷ [])
  arrow_added [] [] count all = record { count = refl; are = refl }
  arrow_added [] (x ∷ labels) count all = absurd (omega arith)
  arrow_added (e ∷ ends) [] count all = absurd (omega arith)
  arrow_added (e ∷ ends) (x ∷ labels) count all = at (same_ends it e) all (arrow_added ends labels (omega (arith, count)))
    where
      at : (b : Bool) → length (x ∷ labels) ≤ cond (not b) (1 + place ends) 0 →
          (length labels ≤ place ends → AreJoined ends labels source target text (insert_key same_ends ends it) (labels ++ text ∷ [])) →
          AreArrows (cond b (record { source = e.0; target = e.1; label = with_line x } ∷ arrows_in ends labels) (record { source = e.0; target = e.1; label = x } ∷ joined (arrows_in ends labels) new))
          (if b || list_any (same_ends it) ends then e ∷ ends else (e ∷ ends) ++ it ∷ []) (x ∷ (labels ++ text ∷ []))
      at true l rest = absurd (omega (arith, l))
      at false l rest = behind (list_any (same_ends it) ends) e x ends (labels ++ text ∷ []) (joined (arrows_in ends labels) new) (rest (omega (arith, l)))

  module _ (ends later : Ends) (labels : Labels) (at : ℕ) (count : length labels ≡ length ends) (grown : later ≡ insert_key same_ends ends it) (is : at ≡ place ends) where
    pub joined_by_line : (more : Labels) → at < length labels → more ≡ set labels at (with_line (get_or labels at [])) → AreJoined ends labels source target text later more
    joined_by_line more less e = subst (λ (ks : Ends). AreJoined ends labels source target text ks more) (sym grown)
        (subst (λ (ls : Labels). AreJoined ends labels source target text (insert_key same_ends ends it) ls) (sym (e ∙ ap (λ (k : ℕ). set labels k (with_line (get_or labels k []))) is))
        (line_added ends labels count (subst (λ (k : ℕ). k < length labels) is less)))

    pub joined_by_arrow : (more : Labels) → length labels ≤ at → more ≡ labels ++ text ∷ [] → AreJoined ends labels source target text later more
    joined_by_arrow more all e = subst (λ (ks : Ends). AreJoined ends labels source target text ks more) (sym grown)
        (subst (λ (ls : Labels). AreJoined ends labels source target text (insert_key same_ends ends it) ls) (sym e)
        (arrow_added ends labels count (subst (λ (k : ℕ). length labels ≤ k) is all)))

-- ---- the arrow of a number

pub arrows_count : (ends : Ends) (labels : Labels) → length labels ≡ length ends → length (arrows_in ends labels) ≡ length labels
arrows_count [] [] count = refl
arrows_count [] (x ∷ labels) count = absurd (omega arith)
arrows_count (e ∷ ends) [] count = refl
arrows_count (e ∷ ends) (x ∷ labels) count = ap suc (arrows_count ends labels (omega (arith, count)))

pub arrow_at : (ends : Ends) (labels : Labels) (at : ℕ) → length labels ≡ length ends → at < length labels →
    get_or (arrows_in ends labels) at no_arrow ≡ record { source = (get_or ends at (0, 0)).0; target = (get_or ends at (0, 0)).1; label = get_or labels at [] }
arrow_at [] [] at count less = absurd (omega arith)
arrow_at [] (x ∷ labels) at count less = absurd (omega arith)
arrow_at (e ∷ ends) [] at count less = absurd (omega arith)
arrow_at (e ∷ ends) (x ∷ labels) zero count less = refl
arrow_at (e ∷ ends) (x ∷ labels) (suc at) count less = arrow_at ends labels at (omega (arith, count)) (omega (arith, less))

-- ---- the arrows of a look

pub none_yet : (ends : Ends) (labels : Labels) → ends ≡ [] → labels ≡ [] → AreArrows [] ends labels
none_yet ends labels e l = subst (λ (ks : Ends). AreArrows [] ks labels) (sym e) (subst (λ (ls : Labels). AreArrows [] [] ls) (sym l) (record { count = refl; are = refl }))

-- a transition that looks otherwise
pub not_added : (b : Bool) (ends : Ends) (labels : Labels) (arrows : List Arrow) → b ≡ false → length labels ≡ length ends → AreArrows (cond b arrows (arrows_in ends labels)) ends labels
not_added b ends labels arrows e count = subst (λ (x : Bool). AreArrows (cond x arrows (arrows_in ends labels)) ends labels) (sym e) (record { count = count; are = refl })

-- one that looks so
pub added : (b : Bool) (ends later : Ends) (labels more : Labels) (source target : ℕ) (text label : List ℕ) → b ≡ true → text ≡ label → AreJoined ends labels source target text later more →
    AreArrows (cond b (joined (arrows_in ends labels) (record { source = source; target = target; label = label })) (arrows_in ends labels)) later more
added b ends later labels more source target text label e same is =
    subst (λ (x : Bool). AreArrows (cond x (joined (arrows_in ends labels) (record { source = source; target = target; label = label })) (arrows_in ends labels)) later more) (sym e)
    (subst (λ (l : List ℕ). AreJoined ends labels source target l later more) same is)

module _ (names : List (List ℕ)) (known : List Tri) (system : NamedSystem) (marks : List Bool) (look : Look) where
  pub next_arrows : (at : ℕ) (ends later : Ends) (labels more : Labels) (t : Transition) (is_marked : Bool) → t ≡ get_or system.transitions at no_transition → is_marked ≡ get_or marks at false →
      AreArrows (arrows_below names known system marks look at) ends labels → AreArrows (with_transition names known system look (arrows_in ends labels) t is_marked) later more →
      AreArrows (arrows_below names known system marks look (at + 1)) later more
  next_arrows at ends later labels more t is_marked et em before after = rw (add-one) (record {
    count = after.count;
    are = after.are ∙ (ap (λ (arrows : List Arrow). with_transition names known system look arrows t is_marked) before.are
        ∙ (ap (λ (u : Transition). with_transition names known system look (arrows_below names known system marks look at) u is_marked) et
        ∙ ap (λ (b : Bool). with_transition names known system look (arrows_below names known system marks look at) (get_or system.transitions at no_transition) b) em));
  })
