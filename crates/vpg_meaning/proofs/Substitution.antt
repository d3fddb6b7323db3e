-- Formulas keep their meaning where they are put into others, and stay positive there.
use Rattle.std.proofs.Common.{◌≡◌, ℕ, zero, suc, ◌<◌, ◌≤◌, ◌↔◌, Bool, true, false, not, List, [], ◌∷◌, ◌++◌, length, get_or, refl, sym, ◌∙◌, ap, arith}
use Rattle.vpg_requirement.specs.Systems.{PlainSystem}
use Rattle.vpg_requirement.specs.Fixpoints.{StateSet, nothing, set_of}
use Rattle.vpg_requirement.specs.Formulas.{Formula, everywhere, nowhere, negation, conjunction, disjunction, implication, diamond, box, binding, bound, Means, IsPositive}
use Rattle.vpg_requirement.specs.Words.{shift}
use Rattle.vpg_requirement.proofs.Worded.{inserted, raised_place, flipped}
use Rattle.vpg_meaning.specs.Laws.{SubstitutionIsSound}
use Rattle.vpg_meaning.proofs.Plain.{iff_refl, iff_and, iff_or, iff_implies, iff_not, fixpoint_iff}

-- a set in another place, where it is the same one
same_set : (A B : StateSet) (s : ℕ) → A ≡ B → (A s ≡ true) ↔ (B s ≡ true)
same_set A B s e = (λ h. sym (ap (λ (S : StateSet). S s) e) ∙ h, λ h. ap (λ (S : StateSet). S s) e ∙ h)

diamond_iff : (P Q : ℕ → Type 0) (In : ℕ → Type 0) → ((t : ℕ) → P t ↔ Q t) → ((t : ℕ) × In t × P t) ↔ ((t : ℕ) × In t × Q t)
diamond_iff P Q In h = (λ p. (p.0, p.1, (h p.0).0 p.2), λ p. (p.0, p.1, (h p.0).1 p.2))

box_iff : (P Q : ℕ → Type 0) (In : ℕ → Type 0) → ((t : ℕ) → P t ↔ Q t) → ((t : ℕ) → In t → P t) ↔ ((t : ℕ) → In t → Q t)
box_iff P Q In h = (λ f t c. (h t).0 (f t c), λ f t c. (h t).1 (f t c))

module _ (system : PlainSystem) where
  pub shifted_means : (f : Formula) (k : ℕ) (set : StateSet) (sets : List StateSet) → k ≤ length sets → (s : ℕ) → Means system (inserted k set sets) (shift k f) s ↔ Means system sets f s
  shifted_means everywhere k set sets l s = iff_refl
  shifted_means nowhere k set sets l s = iff_refl
  shifted_means (negation f) k set sets l s = iff_not (shifted_means f k set sets l s)
  shifted_means (conjunction f g) k set sets l s = iff_and (shifted_means f k set sets l s) (shifted_means g k set sets l s)
  shifted_means (disjunction f g) k set sets l s = iff_or (shifted_means f k set sets l s) (shifted_means g k set sets l s)
  shifted_means (implication f g) k set sets l s = iff_implies (shifted_means f k set sets l s) (shifted_means g k set sets l s)
  shifted_means (diamond x f) k set sets l s = diamond_iff (Means system (inserted k set sets) (shift k f)) (Means system sets f) _ (shifted_means f k set sets l)
  shifted_means (box x f) k set sets l s = box_iff (Means system (inserted k set sets) (shift k f)) (Means system sets f) _ (shifted_means f k set sets l)
  shifted_means (binding kind f) k set sets l s = fixpoint_iff kind system.states _ _ (λ U t _. shifted_means f (suc k) set (U ∷ sets) (omega arith) t) s
  shifted_means (bound i) k set sets l s = same_set _ _ s (raised_place k i set nothing sets l)

  -- a formula whose variables all have fixpoints among so many means the same where the sets further out are others
  alike_means : (f : Formula) (sign : Bool) (signs : List Bool) (As Bs : List StateSet) → IsPositive signs sign f → ((i : ℕ) → i < length signs → set_of As i ≡ set_of Bs i) → (s : ℕ) → Means system As f s ↔ Means system Bs f s
  alike_means everywhere sign signs As Bs p h s = iff_refl
  alike_means nowhere sign signs As Bs p h s = iff_refl
  alike_means (negation f) sign signs As Bs p h s = iff_not (alike_means f (not sign) signs As Bs p h s)
  alike_means (conjunction f g) sign signs As Bs p h s = iff_and (alike_means f sign signs As Bs p.0 h s) (alike_means g sign signs As Bs p.1 h s)
  alike_means (disjunction f g) sign signs As Bs p h s = iff_or (alike_means f sign signs As Bs p.0 h s) (alike_means g sign signs As Bs p.1 h s)
  alike_means (implication f g) sign signs As Bs p h s = iff_implies (alike_means f (not sign) signs As Bs p.0 h s) (alike_means g sign signs As Bs p.1 h s)
  alike_means (diamond x f) sign signs As Bs p h s = diamond_iff (Means system As f) (Means system Bs f) _ (alike_means f sign signs As Bs p h)
  alike_means (box x f) sign signs As Bs p h s = box_iff (Means system As f) (Means system Bs f) _ (alike_means f sign signs As Bs p h)
  alike_means (binding kind f) sign signs As Bs p h s = fixpoint_iff kind system.states _ _ (λ U t _. alike_means f sign (sign ∷ signs) (U ∷ As) (U ∷ Bs) p (more U) t) s
    where
      more : (U : StateSet) (i : ℕ) → i < suc (length signs) → set_of (U ∷ As) i ≡ set_of (U ∷ Bs) i
      more U zero l = refl
      more U (suc i) l = h i (omega arith)
  alike_means (bound i) sign signs As Bs p h s = same_set _ _ s (h i p.0)

  pub alone_means : (sets : List StateSet) (sign : Bool) (f : Formula) → IsPositive [] sign f → (s : ℕ) → Means system sets f s ↔ Means system [] f s
  alone_means sets sign f p s = alike_means f sign [] sets [] p (λ i l. absurd (omega arith)) s

pub substitution_is_sound : SubstitutionIsSound
substitution_is_sound = record {
  shifted = λ system set sets f s. shifted_means system f 0 set sets (omega arith) s;
  alone = alone_means;
}

-- ---- signs

length_longer : (signs more : List Bool) (i : ℕ) → i < length signs → i < length (signs ++ more)
length_longer [] more i l = absurd (omega arith)
length_longer (b ∷ signs) more zero l = omega arith
length_longer (b ∷ signs) more (suc i) l = next (length_longer signs more i (omega arith))
  where
    next : i < length (signs ++ more) → suc i < suc (length (signs ++ more))
    next h = omega arith

get_longer : (signs more : List Bool) (i : ℕ) → i < length signs → get_or (signs ++ more) i false ≡ get_or signs i false
get_longer [] more i l = absurd (omega arith)
get_longer (b ∷ signs) more zero l = refl
get_longer (b ∷ signs) more (suc i) l = get_longer signs more i (omega arith)

-- further fixpoints may stand around
positive_within : (f : Formula) (sign : Bool) (signs more : List Bool) → IsPositive signs sign f → IsPositive (signs ++ more) sign f
positive_within everywhere sign signs more p = tt
positive_within nowhere sign signs more p = tt
positive_within (negation f) sign signs more p = positive_within f (not sign) signs more p
positive_within (conjunction f g) sign signs more p = (positive_within f sign signs more p.0, positive_within g sign signs more p.1)
positive_within (disjunction f g) sign signs more p = (positive_within f sign signs more p.0, positive_within g sign signs more p.1)
positive_within (implication f g) sign signs more p = (positive_within f (not sign) signs more p.0, positive_within g sign signs more p.1)
positive_within (diamond x f) sign signs more p = positive_within f sign signs more p
positive_within (box x f) sign signs more p = positive_within f sign signs more p
positive_within (binding kind f) sign signs more p = positive_within f sign (sign ∷ signs) more p
positive_within (bound i) sign signs more p = (length_longer signs more i p.0, get_longer signs more i p.0 ∙ p.1)

-- a formula that stands alone may stand anywhere, under either sign
pub positive_alone : (f : Formula) (sign : Bool) (signs : List Bool) → IsPositive [] false f → IsPositive signs sign f
positive_alone f false signs p = positive_within f false [] signs p
positive_alone f true signs p = positive_within f true [] signs (flipped f false [] p)
