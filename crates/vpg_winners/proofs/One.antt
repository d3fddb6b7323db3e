-- The parts are one list, where none is unsettled.
use Rattle.std.proofs.Common.{◌≡◌, ◌≢◌, ℕ, zero, suc, ◌<◌, ◌⊎◌, inl, inr, Bool, true, false, List, [], ◌∷◌, ◌++◌, length, map, get_or, refl, sym, ap, ◌∙◌, subst, arith}
use Rattle.std.specs.List.{remove}
use Rattle.std.proofs.lemmas.Bool.{cases_order}
use Rattle.vpg_sides.specs.declared.player.Player.TheVariants.{Even, Odd}
use Rattle.vpg_guards.specs.Formula.{Formula, truth}
use Rattle.vpg_diagram.specs.FeatureDiagram.{Line, feature_count}
use Rattle.vpg_diagram.specs.declared.clause.Literal.{Literal}
use Rattle.vpg_diagram.proofs.Lists.{All-front, All-back}
use Rattle.vpg_game.specs.Guarded.{GuardedGame}
use Rattle.vpg_hope.specs.Hope.{product_game}
use Rattle.vpg_hope.proofs.Both.{not_both}
use Rattle.vpg_why.specs.Suffices.{choice}
use Rattle.vpg_winners.specs.declared.parts.Winner.{Winner}
use Rattle.vpg_winners.specs.declared.parts.Winner.TheVariants.{Won, Lost, Unsettled}
use Rattle.vpg_winners.specs.Decided.{WinsProduct}
use Rattle.vpg_winners.specs.Joined.{PartView, CanJoin, DiffersAt, IsFirstMate, IsPut, alone, joined, ArePut, done, next, AreHalves, cut_by, whole_of, without_literal}
use Rattle.vpg_winners.specs.Winners.{AreSettled, AreSplit, AreSplitFrom, none, whole, split, AreWonFrom, BeginsWith, HasBeginning, IsWonAs, NoneBegins}
use Rattle.vpg_winners.proofs.Differing.{one_place}
use Rattle.vpg_winners.proofs.Fronts.{begins_either, begins_less}

-- ---- parts that are put to others make one list

module _ (parts : List PartView) (part : PartView) where
  alone_one : {other : List PartView} → ((k : ℕ) (d : PartView) → k < length parts → CanJoin (get_or parts k d) part → ⊥) →
      IsPut parts part other → parts ++ part ∷ [] ≡ other
  alone_one lonely (alone also) = refl
  alone_one lonely (joined place literal first then) =
      absurd (lonely place part first.within (literal, first.joins part))

  module _ (place literal : ℕ) (first : IsFirstMate parts part place literal) (new : List PartView)
      (same : (other : List PartView) → IsPut (remove parts place) (without_literal part literal) other → new ≡ other) where
    first_place : (p l : ℕ) → IsFirstMate parts part p l → p ≡ place
    first_place p l other = of (cases_order p place)
      where
        of : (p ≡ place) ⊎ ((p < place) ⊎ (place < p)) → p ≡ place
        of (inl e) = e
        of (inr (inl k)) = absurd (first.before p part k (l, other.joins part))
        of (inr (inr k)) = absurd (other.before place part k (literal, first.joins part))

    first_literal : (p l : ℕ) → IsFirstMate parts part p l → p ≡ place → l ≡ literal
    first_literal p l other e = one_place (get_or parts place part).literals part.literals l literal
        (subst (λ n. DiffersAt (get_or parts n part).literals part.literals l) e (other.joins part).literals)
        (first.joins part).literals

    joined_one : {other : List PartView} → IsPut parts part other → new ≡ other
    joined_one (alone lonely) = absurd (lonely place part first.within (literal, first.joins part))
    joined_one (joined {new = other} p l also then) = same other
        (subst (λ n. IsPut (remove parts place) (without_literal part n) other)
        (first_literal p l also (first_place p l also))
        (subst (λ n. IsPut (remove parts n) (without_literal part l) other) (first_place p l also) then))

put_one : {parts new : List PartView} {part : PartView} → IsPut parts part new → (other : List PartView) →
    IsPut parts part other → new ≡ other
put_one (alone {parts} {part} lonely) other put = alone_one parts part lonely put
put_one (joined {parts} {new} {part} place literal first then) other put =
    joined_one parts part place literal first new (put_one then) put

next_one : (parts rest middle new : List PartView) (part : PartView) → IsPut parts part middle →
    ((other : List PartView) → ArePut middle rest other → new ≡ other) → {other : List PartView} →
    ArePut parts (part ∷ rest) other → new ≡ other
next_one parts rest middle new part first same (next {middle = also} {new = other} put more) =
    same other (subst (λ (ps : List PartView). ArePut ps rest other) (sym (put_one first also put)) more)

all_put_one : {parts added new : List PartView} → ArePut parts added new → (other : List PartView) →
    ArePut parts added other → new ≡ other
all_put_one (done {parts}) other put = at put
  where
    at : {other : List PartView} → ArePut parts [] other → parts ≡ other
    at done = refl
all_put_one (next {parts} {middle} {new} {part} {rest} first more) other put =
    next_one parts rest middle new part first (all_put_one more) put

pub halves_one : (f : ℕ) (with_it without one other : List PartView) → AreHalves f with_it without one →
    AreHalves f with_it without other → one ≡ other
halves_one f [] without one other a b = a ∙ sym b
halves_one f (p ∷ ps) [] one other a b = a ∙ sym b
halves_one f (p ∷ ps) (q ∷ qs) one other a b = all_put_one a other b

-- ---- where no part is unsettled, none was before

abbrev IsTold : PartView → Type 0
IsTold part = part.winner ≢ Unsettled

put_back : (parts : List PartView) (place : ℕ) → place < length parts → AreSettled (remove parts place) →
    ((d : PartView) → IsTold (get_or parts place d)) → AreSettled parts
put_back [] place less are told = tt
put_back (p ∷ ps) zero less are told = (told p, are)
put_back (p ∷ ps) (suc n) less are told = (are.0, put_back ps n (omega (arith, less)) are.1 told)

told_before : {parts new : List PartView} {part : PartView} → IsPut parts part new → AreSettled new →
    AreSettled parts × IsTold part
told_before (alone {parts} {part} lonely) are =
    (All-front IsTold parts (part ∷ []) are, (All-back IsTold parts (part ∷ []) are).0)
told_before (joined {parts} {new} {part} place literal first then) are =
    let before = told_before then are in (
      put_back parts place first.within before.0
          (λ d. subst (λ (w : Winner). w ≢ Unsettled) (sym (first.joins d).winner) before.1),
      before.1,
    )

all_told_before : {parts added new : List PartView} → ArePut parts added new → AreSettled new →
    AreSettled parts × AreSettled added
all_told_before done are = (are, tt)
all_told_before (next {parts} {middle} {new} {part} {rest} put more) are =
    let later = all_told_before more are in
    let before = told_before put later.0 in (before.0, (before.1, later.1))

uncut : (l : Literal) (parts : List PartView) → AreSettled (map (cut_by l) parts) → AreSettled parts
uncut l [] are = tt
uncut l (p ∷ ps) are = (are.0, uncut l ps are.1)

pub settled_before : (f : ℕ) (with_it without parts : List PartView) → AreHalves f with_it without parts →
    AreSettled parts → AreSettled with_it × AreSettled without
settled_before f [] without parts e are = (tt, subst (λ (ps : List PartView). AreSettled ps) e are)
settled_before f (p ∷ ps) [] parts e are = (subst (λ (xs : List PartView). AreSettled xs) e are, tt)
settled_before f (p ∷ ps) (q ∷ qs) parts put are = let before = all_told_before put are in
    (uncut (choice f true) (p ∷ ps) before.0, uncut (choice f false) (q ∷ qs) before.1)

-- ---- what a list of settled parts says of the products

-- two halves that are one part each, of one winner
two_wholes : (f : ℕ) (winner : Winner) (parts : List PartView) →
    AreHalves f (whole_of winner ∷ []) (whole_of winner ∷ []) parts → parts ≡ whole_of winner ∷ []
two_wholes f winner parts put = sym (all_put_one (next (joined 0 0 first (alone nobody)) done) parts put)
  where
    first : IsFirstMate (cut_by (choice f true) (whole_of winner) ∷ []) (cut_by (choice f false) (whole_of winner)) 0 0
    first = record {
      within = omega arith;
      joins = λ d. record {
        winner = refl;
        literals = record {
          front = [];
          literal = choice f true;
          back = [];
          one_is = refl;
          other_is = refl;
          place_is = refl;
        };
      };
      before = λ k d less. absurd (omega (arith, less));
    }

    nobody : (k : ℕ) (d : PartView) → k < 0 → CanJoin (get_or [] k d) (whole_of winner) → ⊥
    nobody k d less = absurd (omega (arith, less))

module _ (game : GuardedGame Formula) (lines : List Line) (vertex : ℕ) (choices : List Literal) where
  -- none begins so; or one player wins all that do, and there is the one part; or each player wins some
  data Says (front : List Bool) (parts : List PartView) : Type 0 where
    nothing : NoneBegins lines choices front → parts ≡ [] → Says front parts
    alike : (winner : Winner) → winner ≢ Unsettled → HasBeginning lines choices front →
        AreWonFrom game lines choices vertex front winner → parts ≡ whole_of winner ∷ [] → Says front parts
    mixed : (won lost : List Bool) → BeginsWith lines choices front won → BeginsWith lines choices front lost →
        WinsProduct game Even vertex won → WinsProduct game Odd vertex lost → Says front parts

  not_both_players : (set : List Bool) → WinsProduct game Even vertex set → WinsProduct game Odd vertex set → ⊥
  not_both_players set s t = not_both (product_game (truth set) game) s.0 t.0 vertex s.1 t.1

  module _ (front : List Bool) (less : length front < feature_count lines) where
    abbrev ins : List Bool
    ins = front ++ true ∷ []

    abbrev outs : List Bool
    outs = front ++ false ∷ []

    -- what is so in both halves is so in all
    in_both : (Q : List Bool → Type 0) → ((set : List Bool) → BeginsWith lines choices ins set → Q set) →
        ((set : List Bool) → BeginsWith lines choices outs set → Q set) → (set : List Bool) →
        BeginsWith lines choices front set → Q set
    in_both Q a b = begins_either lines choices front Q less a b

    from_ins : (set : List Bool) → BeginsWith lines choices ins set → BeginsWith lines choices front set
    from_ins set begins = begins_less lines choices front true set begins

    from_outs : (set : List Bool) → BeginsWith lines choices outs set → BeginsWith lines choices front set
    from_outs set begins = begins_less lines choices front false set begins

    two_say : (w u : Winner) (parts : List PartView) → w ≢ Unsettled → u ≢ Unsettled → HasBeginning lines choices ins →
        HasBeginning lines choices outs → AreWonFrom game lines choices vertex ins w →
        AreWonFrom game lines choices vertex outs u →
        AreHalves (length front) (whole_of w ∷ []) (whole_of u ∷ []) parts → Says front parts
    two_say Won Won parts told also a b p q halves = alike Won told (a.0, from_ins a.0 a.1)
        (in_both (λ set. IsWonAs game Won vertex set) p q) (two_wholes (length front) Won parts halves)
    two_say Lost Lost parts told also a b p q halves = alike Lost told (a.0, from_ins a.0 a.1)
        (in_both (λ set. IsWonAs game Lost vertex set) p q) (two_wholes (length front) Lost parts halves)
    two_say Won Lost parts told also a b p q halves =
        mixed a.0 b.0 (from_ins a.0 a.1) (from_outs b.0 b.1) (p a.0 a.1) (q b.0 b.1)
    two_say Lost Won parts told also a b p q halves =
        mixed b.0 a.0 (from_outs b.0 b.1) (from_ins a.0 a.1) (q b.0 b.1) (p a.0 a.1)
    two_say Unsettled u parts told also a b p q halves = absurd (told refl)
    two_say w Unsettled parts told also a b p q halves = absurd (also refl)

    half_of : (with_it without xs ys parts : List PartView) → with_it ≡ xs → without ≡ ys →
        AreHalves (length front) with_it without parts → AreHalves (length front) xs ys parts
    half_of with_it without xs ys parts e g halves =
        subst (λ (vs : List PartView). AreHalves (length front) xs vs parts) g
        (subst (λ (vs : List PartView). AreHalves (length front) vs without parts) e halves)

    both_say : (with_it without parts : List PartView) → Says ins with_it → Says outs without →
        AreHalves (length front) with_it without parts → Says front parts
    both_say with_it without parts (nothing a e) (nothing b g) halves =
        nothing (in_both (λ set. ⊥) a b) (half_of with_it without [] [] parts e g halves)
    both_say with_it without parts (nothing a e) (alike w told there won g) halves =
        alike w told (there.0, from_outs there.0 there.1)
        (in_both (λ set. IsWonAs game w vertex set) (λ set begins. absurd (a set begins)) won)
        (half_of with_it without [] (whole_of w ∷ []) parts e g halves)
    both_say with_it without parts (alike w told there won g) (nothing b e) halves =
        alike w told (there.0, from_ins there.0 there.1)
        (in_both (λ set. IsWonAs game w vertex set) won (λ set begins. absurd (b set begins)))
        (half_of with_it without (whole_of w ∷ []) [] parts g e halves)
    both_say with_it without parts (alike w told a p g) (alike u also b q e) halves =
        two_say w u parts told also a b p q
        (half_of with_it without (whole_of w ∷ []) (whole_of u ∷ []) parts g e halves)
    both_say with_it without parts (mixed s t r u p q) other halves = mixed s t (from_ins s r) (from_ins t u) p q
    both_say with_it without parts one (mixed s t r u p q) halves = mixed s t (from_outs s r) (from_outs t u) p q

  says : {front : List Bool} {parts : List PartView} → AreSplitFrom game lines vertex choices front parts →
      AreSettled parts → Says front parts
  says (none lost) are = nothing lost refl
  says (whole {front} {winner} there won) are = alike winner are.0 (there are.0) won refl
  says (split {front} {with_it} {without} {parts} less fresh one other halves) are =
      let before = settled_before (length front) with_it without parts halves are in
      both_say front less with_it without parts (says one before.0) (says other before.1) halves

  -- ---- two lists by the rule

  one_winner : (w u : Winner) (set : List Bool) → w ≢ Unsettled → u ≢ Unsettled → IsWonAs game w vertex set →
      IsWonAs game u vertex set → w ≡ u
  one_winner Won Won set told also a b = refl
  one_winner Lost Lost set told also a b = refl
  one_winner Won Lost set told also a b = absurd (not_both_players set a b)
  one_winner Lost Won set told also a b = absurd (not_both_players set b a)
  one_winner Unsettled u set told also a b = absurd (told refl)
  one_winner w Unsettled set told also a b = absurd (also refl)

  not_mixed : (w : Winner) (won lost : List Bool) → w ≢ Unsettled → IsWonAs game w vertex won →
      IsWonAs game w vertex lost → WinsProduct game Even vertex won → WinsProduct game Odd vertex lost → ⊥
  not_mixed Won won lost told a b p q = not_both_players lost b q
  not_mixed Lost won lost told a b p q = not_both_players won p a
  not_mixed Unsettled won lost told a b p q = told refl

  none_one : (front : List Bool) (other : List PartView) → NoneBegins lines choices front → Says front other →
      [] ≡ other
  none_one front other lost (nothing n e) = sym e
  none_one front other lost (alike w told there won e) = absurd (lost there.0 there.1)
  none_one front other lost (mixed s t r u p q) = absurd (lost s r)

  whole_one : (front : List Bool) (other : List PartView) (w : Winner) → w ≢ Unsettled →
      HasBeginning lines choices front → AreWonFrom game lines choices vertex front w → Says front other →
      whole_of w ∷ [] ≡ other
  whole_one front other w told there won (nothing n e) = absurd (n there.0 there.1)
  whole_one front other w told there won (alike u also some wins e) =
      ap (λ (x : Winner). whole_of x ∷ [])
      (one_winner w u there.0 told also (won there.0 there.1) (wins there.0 there.1)) ∙ sym e
  whole_one front other w told there won (mixed s t r u p q) = absurd (not_mixed w s t told (won s r) (won t u) p q)

  abbrev IsOne : List Bool → List PartView → Type 0
  IsOne front parts = (other : List PartView) → AreSplitFrom game lines vertex choices front other → AreSettled other →
      parts ≡ other

  -- both are split on the same feature
  split_one : (front : List Bool) (with_it without parts : List PartView) → IsOne (front ++ true ∷ []) with_it →
      IsOne (front ++ false ∷ []) without → AreHalves (length front) with_it without parts → Says front parts →
      {other : List PartView} → AreSplitFrom game lines vertex choices front other → AreSettled other → parts ≡ other
  split_one front with_it without parts a b halves told (none lost) are = sym (none_one front parts lost told)
  split_one front with_it without parts a b halves told (whole {winner} there won) are =
      sym (whole_one front parts winner are.0 (there are.0) won told)
  split_one front with_it without parts a b halves told
      (split {with_it = ins} {without = outs} {parts = other} less fresh one two also) are =
      let before = settled_before (length front) ins outs other also are in
      halves_one (length front) with_it without parts other halves
      (subst (λ (vs : List PartView). AreHalves (length front) with_it vs other) (sym (b outs two before.1))
      (subst (λ (vs : List PartView). AreHalves (length front) vs outs other) (sym (a ins one before.0)) also))

  one_from : {front : List Bool} {parts : List PartView} → AreSplitFrom game lines vertex choices front parts →
      AreSettled parts → IsOne front parts
  one_from (none {front} lost) are other also settled = none_one front other lost (says also settled)
  one_from (whole {front} {winner} there won) are other also settled =
      whole_one front other winner are.0 (there are.0) won (says also settled)
  one_from (split {front} {with_it} {without} {parts} less fresh one two halves) are other also settled =
      let before = settled_before (length front) with_it without parts halves are in
      split_one front with_it without parts (one_from one before.0) (one_from two before.1) halves
      (both_say front less with_it without parts (says one before.0) (says two before.1) halves) also settled

module _ (game : GuardedGame Formula) (lines : List Line) (vertex : ℕ) where
  pub winners_one : {choices : List Literal} {parts : List PartView} → AreSplit game lines vertex choices parts →
      AreSettled parts → (other : List PartView) → AreSplit game lines vertex choices other → AreSettled other →
      parts ≡ other
  winners_one {choices} made are other also settled = one_from game lines vertex choices made are other also settled
