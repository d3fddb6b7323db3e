-- Samples of the products that are left.
use Rattle.std.proofs.Common.{◌≡◌, ℕ, ◌+◌, ◌&&◌, Bool, true, false, not, List, [], ◌∷◌, ◌++◌, length, slice_index_or, refl, sym, ap, ◌∙◌, subst, length-append}
use Rattle.std.specs.Prelude.{Some, All, Contains, IsTrue, ◌↔◌, nat_eq}
use Rattle.std.specs.Global.{Vec}
use Rattle.std.specs.List.{AllByRecursion, list_any}
use Rattle.std.proofs.lemmas.Bool.{and_parts, eqb-false}
use Rattle.std.proofs.lemmas.List.Elements.{All-contains, All-from_recursion, All-map, All-pop, All-weaker}
use Rattle.vpg_sides.specs.declared.player.Player.TheVariants.{Even, Odd}
use Rattle.vpg_sides.specs.declared.which.Which.TheVariants.{Hopeful, Dual}
use Rattle.vpg_guards.specs.declared.tri.Tri.{Tri}
use Rattle.vpg_guards.specs.declared.tri.Tri.TheVariants.{Unknown}
use Rattle.vpg_diagram.specs.Clauses.{is_true_in}
use Rattle.vpg_diagram.specs.DiagramText.{NamedDiagram, IsNamedDiagram}
use Rattle.vpg_diagram.specs.FeatureDiagram.{feature_count}
use Rattle.vpg_diagram.specs.declared.clause.Literal.{Literal}
use Rattle.vpg_diagram.proofs.Lists.{All-append, Contains-nil}
use Rattle.vpg_game.specs.Game.{NamedGame, graph_of}
use Rattle.vpg_measure.specs.Orders.{OrderView}
use Rattle.vpg_partial.specs.KnownLaws.{IsRemaining}
use Rattle.vpg_partial.specs.TableLaws.{AreChoicesOf, IsKnownTable}
use Rattle.vpg_sets.specs.declared.node.Set.{Set}
use Rattle.vpg_sets.specs.Firsts.{IsFirstOf}
use Rattle.vpg_sets.specs.Sets.{Arena, IsGrown, IsInside, IsSetOf, has}
use Rattle.vpg_sets.specs.Sizes.{AreAllOf}
use Rattle.vpg_why.specs.Explained.{choices}
use Rattle.vpg_why.specs.Found.{AllMeet, IsFoundProduct}
use Rattle.vpg_why.specs.Foreseen.{AreFindings}
use Rattle.vpg_why.specs.Products.{Meets}
use Rattle.vpg_why.specs.Suffices.{choice}
use Rattle.vpg_why.specs.declared.foreseeing.Findings.{Findings}
use Rattle.vpg_why.specs.declared.question.Aim.{Aim}
use Rattle.vpg_why.specs.declared.question.Aim.TheVariants as aims
use Rattle.vpg_why.specs.declared.searching.Example.{Example}
use Rattle.vpg_why.proofs.Ahead.{found_with}
use Rattle.vpg_winners.specs.Divided.{AreDivided}
use Rattle.vpg_winners.specs.Gathering.{some}
use Rattle.vpg_winners.specs.OpenParts.{IsPartOf}
use Rattle.vpg_winners.specs.Sampled.{AreFound, IsFirstLeft, IsSetOfSome}
use Rattle.vpg_winners.proofs.Learned.{AreForcedTo, next_open}
use Rattle.vpg_zielonka.specs.Winners.{lists_of}
use Rattle.vpg_zielonka.specs.declared.winners.Division.{Division}

-- one more at the end of a list
pub one_more : {X : Type 0} (P : X → Type 0) (xs more : List X) (x : X) → more ≡ xs ++ x ∷ [] → AllByRecursion P xs →
    P x → AllByRecursion P more
one_more P xs more x e all here = subst (AllByRecursion P) (sym e) (All-append P xs (x ∷ []) all (here, tt))

pub longer : {X : Type 0} (xs more : List X) (x : X) (n : ℕ) → more ≡ xs ++ x ∷ [] → length xs ≡ n → length more ≡ n + 1
longer {X = X} xs more x n e long = ap length e ∙ (length-append xs (x ∷ []) ∙ ap (λ (k : ℕ). k + 1) long)

pub without_last : {X : Type 0} (P : X → Type 0) (xs left : List X) (x : X) → xs ≡ left ++ x ∷ [] → All P xs →
    All P left × P x
without_last {X = X} P xs left x e all = All-pop P xs left (Some x) e all

pub not_empty : {X : Type 0} (xs : List X) (n : ℕ) (b : Bool) → n ≡ length xs → b ≡ nat_eq n 0 → b ≡ false → xs ≡ [] → ⊥
not_empty {X = X} xs n b l e f bare = eqb-false n 0 (sym e ∙ f) (l ∙ ap length bare)

-- ---- products that are listed

of_each : (P : List Bool → Type 0) (list : List (Vec Bool)) → AllByRecursion P (lists_of list) →
    AllByRecursion (λ (p : Vec Bool). P p.items) list
of_each P [] all = tt
of_each P (p ∷ list) (one, all) = (one, of_each P list all)

pub all_listed : (test : List Bool → Bool) (n : ℕ) (list : List (Vec Bool)) → AreAllOf test n (lists_of list) →
    All (λ p. (length p.items ≡ n) × (test p.items ≡ true)) list
all_listed test n list are =
    All-from_recursion (λ (p : Vec Bool). (length p.items ≡ n) × (test p.items ≡ true)) list
    (of_each (λ p. (length p ≡ n) × (test p ≡ true)) list are.each)

-- those of two sets are those of the second one
module _ (old mid new : Arena) (set drawn own : Set) (inside : IsInside old set) (grown : IsGrown old mid)
    (both : IsSetOf new (λ p. has mid drawn p && has mid set p) own) where
  in_set : (p : List Bool) → has new own p ≡ true → has old set p ≡ true
  in_set p h =
      let parts = and_parts (has mid drawn p) (has mid set p) (sym (both.each p) ∙ h) in
      sym (grown.same set inside p) ∙ parts.1

  pub own_listed : (n m : ℕ) → n ≡ m → (list : List (Vec Bool)) →
      All (λ p. (length p.items ≡ n) × (has new own p.items ≡ true)) list →
      All (λ p. (length p.items ≡ m) × (has old set p.items ≡ true)) list
  own_listed n m e list all =
      All-weaker (λ (p : Vec Bool). (length p.items ≡ n) × (has new own p.items ≡ true))
      (λ (p : Vec Bool). (length p.items ≡ m) × (has old set p.items ≡ true))
      (λ p both. (both.0 ∙ e, in_set p.items both.1)) list all

-- ---- products that are left

pub all_left : (IsLeft : List Bool → Type 0) (test : List Bool → Bool) (n : ℕ) (list : List (Vec Bool)) →
    All (λ p. (length p.items ≡ n) × (test p.items ≡ true)) list →
    ((p : List Bool) → length p ≡ n → (IsTrue (test p) ↔ IsLeft p)) → (p : List Bool) → Contains (lists_of list) p →
    IsLeft p
all_left IsLeft test n list all left p is =
    let both = All-contains (λ q. (length q ≡ n) × (test q ≡ true)) (lists_of list) p
    (All-map (λ q. (length q ≡ n) × (test q ≡ true)) (λ (q : Vec Bool). q.items) list all) is in
    (left p both.0).0 both.1

pub is_first_left : (diagram : NamedDiagram) (own : List Literal) (arena : Arena) (set : Set) (first : List Bool) →
    feature_count diagram.lines ≡ arena.features →
    ((p : List Bool) → length p ≡ arena.features → (IsTrue (has arena set p) ↔ IsRemaining diagram.lines own p)) →
    IsFirstOf arena set first → IsFirstLeft diagram own first
is_first_left diagram own arena set first count left is other r before =
    let long = r.product.length_is ∙ count in
    is.first other long ((left other long).1 r)
    (record { feature = before.feature; has_it = before.has; lacks = before.lacks; same = before.same })

module _ (order : OrderView) (vertex : ℕ) (part : NamedGame) (place : ℕ) (is : IsPartOf order vertex part place)
    (arena : Arena) (two : Division) (products : List (List Bool))
    (count : feature_count order.diagram.lines ≡ arena.features)
    (left : (p : List Bool) → Contains products p → IsRemaining order.diagram.lines (choices order.decisions) p)
    (divided : AreDivided (graph_of part) place (Contains products) arena two) where
  pub won_some : IsSetOfSome order.game order.diagram (aims.Won Hopeful vertex) (choices order.decisions) arena two.won
  won_some = record {
    features = count;
    each = λ p long h. let won = divided.won p long h in let r = left p won.0 in (r, (is.wins p r Even).0 won.1);
  }

  pub lost_some : IsSetOfSome order.game order.diagram (aims.Won Dual vertex) (choices order.decisions) arena two.lost
  lost_some = record {
    features = count;
    each = λ p long h. let lost = divided.lost p long h in let r = left p lost.0 in (r, (is.wins p r Odd).0 lost.1);
  }

-- ---- products that are found

module _ (game : NamedGame) (diagram : NamedDiagram) (aim : Aim) (own : List Literal) where
  module _ (arena : Arena) (set : Set) (each : IsSetOfSome game diagram aim own arena set) (p : List Bool)
      (long : length p ≡ arena.features) (h : has arena set p ≡ true) where
    pub any_found : IsFoundProduct game diagram aim own p false
    any_found =
        let both = each.each p long h in
        record { remaining = both.0; meets = both.1; is_first = λ shown. absurd (cc shown) }

    pub first_found : IsFirstLeft diagram own p → IsFoundProduct game diagram aim own p true
    first_found first =
        let both = each.each p long h in
        record { remaining = both.0; meets = both.1; is_first = λ shown other r before m. first other r before }

  pub found_meet : (found : List Example) → AreFound game diagram aim own found → AllMeet game diagram aim own found
  found_meet [] are = tt
  found_meet (e ∷ found) (one, are) = ((one.remaining, one.meets), found_meet found are)

  pub some_found : (found : List Example) → (found ≡ [] → ⊥) → AreFound game diagram aim own found →
      (p : List Bool) × IsRemaining diagram.lines own p × Meets game aim p
  some_found [] not are = absurd (not refl)
  some_found (e ∷ found) not are = (e.features.items, are.0.remaining, are.0.meets)

  -- they make findings
  pub findings_found : (findings : Findings) (found : List Example) → findings.met.items ≡ found →
      findings.forced.items ≡ [] → AreFound game diagram aim own found → AreFindings game diagram aim own findings
  findings_found findings found met bare are = record {
    met = subst (AllMeet game diagram aim own) (sym met) (found_meet found are);
    named = subst (AreChoicesOf diagram.lines) (sym bare) tt;
    forced = λ l h. absurd (Contains-nil l (subst (λ (ls : List Literal). Contains ls l) bare h));
  }

  -- a feature in which some of them differ is not forced
  module _ (known : List Tri) (is_diagram : IsNamedDiagram diagram) (table : IsKnownTable diagram.lines own known)
      (p : List Bool) (remaining : IsRemaining diagram.lines own p) (meets : Meets game aim p) (found : List Example)
      (are : AllMeet game diagram aim own found) (feature : ℕ) where
    pub next_differs : slice_index_or known feature Unknown ≡ Unknown →
        list_any (λ e. is_true_in e.features.items (choice feature true)) found ≡ true →
        list_any (λ e. is_true_in e.features.items (choice feature false)) found ≡ true →
        AreForcedTo game diagram aim own [] feature → AreForcedTo game diagram aim own [] (feature + 1)
    next_differs unknown with without to =
        let l = choice feature (not (slice_index_or p feature false)) in
        next_open game diagram aim own p known is_diagram table remaining meets [] [] feature unknown
        (some (found_with game diagram aim own l found are (either (slice_index_or p feature false))) refl) to
      where
        either : (b : Bool) → list_any (λ e. is_true_in e.features.items (choice feature (not b))) found ≡ true
        either true = without
        either false = with
