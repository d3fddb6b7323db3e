-- Pages that agree on their tops, and how calls keep them.
use Rattle.std.proofs.Common.{◌≡◌, ℕ, zero, suc, ◌+◌, ◌-◌, ◌<◌, ◌≤◌, ◌==◌, max, cond, not, Bool, true, false, ◌&&◌, List, [], ◌∷◌, ◌++◌, length, filter, None, Some, refl, sym, ap, ◌∙◌, subst, arith, length-append}
use Rattle.std.proofs.lemmas.List.Filters.{length-filter_both}
use Rattle.vpg_trail.specs.Page.{Which, Entry, Decided, Lifted, same_table, value_at, assumes, before_decision, after_decision, reset, reset_all, kept_after, retracted}
use Rattle.vpg_trail.proofs.PageLemmas.{value_at-append}
use Rattle.vpg_desk.specs.Book.{Family, Book, Kept, Call, Decide, Retract, Reset, Undo, Redo, Keep, Forget, Settled, Reply, Changed, Undone as UndoneIs, Redone as RedoneIs, Answers, IsReply, Refuses, after, next, is_refusal, in_front_of, refuses_undo, refuses_redo, serials_of, undone, undone_to, redone, redone_to}
use Rattle.vpg_office.specs.Story.{call_of, reply_of}
use Rattle.vpg_office.specs.Told.{AgreeOnTops, AreAlike, Leads, NearestAgree, only_appends}
use Rattle.vpg_office.specs.declared.alike.Alike.{Alike}
use Rattle.vpg_office.specs.declared.asked.Answer.{Answer}
use Rattle.vpg_office.specs.declared.asked.Answer.TheVariants.{Changed as ChangedTo, Undone, Redone}
use Rattle.vpg_office.specs.declared.asked.SessionCall.{SessionCall}
use Rattle.vpg_office.specs.declared.asked.SessionCall.TheVariants as ask

-- ---- rows of pages that agree

-- the pages agree with any other page that agrees
nearest_moved : (family : Family) (one other : List Entry) (n : ℕ) (pages : List Kept) → AgreeOnTops family one other → NearestAgree family one n pages → NearestAgree family other n pages
nearest_moved family one other zero pages agree near = tt
nearest_moved family one other (suc n) [] agree near = tt
nearest_moved family one other (suc n) (kept ∷ pages) agree near =
    (λ which v. sym (agree which v) ∙ near.0 which v, nearest_moved family one other n pages agree near.1)

nearest_fewer : (family : Family) (page : List Entry) (m n : ℕ) (pages : List Kept) → m ≤ n → NearestAgree family page n pages → NearestAgree family page m pages
nearest_fewer family page zero n pages less near = tt
nearest_fewer family page (suc m) n [] less near = tt
nearest_fewer family page (suc m) zero (kept ∷ pages) less near = absurd (omega (arith, less))
nearest_fewer family page (suc m) (suc n) (kept ∷ pages) less near = (near.0, nearest_fewer family page m n pages (omega (arith, less)) near.1)

-- a keep and a forget drop pages from the far end
nearest_in_front : (family : Family) (page : List Entry) (s n : ℕ) (pages : List Kept) → NearestAgree family page n pages → NearestAgree family page n (in_front_of s pages)
nearest_in_front family page s zero pages near = tt
nearest_in_front family page s (suc n) [] near = tt
nearest_in_front family page s (suc n) (kept ∷ pages) near = go (kept.serial == s) (nearest_in_front family page s n pages near.1)
  where
    go : (b : Bool) → NearestAgree family page n (in_front_of s pages) → NearestAgree family page (suc n) (cond b [] (kept ∷ in_front_of s pages))
    go true further = tt
    go false further = (near.0, further)

-- the nearest page takes the place of the present one
rest : (family : Family) (page other : List Entry) (m n : ℕ) (kept : Kept) (pages : List Kept) → AgreeOnTops family page other → m ≤ n - 1 → NearestAgree family page n (kept ∷ pages) → NearestAgree family other m pages
rest family page other m zero kept pages agree less near = nearest_fewer family other m 0 pages (omega (arith, less)) tt
rest family page other m (suc n) kept pages agree less near = nearest_fewer family other m n pages (omega (arith, less)) (nearest_moved family page other n pages agree near.1)

-- the present page goes in front of the others
one_more : (family : Family) (page other : List Entry) (m n : ℕ) (kept : Kept) (pages : List Kept) → AgreeOnTops family page other → m ≤ n + 1 → kept.page ≡ page → NearestAgree family page n pages → NearestAgree family other m (kept ∷ pages)
one_more family page other m n kept pages agree less is near =
    nearest_fewer family other m (suc n) (kept ∷ pages) (omega (arith, less))
    (subst (AgreeOnTops family other) (sym is) (λ which v. sym (agree which v)), nearest_moved family page other n pages agree near)

-- ---- the book after each reply

pub record Undoes (old new : Book) : Type 0 where
  pub newest : Kept
  pub older : List Kept
  pub past : old.past ≡ newest ∷ older
  pub is : new ≡ undone_to old newest older

pub record Redoes (old new : Book) : Type 0 where
  pub nearest : Kept
  pub further : List Kept
  pub future : old.future ≡ nearest ∷ further
  pub is : new ≡ redone_to old nearest further

-- pages that agreed with any page still do
pub record Keeps (family : Family) (old new : Book) : Type 0 where
  pub past : (page : List Entry) (n : ℕ) → NearestAgree family page n old.past → NearestAgree family page n new.past
  pub future : (page : List Entry) (n : ℕ) → NearestAgree family page n old.future → NearestAgree family page n new.future

abbrev pub Follows : Family → Book → Reply → Book → Type 0
Follows family old (Changed s) new = new.past ≡ record { serial = old.changes + 1; page = old.present } ∷ old.past
Follows family old (UndoneIs s) new = Undoes old new
Follows family old (RedoneIs s) new = Redoes old new
Follows family old _ new = Keeps family old new

undoes : (b : Book) (s : ℕ) (past : List Kept) → b.past ≡ past → refuses_undo s (serials_of past) ≡ None → Undoes b (undone b past)
undoes b s [] is accepted = absurd (cc accepted)
undoes b s (newest ∷ older) is accepted = record { newest = newest; older = older; past = is; is = refl }

redoes : (b : Book) (s : ℕ) (future : List Kept) → b.future ≡ future → refuses_redo s (serials_of future) ≡ None → Redoes b (redone b future)
redoes b s [] is accepted = absurd (cc accepted)
redoes b s (nearest ∷ further) is accepted = record { nearest = nearest; further = further; future = is; is = refl }

module _ (family : Family) (b : Book) (session : ℕ) where
  abbrev Led : Call → Reply → Type 0
  Led call reply = Follows family b reply (next family b session call reply)

  answered : (call : Call) (reply : Reply) → Refuses family b call None → Answers family b call reply → Led call reply
  answered (Decide f v) reply refuses told = subst (Led (Decide f v)) (sym told) refl
  answered (Retract f) reply refuses told = subst (Led (Retract f)) (sym told) refl
  answered Reset reply refuses told = subst (Led Reset) (sym told) refl
  answered (Undo s) reply refuses told = subst (Led (Undo s)) (sym told) (undoes b s b.past refl (sym refuses))
  answered (Redo s) reply refuses told = subst (Led (Redo s)) (sym told) (redoes b s b.future refl (sym refuses))
  answered (Keep s) reply refuses told =
      subst (Led (Keep s)) (sym told) (record { past = λ page n near. nearest_in_front family page s n b.past near; future = λ page n near. near })
  answered (Forget s) reply refuses told =
      subst (Led (Forget s)) (sym told) (record { past = λ page n near. near; future = λ page n near. nearest_in_front family page s n b.future near })
  answered Settled reply refuses told = subst (Led Settled) (sym told.1.1) (record { past = λ page n near. near; future = λ page n near. near })
  answered call reply refuses told = subst (Led call) (sym told) (record { past = λ page n near. near; future = λ page n near. near })

  follows : (call : Call) (reply : Reply) → IsReply family b call reply → Led call reply
  follows call reply (Some r, (refuses, told)) = subst (Led call) (sym told) (record { past = λ page n near. near; future = λ page n near. near })
  follows call reply (None, (refuses, told)) = answered call reply refuses told

leads_to : (family : Family) (old new : Book) (asked : SessionCall) (answer : Answer) → Leads family old asked answer new → Follows family old (reply_of family old.present answer) new
leads_to family old new asked answer leads =
    subst (Follows family old (reply_of family old.present answer)) (sym leads.1.1) (follows family old leads.0 (call_of asked answer) (reply_of family old.present answer) leads.1.0)

-- ---- pages alike after a call

module _ (family : Family) (old new : Book) (asked : SessionCall) (answer : Answer) (leads : Leads family old asked answer new) (alike : Alike) (near : AreAlike family old alike) (agree : AgreeOnTops family old.present new.present) where
  replied : (a : Answer) → answer ≡ a → Follows family old (reply_of family old.present a) new
  replied a is = subst (λ (x : Answer). Follows family old (reply_of family old.present x) new) is (leads_to family old new asked answer leads)

  pub changed_alike : {s : ℕ} → answer ≡ ChangedTo s → (m : ℕ) → m ≤ alike.past + 1 → AreAlike family new (record { past = m; future = 0 })
  changed_alike {s} of m less = record {
    past = subst (NearestAgree family new.present m) (sym (replied (ChangedTo s) of))
        (one_more family old.present new.present m alike.past (record { serial = old.changes + 1; page = old.present }) old.past agree less refl near.past);
    future = tt;
  }

  pub undone_alike : {s : ℕ} → answer ≡ Undone s → (m n : ℕ) → m ≤ alike.past - 1 → n ≤ alike.future + 1 → AreAlike family new (record { past = m; future = n })
  undone_alike {s} of m n less more =
      let u : Undoes old new = replied (Undone s) of in
      let with_newest : AgreeOnTops family old.present u.newest.page = subst (λ (b : Book). AgreeOnTops family old.present b.present) u.is agree in
      subst (λ (b : Book). AreAlike family b (record { past = m; future = n })) (sym u.is) (record {
        past = rest family old.present u.newest.page m alike.past u.newest u.older with_newest less (subst (NearestAgree family old.present alike.past) u.past near.past);
        future = one_more family old.present u.newest.page n alike.future (record { serial = u.newest.serial; page = old.present }) old.future with_newest more refl near.future;
      })

  pub redone_alike : {s : ℕ} → answer ≡ Redone s → (m n : ℕ) → m ≤ alike.past + 1 → n ≤ alike.future - 1 → AreAlike family new (record { past = m; future = n })
  redone_alike {s} of m n more less =
      let u : Redoes old new = replied (Redone s) of in
      let with_nearest : AgreeOnTops family old.present u.nearest.page = subst (λ (b : Book). AgreeOnTops family old.present b.present) u.is agree in
      subst (λ (b : Book). AreAlike family b (record { past = m; future = n })) (sym u.is) (record {
        past = one_more family old.present u.nearest.page m alike.past (record { serial = u.nearest.serial; page = old.present }) old.past with_nearest more refl near.past;
        future = rest family old.present u.nearest.page n alike.future u.nearest u.further with_nearest less (subst (NearestAgree family old.present alike.future) u.future near.future);
      })

  keeps_else : (a : Answer) → ((s : ℕ) → a ≡ ChangedTo s → ⊥) → ((s : ℕ) → a ≡ Undone s → ⊥) → ((s : ℕ) → a ≡ Redone s → ⊥) → Follows family old (reply_of family old.present a) new → Keeps family old new
  keeps_else (ChangedTo s) changed undone redone f = absurd (changed s refl)
  keeps_else (Undone s) changed undone redone f = absurd (undone s refl)
  keeps_else (Redone s) changed undone redone f = absurd (redone s refl)
  keeps_else _ changed undone redone f = f

  pub kept_alike : ((s : ℕ) → answer ≡ ChangedTo s → ⊥) → ((s : ℕ) → answer ≡ Undone s → ⊥) → ((s : ℕ) → answer ≡ Redone s → ⊥) → AreAlike family new alike
  kept_alike changed undone redone =
      let keeps : Keeps family old new = keeps_else answer changed undone redone (leads_to family old new asked answer leads) in
      record {
        past = keeps.past new.present alike.past (nearest_moved family old.present new.present alike.past old.past agree near.past);
        future = keeps.future new.present alike.future (nearest_moved family old.present new.present alike.future old.future agree near.future);
      }

-- ---- undo and redo to a page that is alike

undone_agrees : (family : Family) (b : Book) (n : ℕ) (past : List Kept) → 0 < n → NearestAgree family b.present n past → AgreeOnTops family b.present (undone b past).present
undone_agrees family b zero past some near = absurd (omega (arith, some))
undone_agrees family b (suc n) [] some near = λ which v. refl
undone_agrees family b (suc n) (newest ∷ older) some near = near.0

redone_agrees : (family : Family) (b : Book) (n : ℕ) (future : List Kept) → 0 < n → NearestAgree family b.present n future → AgreeOnTops family b.present (redone b future).present
redone_agrees family b zero future some near = absurd (omega (arith, some))
redone_agrees family b (suc n) [] some near = λ which v. refl
redone_agrees family b (suc n) (nearest ∷ further) some near = near.0

-- ---- a retraction that removes its decision alone

whole : {X : Type 0} (p : X → Bool) (xs : List X) → length (filter p xs) ≡ length xs → filter p xs ≡ xs
whole p [] all = refl
whole {X} p (x ∷ xs) all = go (p x) (whole p xs) all
  where
    go : (b : Bool) → (length (filter p xs) ≡ length xs → filter p xs ≡ xs) → length (cond b (x ∷ filter p xs) (filter p xs)) ≡ length (x ∷ xs) → cond b (x ∷ filter p xs) (filter p xs) ≡ x ∷ xs
    go true further e = ap (λ (l : List X). x ∷ l) (further (omega (arith, e)))
    go false further e = absurd (omega (arith, e, length-filter_both p (λ y. not (p y)) (λ y. refl) xs))

value_at-reset : (which : Which) (v : ℕ) (before later : List Entry) → value_at which v (reset_all before later) ≡ value_at which v later
value_at-reset which v before [] = refl
value_at-reset which v before (Decided d ∷ later) = value_at-reset which v (before ++ Decided d ∷ []) later
value_at-reset which v before (Lifted l ∷ later) =
    ap (max (cond (same_table which l.table && (v == l.vertex)) l.new 0)) (value_at-reset which v (before ++ reset before (Lifted l) ∷ []) later)

length-reset : (before later : List Entry) → length (reset_all before later) ≡ length later
length-reset before [] = refl
length-reset before (e ∷ later) = ap suc (length-reset (before ++ reset before e ∷ []) later)

abbrev others : ℕ → List Entry → List Entry
others f page = filter (λ e. not (assumes f e)) (after_decision f page)

-- if nothing but the decision is gone, each value stays
same_values : (f : ℕ) (which : Which) (v : ℕ) (page : List Entry) → length (before_decision f page ++ others f page) + 1 ≡ length page → value_at which v (before_decision f page ++ others f page) ≡ value_at which v page
same_values f which v [] few = absurd (omega (arith, few))
same_values f which v (Lifted l ∷ page) few =
    ap (max (cond (same_table which l.table && (v == l.vertex)) l.new 0)) (same_values f which v page (omega (arith, few)))
same_values f which v (Decided d ∷ page) few = go (d.feature == f) (same_values f which v page) few
  where
    go : (b : Bool) → (length (before_decision f page ++ others f page) + 1 ≡ length page → value_at which v (before_decision f page ++ others f page) ≡ value_at which v page) →
        length (cond b [] (Decided d ∷ before_decision f page) ++ filter (λ e. not (assumes f e)) (cond b page (after_decision f page))) + 1 ≡ length (Decided d ∷ page) →
        value_at which v (cond b [] (Decided d ∷ before_decision f page) ++ filter (λ e. not (assumes f e)) (cond b page (after_decision f page))) ≡ value_at which v (Decided d ∷ page)
    go true further e = ap (value_at which v) (whole (λ e. not (assumes f e)) page (omega (arith, e)))
    go false further e = further (omega (arith, e))

retracted_agrees : (family : Family) (f : ℕ) (page : List Entry) → length (retracted f page) + 1 ≡ length page → AgreeOnTops family page (retracted f page)
retracted_agrees family f page few = λ which v. ap (λ (n : ℕ). n == family.top which) (sym (values which v))
  where
    as_many : length (before_decision f page ++ others f page) + 1 ≡ length page
    as_many = omega (arith, few, length-append (before_decision f page) (kept_after f page), length-append (before_decision f page) (others f page), length-reset (before_decision f page) (others f page))

    values : (which : Which) (v : ℕ) → value_at which v (retracted f page) ≡ value_at which v page
    values which v =
        value_at-append which v (before_decision f page) (kept_after f page)
        ∙ ap (max (value_at which v (before_decision f page))) (value_at-reset which v (before_decision f page) (others f page))
        ∙ sym (value_at-append which v (before_decision f page) (others f page)) ∙ same_values f which v page as_many

-- ---- calls after which the verdicts stay

-- a refused call leaves the page
agree_next : (family : Family) (old new : Book) (session : ℕ) (call : Call) (reply : Reply) → new ≡ next family old session call reply → AgreeOnTops family old.present (after family old session call).present → AgreeOnTops family old.present new.present
agree_next family old new session call reply is agree = subst (λ (b : Book). AgreeOnTops family old.present b.present) (sym is) (go (is_refusal reply))
  where
    go : (b : Bool) → AgreeOnTops family old.present (cond b old (after family old session call)).present
    go true = λ which v. refl
    go false = agree

module _ (family : Family) (old new : Book) (answer : Answer) {asked : SessionCall} where
  pub undo_agrees : {s : ℕ} → asked ≡ ask.Undo s → (n : ℕ) → Leads family old asked answer new → 0 < n → NearestAgree family old.present n old.past → AgreeOnTops family old.present new.present
  undo_agrees {s} of n leads some near =
      let made : Leads family old (ask.Undo s) answer new = subst (λ (a : SessionCall). Leads family old a answer new) of leads in
      agree_next family old new made.0 (Undo s) (reply_of family old.present answer) made.1.1 (undone_agrees family old n old.past some near)

  pub redo_agrees : {s : ℕ} → asked ≡ ask.Redo s → (n : ℕ) → Leads family old asked answer new → 0 < n → NearestAgree family old.present n old.future → AgreeOnTops family old.present new.present
  redo_agrees {s} of n leads some near =
      let made : Leads family old (ask.Redo s) answer new = subst (λ (a : SessionCall). Leads family old a answer new) of leads in
      agree_next family old new made.0 (Redo s) (reply_of family old.present answer) made.1.1 (redone_agrees family old n old.future some near)

  pub retract_agrees : {f : ℕ} → asked ≡ ask.Retract f → Leads family old asked answer new → length new.present + 1 ≡ length old.present → AgreeOnTops family old.present new.present
  retract_agrees {f} of leads few =
      let made : Leads family old (ask.Retract f) answer new = subst (λ (a : SessionCall). Leads family old a answer new) of leads in
      subst (λ (b : Book). AgreeOnTops family old.present b.present) (sym made.1.1)
      (go made.0 (is_refusal (reply_of family old.present answer)) (ap (λ (b : Book). length b.present + 1) (sym made.1.1) ∙ few))
    where
      go : (session : ℕ) (b : Bool) → length (cond b old (after family old session (Retract f))).present + 1 ≡ length old.present → AgreeOnTops family old.present (cond b old (after family old session (Retract f))).present
      go session true e = λ which v. refl
      go session false e = retracted_agrees family f old.present e

-- the other calls only append entries
pub appends_else : (asked : SessionCall) → ((f : ℕ) → asked ≡ ask.Retract f → ⊥) → (asked ≡ ask.Reset → ⊥) → ((s : ℕ) → asked ≡ ask.Undo s → ⊥) → ((s : ℕ) → asked ≡ ask.Redo s → ⊥) → only_appends asked ≡ true
appends_else (ask.Retract f) retract resets undo redo = absurd (retract f refl)
appends_else ask.Reset retract resets undo redo = absurd (resets refl)
appends_else (ask.Undo s) retract resets undo redo = absurd (undo s refl)
appends_else (ask.Redo s) retract resets undo redo = absurd (redo s refl)
appends_else _ retract resets undo redo = refl
