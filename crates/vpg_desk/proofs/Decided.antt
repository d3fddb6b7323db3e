-- What a desk answers to a decide, and what an accepted one leaves.
use Rattle.std.proofs.Common.{◌≡◌, ℕ, ◌+◌, ◌<◌, ◌≤◌, Bool, List, [], ◌∷◌, ◌++◌, not, Some, None, inl, inr, IfSome, IsTrue, refl, sym, ap, ◌∙◌, subst, arith, Vec, Global}
use Rattle.std.specs.Arc.{arc_value}
use Rattle.std.specs.declared.sync.Arc.{Arc}
use Rattle.std.specs.List.{AllByRecursion}
use Rattle.vpg_diagram.proofs.Lists.{All-unmap, All-append}
use Rattle.vpg_diagram.specs.FeatureDiagram.{feature_count}
use Rattle.vpg_diagram.specs.Clauses.{clauses_of, counts_of}
use Rattle.vpg_measure.specs.Games.{GamesView, ArePageGames}
use Rattle.vpg_guards.specs.declared.tri.Tri.{Tri}
use Rattle.vpg_partial.specs.Known.{NamesConflict}
use Rattle.vpg_partial.specs.KnownTable.{literals_in}
use Rattle.vpg_partial.specs.TableLaws.{IsKnownTable, AreChoicesOf}
use Rattle.vpg_trail.specs.Page.{Literal, Decision, Entry as Step, Decided, literal_of, decisions_of, choices_of, decision_on}
use Rattle.vpg_trail.specs.Shown.{Track}
use Rattle.vpg_trail.proofs.PageLemmas.{choices_of-append}
use Rattle.vpg_desk.specs.Book.{Refused, Changed, Decide, most_changes, with_choice, changed, IsSettledPage}
use Rattle.vpg_faults.specs.declared.refusal.Refusal.TheVariants.{AlreadyDecided, UnknownFeature, Conflict, TooManyChanges}
use Rattle.vpg_desk.specs.Cuts.{cuts_of, notes_of, cut_book, SuffixesBelow}
use Rattle.vpg_desk.specs.Trail.{StandsFor, book_of}
use Rattle.vpg_desk.specs.declared.cuts.Cut.{Cut}
use Rattle.vpg_desk.proofs.Changing.{end_cut, decided_stands}
use Rattle.vpg_desk.specs.Desk.{family_of}
use Rattle.vpg_desk.specs.DeskFields.{setting_in, book_in, notes_in, desk_of, IsDesk}
use Rattle.vpg_desk.specs.Faults.{ClosesWith, KnownRefusesNone}
use Rattle.vpg_faults.specs.Refusals.{decide_refusal}
use Rattle.vpg_desk.specs.Notes.{NotesHold}
use Rattle.vpg_desk.specs.Setting.{HasConflict}
use Rattle.vpg_desk.specs.State.{Replies, IsStep, IsReached}
use Rattle.vpg_desk.specs.declared.desk.Desk.TheInside.{Inside}
use Rattle.vpg_faults.specs.declared.fault.DecideFault.{DecideFault}
use Rattle.vpg_faults.specs.declared.fault.DecideFault.TheVariants.{UnknownFeature as IsUnknown, AlreadyDecided as IsDecided, Conflict as InConflict, TooManyChanges as IsTooMany, Memory}
use Rattle.vpg_desk.proofs.Answering.{tells}
use Rattle.vpg_desk.proofs.Deciding.{choices_inside, not_outside, one_more_inside, known_no_conflict, named_has_conflict, against_known, as_known}
use Rattle.vpg_desk.proofs.Noted.{noted_with}
use Rattle.vpg_desk.proofs.Reaching.{reached_step, reached_limits}

module _ (d : Inside) (i : IsDesk d) where
  lines_in : ℕ
  lines_in = feature_count (arc_value d.diagram).lines

  consistent : ¬ (HasConflict (setting_in d) (choices_of d.trail.entries))
  consistent = (tells d i).consistent

  -- a decision more is of features of the diagram
  pub decisions_inside : (made : Decision) → made.feature < feature_count (arc_value d.diagram).lines → (page : List Step) → page ≡ d.trail.entries →
      AllByRecursion (λ x. x.feature < feature_count (arc_value d.diagram).lines) (decisions_of page ++ made ∷ [])
  decisions_inside made h page e =
      All-append (λ (x : Decision). x.feature < feature_count (arc_value d.diagram).lines) (decisions_of page) (made ∷ [])
      (All-unmap (λ (c : Literal). c.feature < feature_count (arc_value d.diagram).lines) literal_of (decisions_of page)
      (subst (λ (p : List Step). AreChoicesOf (arc_value d.diagram).lines (choices_of p)) (sym e) (choices_inside (setting_in d) (choices_of d.trail.entries) consistent)))
      (h, tt)

  pub limits : (d.tokens ≤ d.changes) × (d.changes ≤ most_changes)
  limits = reached_limits (setting_in d) (book_in d) i.reached

  module _ (f : ℕ) (value : Bool) where
    pub decide_unknown : feature_count (arc_value d.diagram).lines ≤ f → Replies (desk_of d) (Decide f value) (Refused UnknownFeature)
    decide_unknown h = (Some UnknownFeature, (h, refl))

    module _ (known_feature : f < feature_count (arc_value d.diagram).lines) where
      pub decide_already : (x : Decision) → decision_on f d.trail.entries ≡ Some x → Replies (desk_of d) (Decide f value) (Refused (AlreadyDecided x.serial))
      decide_already x e = (Some (AlreadyDecided x.serial), ((known_feature, (x, (e, refl))), refl))

      module _ (fresh : decision_on f d.trail.entries ≡ None) where
        -- the page shows the feature the other way
        pub decide_known_other : IsTrue (literals_in (arc_value d.games).known (record { feature = f; value = not value })) → Replies (desk_of d) (Decide f value) (Refused (Conflict f))
        decide_known_other k =
            (Some (Conflict f), ((known_feature, fresh, inr (against_known (arc_value d.diagram).lines (choices_of d.trail.entries) f value (i.games.known.known_only (record { feature = f; value = not value }) k)), refl), refl))

        -- the page shows it the same way, so nothing more becomes known
        still_none : IsTrue (literals_in (arc_value d.games).known (record { feature = f; value = value })) → HasConflict (setting_in d) (with_choice (book_in d) f value) → ⊥
        still_none k (inl outside) = not_outside (setting_in d) (with_choice (book_in d) f value) (one_more_inside (setting_in d) (choices_of d.trail.entries) (record { feature = f; value = value }) consistent known_feature) outside
        still_none k (inr c) = consistent (inr (as_known (arc_value d.diagram).lines (choices_of d.trail.entries) (record { feature = f; value = value }) (i.games.known.known_only (record { feature = f; value = value }) k) c))

        pub decide_known_same : IsTrue (literals_in (arc_value d.games).known (record { feature = f; value = value })) → d.changes ≡ 1048576 → Replies (desk_of d) (Decide f value) (Refused TooManyChanges)
        decide_known_same k e = (Some TooManyChanges, ((known_feature, fresh, still_none k, omega (arith, e)), refl))

        -- neither
        pub decide_not_known : ¬ (IsTrue (literals_in (arc_value d.games).known (record { feature = f; value = not value }))) →
            (IsTrue (literals_in (arc_value d.games).known (record { feature = f; value = value })) → d.changes ≡ 1048576 → ⊥) → KnownRefusesNone (desk_of d) f value
        decide_not_known other room = record {
          not_other = λ k. other (i.games.known.all_known (record { feature = f; value = not value }) k);
          room = λ k. let n = room (i.games.known.all_known (record { feature = f; value = value }) k) in omega (arith, limits.1, n);
        }

      module _ (fresh : decision_on f d.trail.entries ≡ None) (made : Decision) (on_f : made.feature ≡ f) (its_value : made.value ≡ value) where
        choices : choices_of (d.trail.entries ++ Decided made ∷ []) ≡ with_choice (book_in d) f value
        choices = choices_of-append d.trail.entries (Decided made ∷ []) ∙ ap (λ (c : Literal). choices_of d.trail.entries ++ c ∷ []) (λ k. record { feature = on_f k; value = its_value k })

        conflict : (g : ℕ) → NamesConflict (clauses_of (arc_value d.diagram).lines) (counts_of (arc_value d.diagram).lines) (choices_of (d.trail.entries ++ Decided made ∷ [])) g → HasConflict (setting_in d) (with_choice (book_in d) f value)
        conflict g named = subst (HasConflict (setting_in d)) choices (named_has_conflict (setting_in d) (choices_of (d.trail.entries ++ Decided made ∷ [])) g named)

        pub none : (known : List Tri) → IsKnownTable (arc_value d.diagram).lines (choices_of (d.trail.entries ++ Decided made ∷ [])) known → ¬ (HasConflict (setting_in d) (with_choice (book_in d) f value))
        none known t = subst (λ (l : List Literal). ¬ (HasConflict (setting_in d) l)) choices
            (known_no_conflict (setting_in d) (choices_of (d.trail.entries ++ Decided made ∷ [])) known
            (subst (AreChoicesOf (arc_value d.diagram).lines) (sym (choices_of-append d.trail.entries (Decided made ∷ [])))
            (one_more_inside (setting_in d) (choices_of d.trail.entries) (literal_of made) consistent (subst (λ (n : ℕ). n < feature_count (arc_value d.diagram).lines) (sym on_f) known_feature))) t)

        pub closes_refuses : (fault : DecideFault) → ClosesWith (arc_value d.diagram).lines (choices_of (d.trail.entries ++ Decided made ∷ [])) made.feature fault →
            IfSome (decide_refusal fault) (λ refusal. Replies (desk_of d) (Decide f value) (Refused refusal))
        closes_refuses IsUnknown h = absurd h
        closes_refuses (IsDecided s) h = absurd h
        closes_refuses (InConflict g) h = (Some (Conflict g), ((known_feature, fresh, conflict h.1.0 h.1.1, h.0 ∙ on_f), refl))
        closes_refuses IsTooMany h = absurd h
        closes_refuses Memory h = tt

        pub decide_too_many : (known : List Tri) → IsKnownTable (arc_value d.diagram).lines (choices_of (d.trail.entries ++ Decided made ∷ [])) known → d.changes ≡ 1048576 →
            Replies (desk_of d) (Decide f value) (Refused TooManyChanges)
        decide_too_many known t e = (Some TooManyChanges, ((known_feature, fresh, none known t, omega (arith, e)), refl))

        pub decide_accepted : (known : List Tri) → IsKnownTable (arc_value d.diagram).lines (choices_of (d.trail.entries ++ Decided made ∷ [])) known → (d.changes ≡ 1048576 → ⊥) →
            Replies (desk_of d) (Decide f value) (Changed (d.changes + 1))
        decide_accepted known t n = (None, ((known_feature, fresh, none known t, room), refl))
          where
            room : d.changes < most_changes
            room = omega (arith, limits.1, n)

-- ---- what an accepted decide leaves

module _ (d : Inside) (i : IsDesk d) (session f : ℕ) (value : Bool) (games : Arc GamesView Global) (later : Vec Cut Global) (trail : Track) (future : Vec Cut Global)
    (cuts : cuts_of later.items ≡ end_cut (d.changes + 1) d.trail.entries ∷ cuts_of d.past.items)
    (notes : notes_of later.items ≡ d.is_noted ∷ notes_of d.past.items)
    (below : SuffixesBelow d.trail.vertices d.past.items → SuffixesBelow d.trail.vertices later.items)
    (trail_is : trail ≡ record { vertices = d.trail.vertices; entries = d.trail.entries ++ Decided (record { serial = d.changes + 1; session = session; feature = f; value = value }) ∷ [] })
    (emptied : future.items ≡ [])
    (accepted : Replies (desk_of d) (Decide f value) (Changed (d.changes + 1)))
    (note : Bool) (settled : IsTrue note → IsSettledPage (family_of (setting_in d)) (d.trail.entries ++ Decided (record { serial = d.changes + 1; session = session; feature = f; value = value }) ∷ []))
    (games_are : ArePageGames (arc_value d.game) (arc_value d.diagram) (choices_of (d.trail.entries ++ Decided (record { serial = d.changes + 1; session = session; feature = f; value = value }) ∷ [])) (arc_value games)) where
  made : Step
  made = Decided (record { serial = d.changes + 1; session = session; feature = f; value = value })

  left : Inside
  left = record { game = d.game; diagram = d.diagram; games = games; trail = trail; past = later; future = future; changes = d.changes + 1; tokens = d.tokens + 1; is_noted = note }

  stands : StandsFor (cut_book later.items trail.entries future.items (d.changes + 1) (d.tokens + 1)) (changed (book_in d) (d.trail.entries ++ Decided (record { serial = d.changes + 1; session = session; feature = f; value = value }) ∷ []))
  stands = coe 0 1 (k. StandsFor (record { past = cuts_of later.items; entries = (sym trail_is k).entries; future = cuts_of (sym emptied k); changes = d.changes + 1; tokens = d.tokens + 1 }) (changed (book_in d) (d.trail.entries ++ Decided (record { serial = d.changes + 1; session = session; feature = f; value = value }) ∷ [])))
      (decided_stands d.past.items later.items d.trail.entries d.future.items d.changes d.tokens (Decided (record { serial = d.changes + 1; session = session; feature = f; value = value })) cuts i.past_fits i.future_fits)

  pub decided_step : IsStep (desk_of d) session (Decide f value) (Changed (d.changes + 1)) (record { game = arc_value d.game; diagram = arc_value d.diagram; book = book_of (cut_book later.items trail.entries future.items (d.changes + 1) (d.tokens + 1)) })
  decided_step = record { step = (accepted, stands.same); game = refl; diagram = refl }

  pub decided_desk : IsDesk (record { game = d.game; diagram = d.diagram; games = games; trail = trail; past = later; future = future; changes = d.changes + 1; tokens = d.tokens + 1; is_noted = note })
  decided_desk = record {
    opened = i.opened;
    reached = subst (IsReached (setting_in d)) (sym stands.same) (reached_step (setting_in d) (book_in d) session (Decide f value) (Changed (d.changes + 1)) i.reached accepted tt);
    games = subst (λ (t : Track). ArePageGames (arc_value d.game) (arc_value d.diagram) (choices_of t.entries) (arc_value games)) (sym trail_is) games_are;
    vertices = ap (λ (t : Track). t.vertices) trail_is ∙ i.vertices;
    past_fits = stands.past_fits;
    future_fits = stands.future_fits;
    past_below = subst (λ (t : Track). SuffixesBelow t.vertices later.items) (sym trail_is) (below i.past_below);
    future_below = subst (λ (l : List Cut). SuffixesBelow trail.vertices l) (sym emptied) (λ k x h. absurd (omega arith));
    noted = coe 0 1 (k. NotesHold (IsSettledPage (family_of (setting_in d))) (record { present = note; past = sym notes k; future = notes_of (sym emptied k) }) (sym stands.same k))
        (noted_with (IsSettledPage (family_of (setting_in d))) (notes_in d) (book_in d) (d.trail.entries ++ Decided (record { serial = d.changes + 1; session = session; feature = f; value = value }) ∷ []) note settled i.noted);
  }
