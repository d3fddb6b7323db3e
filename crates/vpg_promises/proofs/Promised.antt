-- Hopeless and sure, said of requirements.
use Rattle.std.proofs.Common.{◌≡◌, ℕ, ◌<◌, List, [], ◌∷◌, length, Bool, refl, sym, subst, arith}
use Rattle.std.specs.Prelude.{slice_index}
use Rattle.std.specs.List.{AllByRecursion}
use Rattle.vpg_guards.specs.declared.tri.Tri.{Tri}
use Rattle.vpg_guards.specs.Formula.{Formula as Guard, truth}
use Rattle.vpg_diagram.specs.FeatureDiagram.{IsProduct}
use Rattle.vpg_game.specs.Guarded.{GuardedGame}
use Rattle.vpg_hope.specs.Hope.{product_game}
use Rattle.vpg_trail.specs.Page.{Entry}
use Rattle.vpg_desk.specs.Book.{Kept, Book, opened}
use Rattle.vpg_desk.specs.History.{Event, IsLegal, book_after}
use Rattle.vpg_desk.specs.Lawful.{EachPage, IsLawful, AllHandIn}
use Rattle.vpg_desk.specs.Setting.{Setting, IsSetting}
use Rattle.vpg_desk.specs.Desk.{family_of}
use Rattle.vpg_desk.specs.Headline.{Tells, Determines}
use Rattle.vpg_desk.proofs.Whole.{headline}
use Rattle.vpg_requirement.specs.Building.{IsAlikeGame}
use Rattle.vpg_requirement.specs.Laws.{IsDecided}
use Rattle.vpg_requirement.proofs.Alike.{alike_games_are_the_same}
use Rattle.vpg_requirement.proofs.Decided.{formula_decides}
use Rattle.vpg_checking.specs.Checking.{EntryHoldsIn}
use Rattle.vpg_promises.specs.Promises.{HoldsIn, Settles, Promises, VerdictsSpeakOfRequirements, VerdictsSpeakOfTexts}

each_kept : (P Q : List Entry → Type 0) → ((page : List Entry) → P page → Q page) → (pages : List Kept) → AllByRecursion (λ k. P k.page) pages → AllByRecursion (λ k. Q k.page) pages
each_kept P Q h [] all = tt
each_kept P Q h (k ∷ pages) all = (h k.page all.0, each_kept P Q h pages all.1)

each_page : (P Q : List Entry → Type 0) → ((page : List Entry) → P page → Q page) → (book : Book) → EachPage P book → EachPage Q book
each_page P Q h book e = record { present = h book.present e.present; past = each_kept P Q h book.past e.past; future = each_kept P Q h book.future e.future }

alike_length : (Counts : List Bool → Type 0) (game other : GuardedGame Guard) → IsAlikeGame Counts game other → length game ≡ length other
alike_length Counts [] [] z = refl
alike_length Counts [] (o ∷ other) z = absurd z
alike_length Counts (v ∷ game) [] z = absurd z
alike_length Counts (v ∷ game) (o ∷ other) z = omega (arith, alike_length Counts game other z.1)

-- the desk's game decides the requirement at the vertex in each product
abbrev Decides : Setting → (List Bool → Type 0) → ℕ → Type 0
Decides setting Holds v = (set : List Bool) → IsProduct setting.lines set → IsDecided (Holds set) (product_game (truth set) setting.game) v

module _ (setting : Setting) (Holds : List Bool → Type 0) (v : ℕ) (inside : v < length setting.game) (decides : Decides setting Holds v) where
  promised : (page : List Entry) → Tells setting page → Promises setting Holds v page
  promised page tells = record {
    hopeless = λ top set remaining. (decides set remaining.product).hopeless (tells.hopeless v inside top set remaining);
    sure = λ top set remaining. (decides set remaining.product).sure (tells.sure v inside top set remaining);
    full = λ known is_known all settled. settles (tells.full known is_known all settled);
  }
    where
      settles : {known : List Tri} → (set : List Bool) × Determines setting page known set → (set : List Bool) × Settles setting Holds v page set
      settles d = (
        d.0,
        record {
          remaining = d.1.remaining;
          only = d.1.only;
          possible = λ possible. (decides d.0 d.1.remaining.product).won.1 (d.1.even_wins v inside possible);
          unsure = λ unsure. (decides d.0 d.1.remaining.product).lost.1 (d.1.odd_wins v inside unsure);
        },
      )

  each_promised : (history : List Event) → IsSetting setting → IsLegal (family_of setting) history → AllHandIn (IsLawful (family_of setting)) history →
      EachPage (Promises setting Holds v) (book_after (family_of setting) opened history)
  each_promised history is_setting legal lawful =
      each_page (Tells setting) (Promises setting Holds v) promised (book_after (family_of setting) opened history) (headline setting history is_setting legal lawful).pages

pub verdicts_speak_of_requirements : VerdictsSpeakOfRequirements
verdicts_speak_of_requirements setting history is_setting legal lawful system formula s v model = each_promised setting (HoldsIn system formula s) v model.vertex decides history is_setting legal lawful
  where
    inside : v < length model.built
    inside = omega (arith, model.vertex, alike_length (IsProduct setting.lines) model.built setting.game model.alike)

    decides : Decides setting (HoldsIn system formula s) v
    decides set product = subst (λ game. IsDecided (HoldsIn system formula s set) game v) (sym (alike_games_are_the_same setting.lines model.built setting.game model.alike set product))
        (formula_decides system formula model.places model.built model.closed model.positive model.is_built s v model.state inside model.root set)

pub verdicts_speak_of_texts : VerdictsSpeakOfTexts
verdicts_speak_of_texts setting history is_setting legal lawful names system_text requirements_text roots made n below =
    each_promised setting (EntryHoldsIn made.system made.entries n) (slice_index roots n) (made.model.models n below).vertex (λ set product. made.model.decided n below set) history is_setting legal lawful
