-- What an answer means for a page, with the law that there is one such answer. This project's own.
use Rattle.std.proofs.Common.{◌∙◌, sym}
use Rattle.std.specs.Prelude.{◌≡◌, ℕ, Bool, true, false, List, []}
use Rattle.vpg_diagram.specs.FeatureDiagram.{IsDiagram}
use Rattle.vpg_partial.specs.TableLaws.{AreChoicesOf}
use Rattle.vpg_partial.specs.declared.decision.Decision.{Decision}
use Rattle.vpg_trail.specs.Page.{Entry}
use Rattle.vpg_trail.specs.declared.page.Page.{Page}
use Rattle.vpg_script.specs.Answer.{Answer, IsDone}
use Rattle.vpg_script.proofs.Given.{done_one}
use Rattle.vpg_texts.specs.Scene.{Scene}
use Rattle.vpg_why.specs.Explained.{choices}
use Rattle.vpg_why.specs.declared.question.Limits.{Limits}
use Rattle.vpg_looks.specs.Answers.{HasDoubt}
use Rattle.vpg_looks.specs.Looked.{HasMetLimit}

-- what is seen of a page: its entries, its decisions, and both tables
pub record Sight : Type 0 where
  pub entries : List Entry
  pub decisions : List Decision
  pub hopeful : List ℕ
  pub dual : List ℕ

-- the sight of a page of the code
abbrev pub sight_of : Page → Sight
sight_of page =
    record { entries = page.entries; decisions = page.decisions; hopeful = page.hopeful; dual = page.dual }

-- the sight that an order gives: without entries
abbrev pub ordered_sight : List Decision → (hopeful dual : List ℕ) → Sight
ordered_sight decisions hopeful dual =
    record { entries = []; decisions = decisions; hopeful = hopeful; dual = dual }

-- what a look looks at
pub record Seen : Type 0 where
  pub scene : Scene
  pub page : Sight

-- The page's decisions are on the diagram's features.
pub record IsPage (seen : Seen) : Type 0 where
  pub diagram : IsDiagram seen.scene.lines
  pub named : AreChoicesOf seen.scene.lines (choices seen.page.decisions)

-- a limit was met: of an answer that takes an order, or of another
abbrev pub IsDoubtfulIf : (ordered : Bool) → Answer → Type 0
IsDoubtfulIf true answer = HasDoubt answer.text
IsDoubtfulIf false answer = HasMetLimit answer

-- Two answers of this meaning are the same if no limit was met, whatever the limits were.
abbrev pub IsOne : (ordered : Bool) → (Seen → Limits → Answer → Type 0) → Type 0
IsOne ordered Tells =
    (seen : Seen) (limits others : Limits) → IsPage seen → (one other : Answer) →
    Tells seen limits one → Tells seen others other →
    ¬ (IsDoubtfulIf ordered one) → ¬ (IsDoubtfulIf ordered other) → one ≡ other

-- A look's meaning: what its answer says, and that there is one such answer.
pub record Meaning (ordered : Bool) : Type 1 where
  pub tells : Seen → Limits → Answer → Type 0
  pub one : IsOne ordered tells

-- ---- how a meaning is given

-- Two texts of this meaning are the same if no limit was met.
abbrev pub IsOneText : (Seen → Limits → List ℕ → Type 0) → Type 0
IsOneText Says =
    (seen : Seen) (limits others : Limits) → IsPage seen → (one other : List ℕ) →
    Says seen limits one → Says seen others other → ¬ (HasDoubt one) → ¬ (HasDoubt other) → one ≡ other

-- the meaning of a look that is done, with a text that a search gives
abbrev pub searched : (Says : Seen → Limits → List ℕ → Type 0) → IsOneText Says → Meaning true
searched Says one_text = record {
  tells = λ seen limits answer. IsDone (Says seen limits) answer;
  one = λ seen limits others is one other a b sure also.
      done_one (Says seen limits) (Says seen others) one other
      (λ first second. one_text seen limits others is one.text other.text first second sure also) a b;
}

-- the meaning of a look that is done, with a text that no limit touches
abbrev pub shown : {ordered : Bool} (Says : Seen → List ℕ → Type 0) →
    ((seen : Seen) (one other : List ℕ) → Says seen one → Says seen other → one ≡ other) → Meaning ordered
shown Says one_text = record {
  tells = λ seen limits answer. IsDone (Says seen) answer;
  one = λ seen limits others is one other a b sure also.
      done_one (Says seen) (Says seen) one other (one_text seen one.text other.text) a b;
}

-- the meaning of a look that is done, with this text
abbrev pub equal : {ordered : Bool} → (Seen → List ℕ) → Meaning ordered
equal text_of = record {
  tells = λ seen limits answer. IsDone (λ text. text ≡ text_of seen) answer;
  one = λ seen limits others is one other a b sure also.
      done_one (λ text. text ≡ text_of seen) (λ text. text ≡ text_of seen) one other
      (λ first second. first ∙ sym second) a b;
}

-- the meaning of a look whose answer may also be a refusal, or a failure
abbrev pub answered : {ordered : Bool} (Tells : Seen → Limits → Answer → Type 0) → IsOne ordered Tells →
    Meaning ordered
answered Tells one_answer = record { tells = Tells; one = one_answer }
