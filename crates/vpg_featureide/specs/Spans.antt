-- Between which indices the children of elements are, for private contracts. This project's own.
use Rattle.std.specs.Prelude.{◌≡◌, ℕ, zero, suc, ◌+◌, ◌<◌, ◌≤◌, true, List, length, slice_get, slice_index_or, slice_set, Option, Some, None}
use Rattle.vpg_xml.specs.Elements.{Element, Document}
use Rattle.vpg_featureide.specs.Formulas.{is_child}
use Rattle.vpg_featureide.specs.declared.spans.Span.{Span}

abbrev pub no_child : Span
no_child = record { from = 0; to = 0 }

-- the first child, or this one if there is none
abbrev pub first_child : ℕ → ℕ → ℕ → ℕ
first_child from zero child = child
first_child from (suc to) child = from

-- the span with one more child, after the others
abbrev pub with_child : Span → ℕ → Span
with_child s child = record { from = first_child s.from s.to child; to = child + 1 }

-- the spans with one more child of an element, after the others
abbrev pub with_child_of : Option ℕ → ℕ → List Span → List Span
with_child_of None child spans = spans
with_child_of (Some p) child spans = slice_set spans p (with_child (slice_index_or spans p no_child) child)

-- Each element has a span, and its children among this many elements are in its span.
pub record AreSpans (count : ℕ) (spans : List Span) (d : Document) : Type 0 where
  pub each : length spans ≡ length d
  pub begin : (i : ℕ) (s : Span) → slice_get spans i ≡ Some s → s.from ≤ count
  pub end : (i : ℕ) (s : Span) → slice_get spans i ≡ Some s → s.to ≤ count
  pub children : (i j : ℕ) (s : Span) (e : Element) → j < count → slice_get spans i ≡ Some s →
      slice_get d j ≡ Some e → is_child i e.parent ≡ true → (s.from ≤ j) × (j < s.to)
