use Rattle.std.proofs.Common.{◌≡◌, ℕ, ◌+◌, ◌<◌, ◌≤◌, ◌⊎◌, inl, inr, All, length, refl, subst, arith}
use Rattle.std.specs.Prelude.{slice_index}
use Rattle.std.proofs.lemmas.Bool.{cases_lt, false≢true}
use Rattle.vpg_hope.specs.Arena.{vertex_at}
use Rattle.vpg_measure.specs.Bounds.{IsSupported}
use Rattle.vpg_measure.proofs.bounds.are_supported.Goals as goal
use Rattle.vpg_measure.proofs.bounds.are_supported.Goals.{else-get-via-then-get+else-not-is_supported, else-get-via-else-get}

-- what holds below v and at v holds below the next
below_next : (P : ℕ → Type 0) (v : ℕ) → ((u : ℕ) → u < v → P u) → P v → (u : ℕ) → u < v + 1 → P u
below_next P v before at u less = either (cases_lt u v)
  where
    either : (u < v) ⊎ (v ≤ u) → P u
    either (inl l) = before u l
    either (inr l) = (let same : v ≡ u = omega arith in subst P same at)

abbrev SupportedAt : goal.Joined-else-get → ℕ → Type 0
SupportedAt c u = slice_index c.args.table.now u < slice_index c.args.certificate.now.bounds u →
    IsSupported c.args.shape.now c.args.dual_shape.now c.args.certificate.now.bounds c.args.certificate.now.ranks (vertex_at c.args.arena.now u) (slice_index c.args.certificate.now.bounds u) (slice_index c.args.certificate.now.ranks u)

abbrev ClosedAt : goal.Joined-else-get → ℕ → Type 0
ClosedAt c u = slice_index c.args.table.now u < slice_index c.args.certificate.now.bounds u → All (λ w. w < length c.args.arena.now) (vertex_at c.args.arena.now u).successors

pub returns-then-not-is_supported-clause-supported : goal.returns-then-not-is_supported-clause-supported
returns-then-not-is_supported-clause-supported c = (
  λ t. absurd (false≢true t),
  λ are. c.if-not-is_supported.ensures.supported.1 (are c.loop-v.v (omega (arith, c.vertices-v-end.ensures, c.loop-v-test.true)) (omega (arith, c.if-get.true, c.get.ensures, c.get-in-loop-v.ensures))),
)

pub returns-then-not-is_supported-clause-closed : goal.returns-then-not-is_supported-clause-closed
returns-then-not-is_supported-clause-closed c = λ t. absurd (false≢true t)

pub loop-v-preserved : goal.loop-v-preserved
loop-v-preserved c = elim c.else-get.branch [
  | else-get-via-then-get+else-not-is_supported w ↦ record {
    supported = below_next (SupportedAt c) c.loop-v.v c.loop-v.invariant.supported (λ _. w.is_supported.ensures.supported.0 w.if-not-is_supported.false);
    closed = below_next (ClosedAt c) c.loop-v.v c.loop-v.invariant.closed (λ _. w.is_supported.ensures.closed);
  }
  | else-get-via-else-get w ↦ record {
    supported = below_next (SupportedAt c) c.loop-v.v c.loop-v.invariant.supported (λ h. absurd (omega (arith, h, w.if-get.false, c.get.ensures, c.get-in-loop-v.ensures)));
    closed = below_next (ClosedAt c) c.loop-v.v c.loop-v.invariant.closed (λ h. absurd (omega (arith, h, w.if-get.false, c.get.ensures, c.get-in-loop-v.ensures)));
  }
]

pub returns-clause-supported : goal.returns-clause-supported
returns-clause-supported c = (
  λ t v less. c.loop-v.invariant.supported v (omega (arith, less, c.vertices-v-end.ensures, c.loop-v-test.false)),
  λ are. refl,
)

pub returns-clause-closed : goal.returns-clause-closed
returns-clause-closed c = λ t v less. c.loop-v.invariant.closed v (omega (arith, less, c.vertices-v-end.ensures, c.loop-v-test.false))
