use Rattle.std.proofs.Common.{◌<◌, false, List, [], ◌∷◌, ◌++◌, Option, Some, None, length, take, get_or, sym, ap, refl, ◌∙◌, subst, arith}
use Rattle.std.proofs.lemmas.List.{take_all, take_more}
use Rattle.std.proofs.lemmas.Option.{slice_get-get_or}
use Rattle.vpg_diagram.specs.declared.clause.Literal.{Literal}
use Rattle.vpg_diagram.proofs.Lists.{All-at}
use Rattle.vpg_products.proofs.Rules.{IsScanned, scanned_open, scanned_false, scanned_adds, scanned_fails}
use Rattle.vpg_products.proofs.stepping.step_at_clause.Goals as goal
use Rattle.vpg_products.proofs.stepping.step_at_clause.Goals.{then-not-is_known+in-None, else-not-is_known}

pub loop-literal-preserved : goal.loop-literal-preserved
loop-literal-preserved c =
    let d : Literal = record { feature = 0; value = false } in
    let xs : List Literal = c.literals-literals.result.now in
    let i = c.loop-literal.literal-index in
    let known = c.args.known.now in
    let x : Literal = get_or xs i d in
    let below : x.feature < length known = All-at (λ (l : Literal). l.feature < length known) xs i x
    (subst (λ (ys : List Literal). Rattle.std.specs.List.AllByRecursion (λ (l : Literal). l.feature < length known) ys) (sym c.literals-literals.ensures) c.requires.below)
    (slice_get-get_or xs i d c.loop-literal-test.true) in
    elim c.if-not-is_known.branch [
      | then-not-is_known+in-None w ↦ subst (λ (ys : List Literal). IsScanned known ys c.if-not-is_known.open) (sym (take_more xs i d c.loop-literal-test.true))
          (subst (λ (o : Option Literal). IsScanned known (take i xs ++ x ∷ []) o) (sym w.open-is)
          (scanned_open known (take i xs) x below (sym c.is_known.ensures ∙ c.if-is_known.false) (sym c.is_known-in-loop-literal.ensures ∙ w.if-not-is_known.true)
          (subst (λ (o : Option Literal). IsScanned known (take i xs) o) w.in-None.is c.loop-literal.invariant)))
      | else-not-is_known w ↦ subst (λ (ys : List Literal). IsScanned known ys c.if-not-is_known.open) (sym (take_more xs i d c.loop-literal-test.true))
          (subst (λ (o : Option Literal). IsScanned known (take i xs ++ x ∷ []) o) (sym w.open-is)
          (scanned_false known (take i xs) c.loop-literal.open x (sym c.is_known-in-loop-literal.ensures ∙ w.if-not-is_known.false) c.loop-literal.invariant))
    ]

pub returns-in-Some-open : goal.returns-in-Some-open
returns-in-Some-open c =
    scanned_adds c.args.known.now c.args.clause.now c.in-Some-open.literal
    (subst (λ (o : Option Literal). IsScanned c.args.known.now c.args.clause.now o) c.in-Some-open.is
    (subst (λ (xs : List Literal). IsScanned c.args.known.now xs c.loop-literal.open) (take_all c.loop-literal.literal-index c.literals-literals.result.now c.loop-literal-test.false ∙ c.literals-literals.ensures) c.loop-literal.invariant))

pub returns-in-None-open : goal.returns-in-None-open
returns-in-None-open c =
    scanned_fails c.args.known.now c.args.clause.now
    (subst (λ (o : Option Literal). IsScanned c.args.known.now c.args.clause.now o) c.in-None-open.is
    (subst (λ (xs : List Literal). IsScanned c.args.known.now xs c.loop-literal.open) (take_all c.loop-literal.literal-index c.literals-literals.result.now c.loop-literal-test.false ∙ c.literals-literals.ensures) c.loop-literal.invariant))
