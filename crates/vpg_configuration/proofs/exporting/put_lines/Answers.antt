use Rattle.std.proofs.Common.{◌≡◌, ◌≤◌, ◌++◌, ℕ, map, flat_map, sym, ap, ◌∙◌, subst, arith}
use Rattle.std.specs.Global.{Vec}
use Rattle.std.specs.Prelude.{length}
use Rattle.vpg_guards.specs.declared.tri.Tri.{Tri}
use Rattle.vpg_partial.specs.Known.{literal_of}
use Rattle.vpg_configuration.specs.Exports.{is_value, features_known, line_of}
use Rattle.vpg_configuration.proofs.Documented.{one_line, no_line}
use Rattle.vpg_configuration.proofs.exporting.put_lines.Goals as goal
use Rattle.vpg_configuration.proofs.exporting.put_lines.Goals.{then-is_value+in_ok-put_line, else-is_value}

pub loop-f-preserved : goal.loop-f-preserved
loop-f-preserved c =
    let known = c.args.known.now in
    let value = c.args.value in
    let f = c.loop-f.f in
    let line = line_of c.args.form c.args.names.now known (map literal_of c.args.decisions.now) in
    let test = c.is_value.ensures ∙ ap (λ (t : Tri). is_value t value) c.value.ensures in
    elim c.if-is_value.branch [
      | then-is_value+in_ok-put_line w ↦
          one_line line known value f c.args.out.now.items c.loop-f.out.items c.if-is_value.out.items c.loop-f.invariant (sym test ∙ w.if-is_value.true) (ap (λ (v : Vec ℕ). v.items) w.out-is ∙ w.in_ok-put_line.ensures)
      | else-is_value w ↦
          no_line line known value f c.args.out.now.items c.loop-f.out.items c.if-is_value.out.items c.loop-f.invariant (sym test ∙ w.if-is_value.false) (ap (λ (v : Vec ℕ). v.items) w.out-is)
    ]

reached : (f count n : ℕ) → f ≤ count → count ≤ f → count ≡ n → f ≡ n
reached f count n below past is = omega arith

pub returns : goal.returns
returns c =
    let known = c.args.known.now in
    subst (λ (n : ℕ). c.loop-f.out.items ≡ c.args.out.now.items ++ flat_map (line_of c.args.form c.args.names.now known (map literal_of c.args.decisions.now)) (features_known known c.args.value n))
    (reached c.loop-f.f c.len-count.result (length c.args.names.now) c.loop-f.auto.f-end c.loop-f-test.false c.len-count.ensures.len) c.loop-f.invariant
