use denote.Enum.Bare.{sameb}
use Rattle.std.proofs.Common.{◌≡◌, ◌++◌, ℕ, Bool, length, refl, sym, ap, ◌∙◌, subst, append-nil}
use Rattle.std.specs.Global.{Vec}
use Rattle.std.specs.Prelude.{slice_index_or}
use Rattle.vpg_guards.specs.contracts.tri.Tri.{the_type}
use Rattle.vpg_guards.specs.declared.tri.Tri.{Tri}
use Rattle.vpg_guards.specs.declared.tri.Tri.TheVariants.{No, Unknown, Yes}
use Rattle.vpg_texts.specs.Text.{is_value, name_if, names_known}
use Rattle.vpg_texts.proofs.Pieces.{line_more, reached}
use Rattle.vpg_texts.proofs.text.names_known.Goals as goal
use Rattle.vpg_texts.proofs.text.names_known.Goals.{then-eq+in_ok-blank_name, else-eq}

-- the code compares as the definition does
same_value : (a b : Tri) → sameb the_type a b ≡ is_value a b
same_value No No = refl
same_value No Unknown = refl
same_value No Yes = refl
same_value Unknown No = refl
same_value Unknown Unknown = refl
same_value Unknown Yes = refl
same_value Yes No = refl
same_value Yes Unknown = refl
same_value Yes Yes = refl

pub loop-f-preserved : goal.loop-f-preserved
loop-f-preserved c =
    let names = c.args.names.now in
    let f = c.loop-f.f in
    let known = slice_index_or c.args.known.now f Unknown in
    let old = c.loop-f.out.items in
    let test = c.eq.ensures ∙ ap (λ (t : Tri). sameb the_type t c.args.value) c.value.ensures ∙ same_value known c.args.value in
    elim c.if-eq.branch [
      | then-eq+in_ok-blank_name w ↦
          line_more (λ (n : ℕ). names_known names c.args.known.now c.args.value n) f (name_if (is_value known c.args.value) names f) refl c.args.out.now.items old c.if-eq.out.items c.loop-f.invariant
          (ap (λ (v : Vec ℕ). v.items) w.out-is ∙ w.in_ok-blank_name.ensures ∙ ap (λ (b : Bool). old ++ name_if b names f) (sym w.if-eq.true ∙ test))
      | else-eq w ↦
          line_more (λ (n : ℕ). names_known names c.args.known.now c.args.value n) f (name_if (is_value known c.args.value) names f) refl c.args.out.now.items old c.if-eq.out.items c.loop-f.invariant
          (ap (λ (v : Vec ℕ). v.items) w.out-is ∙ sym (append-nil old) ∙ ap (λ (b : Bool). old ++ name_if b names f) (sym w.if-eq.false ∙ test))
    ]

pub returns : goal.returns
returns c =
    subst (λ (n : ℕ). c.loop-f.out.items ≡ c.args.out.now.items ++ names_known c.args.names.now c.args.known.now c.args.value n)
    (reached c.loop-f.f c.len-count.result (length c.args.names.now) c.loop-f.auto.f-end c.loop-f-test.false c.len-count.ensures.len) c.loop-f.invariant
