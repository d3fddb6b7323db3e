-- The code's form of a line, as a form.
use Rattle.std.specs.Prelude.{ℕ, List, map}
use Rattle.std.specs.Borrow.{Bor}
use Rattle.std.specs.Str.Parse.{digits_value}
use Rattle.vpg_diagram.specs.DiagramText.{Form, RootLine, MandatoryLine, OptionalLine, AlternativeLine, OrLine, GroupLine, RequiresLine, ExcludesLine}
use Rattle.vpg_diagram.specs.declared.text.LineForm.{LineForm}
use Rattle.vpg_diagram.specs.declared.text.LineForm.TheVariants.{Root, Mandatory, Optional, Alternative, Or, Group, Requires, Excludes}

abbrev pub texts : List (Bor (List ℕ)) → List (List ℕ)
texts words = map (λ w. w.now) words

abbrev pub view_form : LineForm → Form
view_form (Root r) = RootLine r.now
view_form (Mandatory p c) = MandatoryLine p.now c.now
view_form (Optional p c) = OptionalLine p.now c.now
view_form (Alternative p cs) = AlternativeLine p.now (texts cs.items)
view_form (Or p cs) = OrLine p.now (texts cs.items)
view_form (Group p low high cs) = GroupLine p.now (digits_value 10 low.now) (digits_value 10 high.now) (texts cs.items)
view_form (Requires a b) = RequiresLine a.now b.now
view_form (Excludes a b) = ExcludesLine a.now b.now
