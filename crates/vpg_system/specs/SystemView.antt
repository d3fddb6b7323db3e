-- The code's values in the words of the definitions. This project's own.
use Rattle.std.specs.Prelude.{ℕ, List, map, Option, option_map}
use Rattle.std.specs.Borrow.{Bor}
use Rattle.std.specs.Str.Parse.{digits_value}
use Rattle.vpg_guards.specs.View.{formula_of}
use Rattle.vpg_system.specs.SystemText.{Transition, Header, Form}
use Rattle.vpg_system.specs.declared.transition.Transition as kept
use Rattle.vpg_system.specs.declared.form.LineForm.{LineForm}
use Rattle.vpg_system.specs.declared.form.HeaderForm.{HeaderForm}
use Rattle.vpg_system.specs.declared.form.Name.{Name}
use Rattle.vpg_system.specs.declared.reading.Header as code

-- a transition of the code, with its guard as a formula
abbrev pub transition_of : kept.Transition → Transition
transition_of t = record { source = t.source; action = t.action; guard = formula_of t.guard; target = t.target }

-- the transitions of the code, in order, with their guards as formulas
abbrev pub transitions_of : List kept.Transition → List Transition
transitions_of ts = map transition_of ts

-- the bytes of words
abbrev pub texts : List (Bor (List ℕ)) → List (List ℕ)
texts words = map (λ w. w.now) words

-- the bytes of a text, if there is one
abbrev pub text_in : Option (Bor (List ℕ)) → Option (List ℕ)
text_in o = option_map (λ w. w.now) o

-- the bytes of two texts, if they are there
abbrev pub pair_in : Option (Bor (List ℕ) × Bor (List ℕ)) → Option (List ℕ × List ℕ)
pair_in o = option_map (λ p. (p.0.now, p.1.now)) o

-- the form of a line
abbrev pub view_form : LineForm → Form
view_form f = record {
  source = digits_value 10 f.source.now;
  label = f.label.now;
  target = digits_value 10 f.target.now;
}

-- the header that a form is
abbrev pub view_header : HeaderForm → Header
view_header h = record {
  first = digits_value 10 h.first.now;
  count = digits_value 10 h.count.now;
  states = digits_value 10 h.states.now;
}

-- the name, and the text of a guard
abbrev pub view_name : Name → List ℕ × Option (List ℕ)
view_name n = (n.name.now, text_in n.guard)

-- the header
abbrev pub header_of : code.Header → Header
header_of h = record { first = h.first; count = h.count; states = h.states }
