-- The forms of a configuration's file.
use Rattle.std.specs.Prelude.{ℕ, nat_eq, if◌then◌else◌, List, codes}
use Rattle.std.specs.List.{ends_with}
use Rattle.vpg_configuration.specs.declared.form.ConfigurationForm.{ConfigurationForm}
use Rattle.vpg_configuration.specs.declared.form.ConfigurationForm.TheVariants as forms

-- the form of a file with this name: XML if the name ends in `.xml`, and else names
abbrev pub form_of : List ℕ → ConfigurationForm
form_of name = if ends_with nat_eq name (codes ".xml") then forms.Xml else forms.Names
