use Rattle.std.proofs.Common.{ℕ, List, map, length}
use Rattle.vpg_guards.specs.declared.tri.Tri.{Tri}
use Rattle.vpg_guards.specs.declared.tri.Tri.TheVariants.{No, Unknown, Yes}
use Rattle.vpg_partial.specs.Known.{literal_of}
use Rattle.vpg_configuration.specs.Exports.{features_known, setting_of}
use Rattle.vpg_configuration.proofs.Documented.{document_grows}
use Rattle.vpg_configuration.proofs.exporting.put_document.Goals as goal

pub returns : goal.returns
returns c =
    let names = c.args.names.now in
    let known : Tri → List ℕ = λ (value : Tri). features_known c.args.known.now value (length names) in
    document_grows (setting_of names c.args.known.now (map literal_of c.args.decisions.now)) (known Yes) (known No) (known Unknown) c.args.out.now.items
    c.in_ok-extend_from_slice.ensures.items c.in_ok-put_lines.ensures c.in_ok-put_lines-2.ensures c.in_ok-put_lines-3.ensures c.in_ok-extend_from_slice-2.ensures.items
