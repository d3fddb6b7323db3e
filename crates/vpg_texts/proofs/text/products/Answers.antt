use Rattle.std.proofs.Common.{codes}
use Rattle.vpg_guards.specs.declared.tri.Tri.TheVariants.{No, Unknown, Yes}
use Rattle.vpg_texts.specs.Text.{products_line}
use Rattle.vpg_texts.proofs.Counted.{three_parts}
use Rattle.vpg_texts.proofs.Shown.{on_ok}
use Rattle.vpg_texts.proofs.text.products.Goals as goal

pub returns : goal.returns
returns c =
    let names = c.args.names.now in
    let known = c.args.known.now in
    on_ok c.products_line-3.result _ _
    (λ last. three_parts c.args.out.now.items c.products_line.new.out.items c.products_line-2.new.out.items c.products_line-3.new.out.items
    (products_line (codes "in") names known Yes) (products_line (codes "out") names known No) (products_line (codes "open") names known Unknown)
    c.in_ok-products_line.ensures c.in_ok-products_line-2.ensures last) c.products_line-3.ensures
