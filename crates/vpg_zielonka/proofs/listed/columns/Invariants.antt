use Rattle.std.proofs.Common.{◌≡◌, Bool, map}
use Rattle.std.specs.Global.{Vec}
use Rattle.vpg_zielonka.specs.Words.{columns_of}
use Rattle.vpg_zielonka.proofs.listed.columns.Given as goal

abbrev pub invariant-loop-feature : goal.invariant-loop-feature
invariant-loop-feature l = l.columns.items ≡ columns_of (map (λ (p : Vec Bool). p.items) l.products) l.feature
