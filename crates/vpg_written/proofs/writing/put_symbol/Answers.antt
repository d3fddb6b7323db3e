use Rattle.std.proofs.Common.{List, ◌∷◌, reverse, sym, subst}
use Rattle.vpg_written.proofs.Filling.{symbol_in_front}
use Rattle.vpg_written.specs.Tasks.{Fill}
use Rattle.vpg_written.specs.declared.task.Item.{Item}
use Rattle.vpg_written.proofs.writing.put_symbol.Goals as goal

pub returns : goal.returns
returns c = λ g fs hs f opens rest. subst (λ (is : List Item). Fill g (f ∷ fs) (reverse is)) (sym c.in_ok-push.ensures.items) (symbol_in_front g c.args.items.now.items c.args.symbol f hs fs opens rest)
