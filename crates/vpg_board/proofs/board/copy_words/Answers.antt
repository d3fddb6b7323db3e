use Rattle.std.proofs.Common.{◌≡◌, sym, ap, ◌∙◌, ◌++◌, ◌∷◌, [], List, ℕ, take, drop, arith}
use Rattle.std.specs.Mem.Slots.{slots_items}
use Rattle.vpg_board.proofs.Atomic.{take_next}
use Rattle.vpg_board.proofs.board.copy_words.Goals as goal

pub loop-k-preserved : goal.loop-k-preserved
loop-k-preserved c =
    c.in_ok-push.ensures.items ∙ ap (λ (l : List ℕ). l ++ c.word.result ∷ []) c.loop-k.invariant ∙ sym (take_next (slots_items c.args.closed.now.words) c.args.from c.loop-k.k c.word.result c.word.ensures)

pub returns : goal.returns
returns c =
    let all : c.loop-k.k ≡ c.args.count = omega arith in
    c.loop-k.invariant ∙ ap (λ n. take n (drop c.args.from (slots_items c.args.closed.now.words))) all
