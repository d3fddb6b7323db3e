use Rattle.std.proofs.Common.{◌≡◌, ◌+◌, ◌<◌, ◌≤◌, ◌∷◌, ◌++◌, [], ℕ, List, suc, length, ap, sym, ◌∙◌, arith}
use Rattle.vpg_features.proofs.Noted.{any_default}
use Rattle.vpg_formula.specs.Places.{place_of}
use Rattle.vpg_formula.specs.Words.{words_of}
use Rattle.vpg_formula.specs.ReadCode.{texts}
use Rattle.vpg_formula.specs.EntryCode.{words_in}
use Rattle.vpg_formula.specs.NamingCode.{region_of, depth_of}
use Rattle.vpg_formula.specs.ActionWords.{PlacedWord, is_of_actions, with_word, placed_words}
use Rattle.vpg_formula.proofs.NamingCode.{one_deeper}
use Rattle.vpg_formula.proofs.ActionWords.{one_word}
use Rattle.vpg_formula.proofs.acts.action_words.Goals as goal

pub loop-next-preserved : goal.loop-next-preserved
loop-next-preserved c =
    let word : List ℕ = c.in-Some.word.now in
    let behind : List (List ℕ) = texts c.in-Some.behind.now in
    let before : words_in c.loop-next.next ≡ word ∷ behind = ap words_in c.in-Some.is in
    let after : words_in c.split_first-next-in-Some.result ≡ behind = c.split_first-next-in-Some.ensures.words in
    let count : length (words_in c.loop-next.next) ≡ suc (length behind) = ap length before in
    let fewer : length (words_in c.split_first-next-in-Some.result) ≡ length behind = ap length after in
    let counted : c.loop-next.index + length (words_in c.loop-next.next) ≡ length (words_of c.args.text.now) = c.loop-next.invariant.counted in
    let deep : depth_of c.behind-region.result ≤ depth_of c.loop-next.region + 1 =
    one_deeper c.loop-next.region c.behind-region.result word c.behind-region.ensures.region in
    let less : c.loop-next.index < length c.in_ok-words.words.places.items = omega (arith, counted, count, c.in_ok-words.ensures.places.count) in
    record {
      counted = omega (arith, counted, count, fewer);
      deep = omega (arith, deep, count, fewer, c.loop-next.invariant.deep);
      reads = one_word c.args.text.now (region_of c.loop-next.region) (region_of c.behind-region.result) c.loop-next.index (c.loop-next.index + 1) word (words_in c.loop-next.next) behind (words_in c.split_first-next-in-Some.result)
          (placed_words c.loop-next.found.items) (placed_words c.put_word.new.out.items) _ before after (omega arith) c.behind-region.ensures.region
          (c.in_ok-put_word.ensures ∙ ap (λ (at : ℕ). placed_words c.loop-next.found.items ++ with_word (is_of_actions (region_of c.loop-next.region)) at word [])
          (c.index.ensures ∙ (any_default c.in_ok-words.words.places.items c.loop-next.index c.index.result.now 0 less ∙ c.in_ok-words.ensures.places.each c.loop-next.index less)))
          c.loop-next.invariant.reads;
    }
