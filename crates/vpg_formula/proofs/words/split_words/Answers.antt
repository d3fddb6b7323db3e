use Rattle.std.proofs.Common.{◌≡◌, ◌+◌, ◌-◌, ◌∷◌, [], ℕ, length, ap, ◌∙◌, arith}
use Rattle.std.proofs.lemmas.List.{length-append}
use Rattle.vpg_formula.specs.Words.{words_of}
use Rattle.vpg_formula.proofs.Places.{places_more, words_more}
use Rattle.vpg_formula.proofs.words.split_words.Goals as goal

pub loop-word-preserved : goal.loop-word-preserved
loop-word-preserved c =
    let text = c.args.text.now in
    let rest = c.loop-word.rest.now in
    let word = c.in-Some.word in
    let behind = c.in-Some.behind.now in
    let at : ℕ = length text - length behind - length word.now in
    let one : length c.push.new.self.items ≡ length c.loop-word.words.items + 1 = ap length c.in_ok-push.ensures.items ∙ length-append c.loop-word.words.items (word ∷ []) in
    record {
      reads = words_more c.loop-word.words.items c.push.new.self.items word (words_of text) (words_of rest) (words_of behind) c.in_ok-push.ensures.items c.loop-word.invariant.reads c.in-Some.ensures.some;
      within = omega (arith, c.in-Some.ensures.shorter, c.loop-word.invariant.within);
      placed = places_more text c.loop-word.places.items c.push-in-Some.new.self.items rest behind (length c.loop-word.words.items) (length c.push.new.self.items) at c.loop-word.invariant.placed c.in_ok-push-2.ensures.items one c.in-Some.ensures.rest
          (omega (arith, c.in-Some.ensures.whole, c.in-Some.ensures.shorter, c.loop-word.invariant.within));
    }
