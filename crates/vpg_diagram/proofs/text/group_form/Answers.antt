use Rattle.std.proofs.Common.{◌≡◌, ℕ, ◌<◌, ◌≤◌, List, [], ◌∷◌, length, get_or, Option, Bor, arith}
use Rattle.vpg_diagram.specs.DiagramReading.{group_form}
use Rattle.vpg_diagram.specs.DiagramText.{Form}
use Rattle.vpg_diagram.specs.FormView.{texts}
use Rattle.vpg_diagram.proofs.FormCode.{group_short, group_three, group_long}
use Rattle.vpg_diagram.proofs.text.group_form.Goals as goal

pub returns-in-empty : goal.returns-in-empty
returns-in-empty c = group_short c.args.head.now c.args.members.items c.in-empty.len_below

pub returns-in-len3 : goal.returns-in-len3
returns-in-len3 c = group_three c.args.head.now c.args.members.items c.in-len3.len_at_least c.in-len3.len_below

pub returns : goal.returns
returns c = group_long c.args.head.now c.args.members.items c.in-len5-up.len_at_least

two_words : (hs ms : List (Bor (List ℕ))) (a b : Bor (List ℕ)) (r : Option Form) → 2 ≤ length hs → length hs < 3 →
    r ≡ group_form ((get_or hs 0 a).now ∷ (get_or hs 1 b).now ∷ []) (texts ms) → r ≡ group_form (texts hs) (texts ms)
two_words [] ms a b r k l e = absurd (omega arith)
two_words (x ∷ []) ms a b r k l e = absurd (omega arith)
two_words (x ∷ y ∷ []) ms a b r k l e = e
two_words (x ∷ y ∷ z ∷ zs) ms a b r k l e = absurd (omega arith)

pub returns-in-len2 : goal.returns-in-len2
returns-in-len2 c = two_words c.args.head.now c.args.members.items _ _ _ c.in-len2.len_at_least c.in-len2.len_below c.members_form.ensures

four_words : (hs ms : List (Bor (List ℕ))) (a b i j : Bor (List ℕ)) (r : Option Form) → 4 ≤ length hs → length hs < 5 →
    r ≡ group_form ((get_or hs 0 a).now ∷ (get_or hs 1 b).now ∷ (get_or hs 2 i).now ∷ (get_or hs 3 j).now ∷ []) (texts ms) → r ≡ group_form (texts hs) (texts ms)
four_words [] ms a b i j r k l e = absurd (omega arith)
four_words (w ∷ []) ms a b i j r k l e = absurd (omega arith)
four_words (w ∷ x ∷ []) ms a b i j r k l e = absurd (omega arith)
four_words (w ∷ x ∷ y ∷ []) ms a b i j r k l e = absurd (omega arith)
four_words (w ∷ x ∷ y ∷ z ∷ []) ms a b i j r k l e = e
four_words (w ∷ x ∷ y ∷ z ∷ v ∷ vs) ms a b i j r k l e = absurd (omega arith)

pub returns-in-len4 : goal.returns-in-len4
returns-in-len4 c = four_words c.args.head.now c.args.members.items _ _ _ _ _ c.in-len4.len_at_least c.in-len4.len_below c.range_form.ensures
