use Rattle.std.proofs.lemmas.Grind.{common_steps}
use Rattle.std.proofs.Common.{◌≡◌, ◌<◌, List, ℕ, ◌++◌, ◌∷◌, [], length, map, sym, ap, subst, ◌∙◌, string_bytes, arith}
use Rattle.vpg_features.specs.Names.{Lacks, IsNew}
use Rattle.vpg_features.proofs.Held.{name_is_text, names_more, inserted}
use Rattle.vpg_features.proofs.names.Names.add.Goals as goal

pub returns-in_default-from_utf8-clause-refused : goal.returns-in_default-from_utf8-clause-refused
returns-in_default-from_utf8-clause-refused c is = c.in_default-from_utf8.ensures.cases.0 (name_is_text _ is)

is_new : (c : goal.In-Ok-insert) → IsNew c.args.self.now c.args.name.now × (length c.args.self.now < 512)
is_new c = (record { is_name = grind arith; absent = λ i e. c.in_default.not-Some i (c.get.ensures.held i e) }, omega (arith, c.len-index.ensures.names.few))

-- the names with the new one
one_more : (c : goal.In-Ok-insert) → map string_bytes c.insert.new.self.keys ≡ map string_bytes c.self.inside.set.keys ++ c.args.name.now ∷ []
one_more c =
    let keys = c.self.inside.set.keys in
    let lacks : Lacks (map string_bytes keys) c.args.name.now = subst (λ (ns : List (List ℕ)). Lacks ns c.args.name.now) (sym c.self.view_is) (is_new c).0.absent in
    ap (map string_bytes) c.in-Ok-insert.ensures.keys ∙ inserted string_bytes keys c.in-Ok-from_str.text c.args.name.now (c.in-Ok-from_str.ensures.ok ∙ c.in-Ok.ensures.cases.0) lacks

pub invariant_of-self-2 : goal.invariant_of-self-2
invariant_of-self-2 c =
    let new = subst (λ (ns : List (List ℕ)). IsNew ns c.args.name.now × (length ns < 512)) (sym c.self.view_is) (is_new c) in
    rw (one_more c) (names_more _ _ c.self.invariant new.0 new.1)

pub returns-clause-ok : goal.returns-clause-ok
returns-clause-ok c = (c.len-index.ensures.len, one_more c ∙ ap (λ (ns : List (List ℕ)). ns ++ c.args.name.now ∷ []) c.self.view_is)

pub invariant_of-self : goal.invariant_of-self
invariant_of-self c = grind (arith, common_steps)

pub returns-in_default-insert-clause-err : goal.returns-in_default-insert-clause-err
returns-in_default-insert-clause-err c = grind (arith, common_steps)

pub returns-in_default-insert-clause-refused : goal.returns-in_default-insert-clause-refused
returns-in_default-insert-clause-refused c = grind (arith, common_steps)

pub returns-clause-added : goal.returns-clause-added
returns-clause-added c = grind (arith, common_steps)

pub returns-in_default-from_str-clause-refused : goal.returns-in_default-from_str-clause-refused
returns-in_default-from_str-clause-refused c = grind (arith, common_steps)

pub overflow_cast-result : goal.overflow_cast-result
overflow_cast-result c = grind (arith, common_steps)

pub returns-then-index-eq-MOST_FEATURES-clause-refused : goal.returns-then-index-eq-MOST_FEATURES-clause-refused
returns-then-index-eq-MOST_FEATURES-clause-refused c = grind (arith, common_steps)

pub returns-then-not-is_feature_name-clause-refused : goal.returns-then-not-is_feature_name-clause-refused
returns-then-not-is_feature_name-clause-refused c = grind (arith, common_steps)

pub from_str-requires-text-s : goal.from_str-requires-text-s
from_str-requires-text-s c = grind (arith, common_steps)
