use Rattle.std.proofs.Common.{rules, eq-eqb, refl, ℕ}
use Rattle.vpg_model.proofs.Search.{never_twice, stored_at, pairs_same, placed_grown}
use Rattle.vpg_model.proofs.building.place.Goals as goal

pub returns-clause-placed : goal.returns-clause-placed
returns-clause-placed c = record {
  grown = search rules;
  within = search rules;
  room = search rules;
  distinct = never_twice _ (λ p. rw (eq-eqb p.0 p.0 refl, eq-eqb p.1 p.1 refl) refl) _ c.insert_full.ensures.unique;
  stored = stored_at _ pairs_same c.insert_full.new.self.keys c.in-Ok.at c.args.pair c.in-Ok.ensures.stored;
}

pub returns-then-len-gt-MOST_VERTICES-clause-refused : goal.returns-then-len-gt-MOST_VERTICES-clause-refused
returns-then-len-gt-MOST_VERTICES-clause-refused c = record {
  grown = placed_grown c.args.pairs.now.keys c.insert_full.new.self.keys c.args.pair (search rules)
      (never_twice _ (λ (p : ℕ × ℕ). rw (eq-eqb p.0 p.0 refl, eq-eqb p.1 p.1 refl) refl) _ c.insert_full.ensures.unique);
  many = search rules;
}
