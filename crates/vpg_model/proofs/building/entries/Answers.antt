use Rattle.std.proofs.Common.{ℕ, ◌≡◌, length, arith, subst, ◌∙◌, vec_len, rules}
use Rattle.vpg_model.specs.Searching.{IsPairAt, IsNewEntry}
use Rattle.vpg_model.proofs.Search.{searched_none, searched_more, entry_refused}
use Rattle.std.proofs.lemmas.Result.{err_from_is_err_and}
use Rattle.vpg_model.proofs.building.entries.Goals as goal

pub loop-pair-init : goal.loop-pair-init
loop-pair-init c = record { few = omega arith; searched = searched_none _ _ _ _ _ c.new-entries.ensures.items c.requires.small c.requires.distinct }

pub loop-pair-preserved : goal.loop-pair-preserved
loop-pair-preserved c =
    let l = c.loop-pair in
    let count : vec_len l.entries ≡ length l.entries.items = search rules in record {
      few = c.in_ok-entry.ensures.few;
      searched = searched_more _ _ _ _ _ _ _ _ _ _ _ _ l.invariant.searched (subst (λ (n : ℕ). IsPairAt l.pairs.keys n c.in-Some.pair) (c.len.ensures ∙ count) c.in-Some.ensures.found)
          (subst (λ (n : ℕ). IsNewEntry c.args.source.now.states.items c.args.source.now.sets.items c.args.source.now.parts.items l.pairs.keys c.entry.new.pairs.keys c.in-Some.pair n c.in_ok-entry.entry) (c.len-at.ensures ∙ count) c.in_ok-entry.ensures.entry)
          c.in_ok-entry.ensures.counted c.in_ok-push.ensures.items;
    }

pub returns-in_err-entry-clause-refused : goal.returns-in_err-entry-clause-refused
returns-in_err-entry-clause-refused c =
    let l = c.loop-pair in
    let p = err_from_is_err_and c.from_residual.result c.from_residual.ensures.1 in
    rw (p.1, p.2) (entry_refused c.args.source.now.states.items c.args.source.now.sets.items c.args.source.now.parts.items c.args.pairs.now.keys l.pairs.keys c.entry.new.pairs.keys l.entries.items l.count c.in-Some.pair c.in_err-entry.field-0.0
    l.invariant.searched (subst (λ (n : ℕ). IsPairAt l.pairs.keys n c.in-Some.pair) (c.len.ensures ∙ (let e : vec_len l.entries ≡ length l.entries.items = search rules in e)) c.in-Some.ensures.found) c.in_err-entry.ensures.refused)
