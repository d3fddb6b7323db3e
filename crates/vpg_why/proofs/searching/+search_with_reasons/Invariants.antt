use Rattle.vpg_why.proofs.searching.+search_with_reasons.Given as goal

abbrev pub decreases-search_with_reasons : goal.decreases-search_with_reasons
decreases-search_with_reasons l = l.depth
