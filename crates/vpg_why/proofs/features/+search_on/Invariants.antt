use Rattle.vpg_why.proofs.features.+search_on.Given as goal

abbrev pub decreases-search_on : goal.decreases-search_on
decreases-search_on l = l.depth
