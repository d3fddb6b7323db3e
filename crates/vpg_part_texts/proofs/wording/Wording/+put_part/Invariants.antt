use Rattle.vpg_part_texts.proofs.wording.Wording.+put_part.Given as goal

abbrev pub decreases-put_part : goal.decreases-put_part
decreases-put_part l = l.levels
