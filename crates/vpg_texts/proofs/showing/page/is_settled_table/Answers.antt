use Rattle.vpg_texts.proofs.showing.page.is_settled_table.Goals as goal

pub returns : goal.returns
returns c = rw (c.shape.ensures, c.arena.ensures) at c.is_progress.ensures
