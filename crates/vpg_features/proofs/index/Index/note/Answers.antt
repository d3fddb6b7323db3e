use Rattle.vpg_features.proofs.Noted.{noted_by}
use Rattle.vpg_features.proofs.index.Index.note.Goals as goal

pub returns : goal.returns
returns c = noted_by c.note.result c.args.self.now c.self.inside.rows.items c.args.number c.args.feature c.index_mut.result.now c.note.new.self c.self.view_is c.requires c.index_mut.ensures.value c.note.ensures
