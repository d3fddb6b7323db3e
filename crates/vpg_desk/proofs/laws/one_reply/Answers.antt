use Rattle.vpg_desk.specs.Desk.{family_of}
use Rattle.vpg_desk.proofs.Replies.{reply_one}
use Rattle.vpg_desk.proofs.laws.one_reply.Goals as goal

pub returns : goal.returns
returns c setting = reply_one (family_of setting)
