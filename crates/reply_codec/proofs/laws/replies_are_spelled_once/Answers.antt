use Rattle.reply_codec.proofs.ReplyLaws.{no_reply_begins_another, one_reply}
use Rattle.reply_codec.proofs.ValueLaws.{reads_reply}
use Rattle.reply_codec.proofs.laws.replies_are_spelled_once.Goals as goal

pub returns-clause-meaning : goal.returns-clause-meaning
returns-clause-meaning c = one_reply

pub returns-clause-ended : goal.returns-clause-ended
returns-clause-ended c = no_reply_begins_another

pub returns-clause-value : goal.returns-clause-value
returns-clause-value c = reads_reply
