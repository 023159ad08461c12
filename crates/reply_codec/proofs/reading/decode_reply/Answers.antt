-- The reply that is read is the one that the bytes spell, where nothing follows.
use Rattle.reply_codec.proofs.Common.{None, Some, arith, length, nil_from_length, rules, ◌≡◌}
use Rattle.reply_codec.proofs.ReplyLaws.{decoded, more_spelled, none_spelled}
use Rattle.reply_codec.proofs.ValueLaws.{value_read}
use Rattle.reply_codec.proofs.reading.decode_reply.Goals as goal

pub returns-in_default : goal.returns-in_default
returns-in_default c =
    let spelled = none_spelled c.args.bytes.now (rw c.in_default.is at c.in_ok-reply.ensures.ok) in
    record { spelled = spelled; value = value_read c.args.bytes.now None spelled; memory = tt }

pub returns-then-not-is_empty : goal.returns-then-not-is_empty
returns-then-not-is_empty c =
    let spelled = more_spelled c.args.bytes.now c.in-Some.rest.now c.in-Some.reply (rw c.in-Some.is at c.in_ok-reply.ensures.ok) (λ nothing. search rules) in
    record { spelled = spelled; value = value_read c.args.bytes.now None spelled; memory = tt }

pub returns : goal.returns
returns c =
    let empty : length c.in-Some.rest.now ≡ 0 = search rules in
    let spelled = decoded c.args.bytes.now c.in-Some.rest.now c.in-Some.reply (λ i. omega (arith, c.type_inv.bytes i)) (rw c.in-Some.is at c.in_ok-reply.ensures.ok) (nil_from_length c.in-Some.rest.now empty) in
    record { spelled = spelled; value = value_read c.args.bytes.now (Some c.in-Some.reply) spelled; memory = tt }
