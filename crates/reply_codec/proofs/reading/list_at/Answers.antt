-- One name more is read.
use Rattle.reply_codec.proofs.Common.{Some, [], arith, length, length-append, listed_at, rules, ◌++◌, ◌<◌, ◌∷◌, ◌≡◌, ◌≤◌}
use Rattle.reply_codec.proofs.Items.{one_more}
use Rattle.reply_codec.proofs.reading.list_at.Goals as goal

pub names-preserved : goal.names-preserved
names-preserved c =
    let read : listed_at c.names.rest.now ≡ Some (c.in-Some.entry, c.in-Some.after.now) = rw c.in-Some.is at c.in_ok-entry.ensures in
    let less : length c.names.list.items < c.args.count = search rules in
    let few : length (c.names.list.items ++ c.in-Some.entry ∷ []) ≤ c.args.count = omega (arith, length-append c.names.list.items (c.in-Some.entry ∷ [])) in
    rw c.in_ok-push.ensures.items (record {
      few = few;
      parts = one_more c.args.count _ c.names.list.items c.names.rest.now c.in-Some.after.now c.in-Some.entry less read c.names.invariant.parts;
    })
