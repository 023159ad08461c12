-- One item more is read.
use Rattle.export_bytes.proofs.Common.{Some, [], arith, length, length-append, rules, sent_name_at, ◌++◌, ◌<◌, ◌∷◌, ◌≡◌, ◌≤◌}
use Rattle.export_bytes.proofs.Items.{one_more}
use Rattle.export_bytes.proofs.reading.names_at.Goals as goal

pub names-preserved : goal.names-preserved
names-preserved c =
    let read : sent_name_at c.names.rest.now ≡ Some (c.in-Some.name, c.in-Some.after.now) = rw c.in-Some.is at c.in_ok-name.ensures in
    let less : length c.names.names.items < c.args.count = search rules in
    let few : length (c.names.names.items ++ c.in-Some.name ∷ []) ≤ c.args.count = omega (arith, length-append c.names.names.items (c.in-Some.name ∷ [])) in
    rw c.in_ok-push.ensures.items (record {
      few = few;
      parts = one_more sent_name_at c.args.count _ c.names.names.items c.names.rest.now c.in-Some.after.now c.in-Some.name less read c.names.invariant.parts;
    })
