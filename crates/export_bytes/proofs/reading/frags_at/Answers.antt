-- One item more is read.
use Rattle.export_bytes.proofs.Common.{Some, [], arith, length, length-append, on_err, rules, sent_frag_at, ◌++◌, ◌<◌, ◌∷◌, ◌≡◌, ◌≤◌}
use Rattle.export_bytes.proofs.Items.{one_more}
use Rattle.export_bytes.proofs.Taken.{head_of_frag}
use Rattle.export_bytes.proofs.reading.frags_at.Goals as goal

pub frags-preserved : goal.frags-preserved
frags-preserved c =
    let read : sent_frag_at c.frags.rest.now ≡ Some (c.in-Some.frag, c.in-Some.after.now) = rw c.in-Some.is at c.in_ok-frag.ensures.frag in
    let less : length c.frags.frags.items < c.args.count = search rules in
    let few : length (c.frags.frags.items ++ c.in-Some.frag ∷ []) ≤ c.args.count = omega (arith, length-append c.frags.frags.items (c.in-Some.frag ∷ [])) in
    rw c.in_ok-push.ensures.items (record {
      few = few;
      parts = one_more sent_frag_at c.args.count _ c.frags.frags.items c.frags.rest.now c.in-Some.after.now c.in-Some.frag less read c.frags.invariant.parts;
      first = λ _. c.frags.invariant.first (head_of_frag c.frags.rest.now c.in-Some.frag c.in-Some.after.now read);
    })

-- memory for it is taken where its head stood
pub returns-in_err-push-clause-memory : goal.returns-in_err-push-clause-memory
returns-in_err-push-clause-memory c =
    let read : sent_frag_at c.frags.rest.now ≡ Some (c.in-Some.frag, c.in-Some.after.now) = rw c.in-Some.is at c.in_ok-frag.ensures.frag in
    on_err c.from_residual-in_err-push.result (c.frags.invariant.first (head_of_frag c.frags.rest.now c.in-Some.frag c.in-Some.after.now read))
