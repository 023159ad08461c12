-- What is collected of all jobs' encodings.
use Rattle.mdcache.proofs.Common.{AllZip, IsReadied, ap, min_len_base, subst, vec_items, ◌∙◌}
use Rattle.mdcache.proofs.EncodingLaws.{all_encoded, refused_for_memory}
use Rattle.mdcache.proofs.batches.encode_each.Goals as goal

pub returns : goal.returns
returns g c =
    let collected = c.in_ok-collect.ensures in
    let base = ap (λ it. vec_items (min_len_base it)) c.map.ensures.base ∙ ap (λ it. vec_items it) c.with_min_len.ensures.base in
    let each = subst (λ bs. AllZip IsReadied bs collected.0) (collected.1.1 ∙ base ∙ c.into_par_iter.ensures) collected.1.2 in
    let encoded = all_encoded c.args.begun.items collected.0 c.in_ok-collect.field-0 each collected.2 in
    record { encoded = encoded; refused = refused_for_memory c.args.begun.items collected.0 c.in_ok-collect.field-0 each collected.2 }
