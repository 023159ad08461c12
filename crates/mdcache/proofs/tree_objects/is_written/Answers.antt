use Rattle.mdcache.proofs.Common.{List, None, Some, ap, eqb-true, header_at, length, page_at, sym, ℕ, ◌∙◌, ◌≡◌}
use Rattle.mdcache.proofs.EmptyLaws.{object_told, same_header}
use Rattle.mdcache.proofs.tree_objects.is_written.Goals as goal

pub returns-clause-so : goal.returns-clause-so
returns-clause-so g c = λ holds.
    let objects = g.S.Store.objects c.args.store.now in
    let header : c.args.header.now ≡ c.in-Some.bytes = sym (same_header c.as_slice.result.now c.args.header.now c.ne.result c.ne.ensures c.if-ne.false) ∙ c.as_slice.ensures in
    let is_header : Some c.args.header.now ≡ header_at objects c.args.name.now = ap (λ (h : List ℕ). Some h) header ∙ sym c.in-Some.is ∙ c.in_ok-bytes.ensures.found in
    let is_page : Some c.in-Some-2.page ≡ page_at objects c.args.name.now None 1 = sym c.in-Some-2.is ∙ c.in_ok-page.ensures.found ∙ ap (λ o. page_at o c.args.name.now None 1) c.in_ok-bytes.ensures.same in
    let none : length c.pairs.result.now ≡ 0 = eqb-true (length c.pairs.result.now) 0 (sym c.is_empty.ensures ∙ holds) in
    object_told objects c.args.name.now c.args.header.now c.in-Some-2.page is_header is_page (ap (λ (xs : List (List ℕ × List ℕ)). length xs) (sym c.pairs.ensures) ∙ none)
