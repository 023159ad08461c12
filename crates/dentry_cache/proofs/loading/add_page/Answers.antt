use Rattle.dentry_cache.proofs.Common.{added, ap, are_good, contents, key_cmp, sym, ◌∙◌, ◌≡◌}
use Rattle.dentry_cache.proofs.PageSteps.{off_left, page_end, page_left, page_off}
use Rattle.dentry_cache.proofs.loading.add_page.Goals as goal

pub returns-then-not-branch-clause-ended : goal.returns-then-not-branch-clause-ended
returns-then-not-branch-clause-ended c = λ pairs after is.
    let items : c.deref.result.now ≡ c.args.page.pairs = c.deref.ensures.value ∙ c.into_pairs-pairs.ensures in
    page_off c.args.frag pairs after c.args.page is (ap (are_good c.args.frag) (sym items) ∙ sym c.in_ok-add_pairs.ensures.good ∙ c.if-not-branch.true)

pub returns-then-not-branch-clause-left : goal.returns-then-not-branch-clause-left
returns-then-not-branch-clause-left c = λ pairs after is.
    let items : c.deref.result.now ≡ c.args.page.pairs = c.deref.ensures.value ∙ c.into_pairs-pairs.ensures in
    off_left c.args.frag pairs after c.args.page is (ap (are_good c.args.frag) (sym items) ∙ sym c.in_ok-add_pairs.ensures.good ∙ c.if-not-branch.true)

pub returns-clause-ended : goal.returns-clause-ended
returns-clause-ended c = λ pairs after is.
    let items : c.deref.result.now ≡ c.args.page.pairs = c.deref.ensures.value ∙ c.into_pairs-pairs.ensures in
    page_end c.args.frag pairs after c.args.page is (contents key_cmp c.args.names.now) (contents key_cmp c.add_pairs.new.names)
    (ap (are_good c.args.frag) (sym items) ∙ sym c.in_ok-add_pairs.ensures.good ∙ c.if-not-branch.false)
    (c.in_ok-add_pairs.ensures.added c.if-not-branch.false ∙ ap (added (contents key_cmp c.args.names.now)) items) c.end_of.result _ _ c.more-more.ensures c.into_pairs-pairs.ensures c.end_of.ensures

pub returns-clause-left : goal.returns-clause-left
returns-clause-left c = λ pairs after is.
    let items : c.deref.result.now ≡ c.args.page.pairs = c.deref.ensures.value ∙ c.into_pairs-pairs.ensures in
    page_left c.args.frag pairs after c.args.page is (contents key_cmp c.args.names.now) (contents key_cmp c.add_pairs.new.names)
    (ap (are_good c.args.frag) (sym items) ∙ sym c.in_ok-add_pairs.ensures.good ∙ c.if-not-branch.false)
    (c.in_ok-add_pairs.ensures.added c.if-not-branch.false ∙ ap (added (contents key_cmp c.args.names.now)) items) c.end_of.result _ _ c.more-more.ensures c.into_pairs-pairs.ensures c.end_of.ensures
