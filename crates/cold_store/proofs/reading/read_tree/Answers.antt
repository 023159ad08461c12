use Rattle.cold_store.proofs.Common.{Damaged, None, Some, ap, subst, tree_object_of, ◌∙◌, ◌≡◌}
use Rattle.std.proofs.lemmas.Result.{err_from_is_err_and}
use Rattle.mds_types.specs.declared.object_names.ObjName.TheVariants.{Tree as TreeOf}
use Rattle.objstore.specs.Objects.{header_at}
use Rattle.dirfrag_codec.specs.Values.{tree_of_bytes as leaves_spelled}
use Rattle.cold_store.proofs.CallSteps.{all_one, all_two, behind_one, first_refused, good_tree, no_tree, off_tree}
use Rattle.dentry_cache.proofs.CallLaws.{damaged_not, none_not, told_then}
use Rattle.cold_store.proofs.reading.read_tree.Goals as goal

pub returns-in_err-header-clause-called : goal.returns-in_err-header-clause-called
returns-in_err-header-clause-called g c =
    let p = err_from_is_err_and c.from_residual.result c.from_residual.ensures.1 in
    rw (p.1, p.2) (first_refused g.S.Store.IsCall _ _ _ c.in_err-header.field-0.0 c.in_err-header.ensures.called)

pub returns-in_default-clause-called : goal.returns-in_default-clause-called
returns-in_default-clause-called g c =
    let named = c.as_str-name.ensures ∙ c.of-text.ensures in
    all_one g.S.Store.IsCall _ _ _ None
    (no_tree (tree_object_of (g.S.Store.objects c.args.store.now) c.args.dir) (subst (λ n. None ≡ header_at (g.S.Store.objects c.args.store.now) n) named (rw c.in_default.is at c.in_ok-header.ensures.found)))
    none_not c.in_ok-header.ensures.called

pub returns-in_err-tree-clause-called : goal.returns-in_err-tree-clause-called
returns-in_err-tree-clause-called g c =
    let p = err_from_is_err_and c.from_residual-in_err-tree.result c.from_residual-in_err-tree.ensures.1 in
    rw (p.1, p.2) (behind_one g.S.Store.IsCall _ _ _ c.in_ok-header.ensures.called)

pub returns-in_default-2-clause-called : goal.returns-in_default-2-clause-called
returns-in_default-2-clause-called g c =
    let named = c.as_str-name.ensures ∙ c.of-text.ensures in
    all_one g.S.Store.IsCall _ _ _ (Some (Damaged (TreeOf c.args.dir)))
    (off_tree (tree_object_of (g.S.Store.objects c.args.store.now) c.args.dir) c.in-Some.header (subst (λ n. Some c.in-Some.header ≡ header_at (g.S.Store.objects c.args.store.now) n) named (rw c.in-Some.is at c.in_ok-header.ensures.found))
    ((rw c.in_default-2.is at c.in_ok-tree.ensures.value) ∙ ap leaves_spelled c.as_slice.ensures))
    (damaged_not (TreeOf c.args.dir)) c.in_ok-header.ensures.called

pub returns-in_err-has_pairs-clause-called : goal.returns-in_err-has_pairs-clause-called
returns-in_err-has_pairs-clause-called g c =
    let named = c.as_str-name.ensures ∙ c.of-text.ensures in
    let p = err_from_is_err_and c.from_residual-in_err-has_pairs.result c.from_residual-in_err-has_pairs.ensures.1 in
    rw (p.1, p.2) (all_two g.S.Store.IsCall _ _ _ _ (Some c.in_err-has_pairs.field-0.0)
    (good_tree (tree_object_of (g.S.Store.objects c.args.store.now) c.args.dir) c.in-Some.header c.in-Some-2.tree (subst (λ n. Some c.in-Some.header ≡ header_at (g.S.Store.objects c.args.store.now) n) named (rw c.in-Some.is at c.in_ok-header.ensures.found))
    ((rw c.in-Some-2.is at c.in_ok-tree.ensures.value) ∙ ap leaves_spelled c.as_slice.ensures))
    c.in_ok-header.ensures.called c.in_err-has_pairs.ensures.called)

pub returns-then-branch-clause-called : goal.returns-then-branch-clause-called
returns-then-branch-clause-called g c =
    let named = c.as_str-name.ensures ∙ c.of-text.ensures in
    all_two g.S.Store.IsCall _ _ _ _ (Some (Damaged (TreeOf c.args.dir)))
    (good_tree (tree_object_of (g.S.Store.objects c.args.store.now) c.args.dir) c.in-Some.header c.in-Some-2.tree (subst (λ n. Some c.in-Some.header ≡ header_at (g.S.Store.objects c.args.store.now) n) named (rw c.in-Some.is at c.in_ok-header.ensures.found))
    ((rw c.in-Some-2.is at c.in_ok-tree.ensures.value) ∙ ap leaves_spelled c.as_slice.ensures))
    c.in_ok-header.ensures.called (told_then g.S.Store.IsCall 1 _ _ (Some (Damaged (TreeOf c.args.dir))) (damaged_not (TreeOf c.args.dir)) c.in_ok-has_pairs.ensures.called)

pub returns-clause-called : goal.returns-clause-called
returns-clause-called g c =
    let named = c.as_str-name.ensures ∙ c.of-text.ensures in
    all_two g.S.Store.IsCall _ _ _ _ None
    (good_tree (tree_object_of (g.S.Store.objects c.args.store.now) c.args.dir) c.in-Some.header c.in-Some-2.tree (subst (λ n. Some c.in-Some.header ≡ header_at (g.S.Store.objects c.args.store.now) n) named (rw c.in-Some.is at c.in_ok-header.ensures.found))
    ((rw c.in-Some-2.is at c.in_ok-tree.ensures.value) ∙ ap leaves_spelled c.as_slice.ensures))
    c.in_ok-header.ensures.called c.in_ok-has_pairs.ensures.called
