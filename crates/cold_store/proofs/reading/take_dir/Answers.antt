use Rattle.cold_store.proofs.Common.{AreGoodLeaves, Fragment, IsBadAmong, IsGoodTree, List, Objects, Walked, NoMemory, Some, ap, arith, inl, inr, rows_under, subst, tree_object_of, with_cover, with_rows, ◌∙◌}
use Rattle.std.proofs.lemmas.Result.{err_from_is_err_and}
use Rattle.std.specs.Result.{result_err}
use Rattle.dentry_cache.proofs.CallLaws.{memory_not, some_not, told_then}
use Rattle.cold_store.specs.Calls.{AreLeafCalls, calls_for_tree}
use Rattle.cold_store.proofs.CallSteps.{memory_tells, tells_no_other}
use Rattle.mds_types.specs.declared.object_names.ObjName.TheVariants.{Tree as TreeOf}
use Rattle.cold_store.proofs.ObjectLaws.{good_cover, good_leaves}
use Rattle.cold_store.proofs.Refusals.{err_then, ok_always, ok_then, widened}
use Rattle.cold_store.proofs.reading.take_dir.Goals as goal

pub returns-clause-good : goal.returns-clause-good
returns-clause-good g c =
    let objects = g.S.Store.objects c.args.store.now in
    let tree = c.in_ok-tree.ensures.good in
    let leaves = c.deref.ensures.value ∙ c.in_ok-leaves.ensures ∙ good_leaves (tree_object_of objects c.args.dir) c.in_ok-tree.tree tree in
    ok_then c.take_leaves.result
    (λ good. record {
      tree = subst (IsGoodTree (tree_object_of objects c.args.dir)) (good_cover (tree_object_of objects c.args.dir) c.in_ok-tree.tree tree) tree;
      leaves = subst (λ (ls : List Fragment). AreGoodLeaves objects c.args.found.now.shape c.args.dir ls) leaves
          (subst (λ (s : Walked). AreGoodLeaves objects s c.args.dir c.deref.result.now) c.keep_tree.ensures.shape
          (subst (λ (o : Objects). AreGoodLeaves o c.keep_tree.new.found.shape c.args.dir c.deref.result.now) c.in_ok-tree.ensures.same good));
    })
    c.take_leaves.ensures.good

pub returns-clause-added : goal.returns-clause-added
returns-clause-added g c =
    let objects = g.S.Store.objects c.args.store.now in
    let leaves = c.deref.ensures.value ∙ c.in_ok-leaves.ensures ∙ good_leaves (tree_object_of objects c.args.dir) c.in_ok-tree.tree c.in_ok-tree.ensures.good in
    ok_then c.take_leaves.result
    (λ is. is ∙ ap (λ (o : Objects). with_rows c.keep_tree.new.found.shape (rows_under o c.args.dir c.deref.result.now)) c.in_ok-tree.ensures.same
    ∙ ap (λ (s : Walked). with_rows s (rows_under objects c.args.dir c.deref.result.now)) c.keep_tree.ensures.shape
    ∙ ap (λ (ls : List Fragment). with_rows c.args.found.now.shape (rows_under objects c.args.dir ls)) leaves)
    c.take_leaves.ensures.added

pub returns-clause-covers : goal.returns-clause-covers
returns-clause-covers g c =
    let objects = g.S.Store.objects c.args.store.now in
    ok_always c.take_leaves.result
    (c.take_leaves.ensures.covers ∙ c.in_ok-keep_tree.ensures.covers ∙ ap (with_cover c.args.found.now.covers c.args.dir) (good_cover (tree_object_of objects c.args.dir) c.in_ok-tree.tree c.in_ok-tree.ensures.good))

pub returns-clause-refused : goal.returns-clause-refused
returns-clause-refused g c =
    let objects = g.S.Store.objects c.args.store.now in
    let tree = c.in_ok-tree.ensures.good in
    let leaves = c.deref.ensures.value ∙ c.in_ok-leaves.ensures ∙ good_leaves (tree_object_of objects c.args.dir) c.in_ok-tree.tree tree in
    let count = c.in_ok-tree.ensures.counted in
    err_then c.take_leaves.result
    (λ reason. widened (g.S.Store.faults c.read_tree.new.store) (g.S.Store.faults c.take_leaves.new.store) (g.S.Store.faults c.args.store.now) (g.S.Store.faults c.take_leaves.new.store) reason
    (λ rose. omega (arith, rose, count))
    (λ name bad. inr (
      subst (IsGoodTree (tree_object_of objects c.args.dir)) (good_cover (tree_object_of objects c.args.dir) c.in_ok-tree.tree tree) tree,
      subst (λ (ls : List Fragment). IsBadAmong objects c.args.found.now.shape c.args.dir ls name) leaves
          (subst (λ (s : Walked). IsBadAmong objects s c.args.dir c.deref.result.now name) c.keep_tree.ensures.shape
          (subst (λ (o : Objects). IsBadAmong o c.keep_tree.new.found.shape c.args.dir c.deref.result.now name) c.in_ok-tree.ensures.same bad)),
    )))
    c.take_leaves.ensures.refused

pub returns-in_err-tree-clause-called : goal.returns-in_err-tree-clause-called
returns-in_err-tree-clause-called g c =
    let p = err_from_is_err_and c.from_residual.result c.from_residual.ensures.1 in
    rw (p.1, p.2) (inl (some_not c.in_err-tree.field-0.0, tells_no_other _ (TreeOf c.args.dir) _ _ c.in_err-tree.field-0.0 c.in_err-tree.ensures.refused, c.in_err-tree.ensures.called))

pub returns-in_err-leaves-clause-called : goal.returns-in_err-leaves-clause-called
returns-in_err-leaves-clause-called g c =
    let p = err_from_is_err_and c.from_residual-in_err-leaves.result c.from_residual-in_err-leaves.ensures.1 in
    rw (p.1, p.2) (inl (some_not NoMemory, memory_tells (TreeOf c.args.dir), told_then g.S.Store.IsCall (calls_for_tree (tree_object_of (g.S.Store.objects c.args.store.now) c.args.dir)) _ _ (Some NoMemory) memory_not c.in_ok-tree.ensures.called))

pub returns-in_err-keep_tree-clause-called : goal.returns-in_err-keep_tree-clause-called
returns-in_err-keep_tree-clause-called g c =
    let p = err_from_is_err_and c.from_residual-in_err-keep_tree.result c.from_residual-in_err-keep_tree.ensures.1 in
    rw (p.1, p.2) (inl (some_not NoMemory, memory_tells (TreeOf c.args.dir), told_then g.S.Store.IsCall (calls_for_tree (tree_object_of (g.S.Store.objects c.args.store.now) c.args.dir)) _ _ (Some NoMemory) memory_not c.in_ok-tree.ensures.called))

pub returns-clause-called : goal.returns-clause-called
returns-clause-called g c =
    let objects = g.S.Store.objects c.args.store.now in
    let tree = c.in_ok-tree.ensures.good in
    let leaves = c.deref.ensures.value ∙ c.in_ok-leaves.ensures ∙ good_leaves (tree_object_of objects c.args.dir) c.in_ok-tree.tree tree in
    let told = result_err c.take_leaves.result in
    let end = c.take_leaves.new.store in
    inr (
      subst (IsGoodTree (tree_object_of objects c.args.dir)) (good_cover (tree_object_of objects c.args.dir) c.in_ok-tree.tree tree) tree,
      c.read_tree.new.store,
      c.in_ok-tree.ensures.called,
      subst (λ (ls : List Fragment). AreLeafCalls g.S.Store.IsCall objects c.args.found.now.shape c.args.dir ls c.read_tree.new.store told end) leaves
          (subst (λ (s : Walked). AreLeafCalls g.S.Store.IsCall objects s c.args.dir c.deref.result.now c.read_tree.new.store told end) c.keep_tree.ensures.shape
          (subst (λ (o : Objects). AreLeafCalls g.S.Store.IsCall o c.keep_tree.new.found.shape c.args.dir c.deref.result.now c.read_tree.new.store told end) c.in_ok-tree.ensures.same c.take_leaves.ensures.called)),
    )
