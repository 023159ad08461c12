use Rattle.mdcache.proofs.Common.{List, MatchOption, Some, SpellsTree, ap, leaves_of, length, subst, ℕ, ◌<◌, ◌∙◌}
use Rattle.std.specs.FinMap as map
use Rattle.mdcache.proofs.EmptyLaws.{written_already}
use Rattle.mdcache.proofs.tree_objects.save_tree.Goals as goal

pub returns-in-Ok-true-clause-saved : goal.returns-in-Ok-true-clause-saved
returns-in-Ok-true-clause-saved g c =
    let spells : SpellsTree c.in-Some.header.items (leaves_of c.args.dirs.now.trees c.args.dir.0) = subst (λ o. MatchOption o (length (leaves_of c.args.dirs.now.trees c.args.dir.0) < 2) (λ bytes. SpellsTree bytes.items (leaves_of c.args.dirs.now.trees c.args.dir.0))) c.in-Some.is c.in_ok-header.ensures in
    written_already (g.S.Store.objects c.args.store.now) (g.S.Store.objects c.is_written.new.store) c.args.name.now c.in-Some.header.items (leaves_of c.args.dirs.now.trees c.args.dir.0) spells.spelled spells.several
    (c.in-Ok-true.ensures.so c.in-Ok-true.field-0-test ∙ ap (λ (h : List ℕ). Some (record { header = h; pairs = map.empty })) c.deref.ensures.value) c.is_written.ensures.same
