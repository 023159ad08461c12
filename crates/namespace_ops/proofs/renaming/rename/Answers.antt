use Rattle.namespace_ops.proofs.Common.{HasSpace, None, Tree, ap, directory_at, room_errno, rules, subst, sym, ◌∙◌}
use Rattle.std.specs.FinMap as map
use Rattle.namespace_ops.proofs.CheckedParts.{moved_checked, replaced_told}
use Rattle.namespace_ops.proofs.renaming.rename.Goals as goal

pub returns-clause-checked : goal.returns-clause-checked
returns-clause-checked g c n =
    let tree = g.F.Frags.content c.args.frags.now in
    let mid = c.in_ok-replaced.ensures.kept.tree ∙ c.in_ok-inode.ensures.kept.tree in
    let there = c.in_ok-replaced.ensures.found ∙ ap (λ (t : Tree). map.get t c.args.to.now) c.in_ok-inode.ensures.kept.tree in
    moved_checked tree _ _ _ n c.args.limit c.args.from.now c.args.to.now (c.args.at.now.0.at, c.args.at.now.1.at) _ _ _ c.in-Some.inode c.requires.from.at c.requires.to.at c.in_ok-source.ensures c.in_ok-target.ensures
    (sym c.in_ok-inode.ensures.found ∙ c.in-Some.is) (search rules) (search rules)
    (sym (replaced_told tree _ c.in-Some.inode c.args.to.now _ _ _ mid c.as_ref.ensures.value there c.replace_errno.ensures) ∙ c.in_default-replace_errno.is)
    (sym (c.room_errno.ensures.told tree c.requires.to.entries ∙ ap (room_errno c.args.limit tree c.args.from.now c.args.to.now) (c.as_ref-2.ensures.value ∙ there)) ∙ c.in_default-room_errno.is)
    (subst (HasSpace tree c.args.from.now c.args.to.now) (c.as_ref-2.ensures.value ∙ there) (c.room_errno.ensures.space tree c.requires.to.entries c.in_default-room_errno.is))
    (c.directory_of-gone.ensures ∙ ap directory_at (c.as_ref-3.ensures.value ∙ there)) c.requires.moves

pub returns-clause-kept : goal.returns-clause-kept
returns-clause-kept g c = record {
  tree = c.in_ok-replaced.ensures.kept.tree ∙ c.in_ok-inode.ensures.kept.tree;
  leaves = c.in_ok-replaced.ensures.kept.leaves ∙ c.in_ok-inode.ensures.kept.leaves;
  follows = g.met.F.Frags.follows_on _ _ _ c.args.op.now None c.in_ok-inode.ensures.kept.follows c.in_ok-replaced.ensures.kept.follows;
}
