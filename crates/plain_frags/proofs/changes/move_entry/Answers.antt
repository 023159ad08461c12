use Rattle.plain_frags.proofs.Common.{ap, contents, dentry_cmp, leaves_kept, may_relocate, may_replace, moved_tabled, option_copied, sym, target_stays, without_cover, ◌∙◌}
use Rattle.std.specs.FinMap as map
use Rattle.plain_frags.proofs.changes.move_entry.Goals as goal

pub relocate_dir-requires-clause-may : goal.relocate_dir-requires-clause-may
relocate_dir-requires-clause-may c kinded = may_relocate (contents dentry_cmp c.args.entries.now) _ c.args.from.now c.args.to c.args.inode c.requires.tabled c.requires.may kinded

pub drop_dir-requires : goal.drop_dir-requires
drop_dir-requires c gone is kinded =
    rw c.relocate_dir.ensures.homes
    (may_replace (contents dentry_cmp c.args.entries.now) _ c.args.from.now c.args.to c.args.inode c.requires.tabled c.requires.may gone
    (sym (target_stays (contents dentry_cmp c.args.entries.now) _ c.args.from.now c.args.to c.args.inode c.requires.tabled c.requires.may)
    ∙ ap (λ m. map.get m c.args.to) (sym c.remove.ensures.removed)
    ∙ sym c.get.ensures
    ∙ is))

pub returns-clause-tabled : goal.returns-clause-tabled
returns-clause-tabled c =
    let found = c.get.ensures ∙ ap (λ m. map.get m c.args.to) c.remove.ensures.removed ∙ target_stays (contents dentry_cmp c.args.entries.now) _ c.args.from.now c.args.to c.args.inode c.requires.tabled c.requires.may in
    rw (c.insert.ensures.inserted, c.remove.ensures.removed, c.drop_dir.ensures.homes, c.relocate_dir.ensures.homes, found)
    (moved_tabled (contents dentry_cmp c.args.entries.now) _ c.args.from.now c.args.to c.args.inode c.requires.tabled c.requires.may)

pub returns-clause-leaves : goal.returns-clause-leaves
returns-clause-leaves c =
    let found = c.get.ensures ∙ ap (λ m. map.get m c.args.to) c.remove.ensures.removed ∙ target_stays (contents dentry_cmp c.args.entries.now) _ c.args.from.now c.args.to c.args.inode c.requires.tabled c.requires.may in
    leaves_kept (contents dentry_cmp c.args.entries.now) _ _ _ _ _ c.args.to _ (returns-clause-tabled c)
    c.requires.tabled.whole found c.drop_dir.ensures.homes (c.drop_dir.ensures.trees ∙ ap (λ t. without_cover t (option_copied c.get.result)) c.relocate_dir.ensures.trees)
