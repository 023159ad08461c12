use Rattle.mdcache.proofs.Common.{NamedInode, arith, false, nat_tests, true, ◌-◌, ◌∙◌}
use Rattle.mdcache.proofs.PageLaws.{beyond_takes, kept_taken, placed_takes, set_takes}
use Rattle.mdcache.proofs.page.Page.take_row.Goals as goal

pub returns-in_ok-try_clone-in-Ok-clause-takes : goal.returns-in_ok-try_clone-in-Ok-clause-takes
returns-in_ok-try_clone-in-Ok-clause-takes c =
    (set_takes c.args.name.now c.args.inode.now c.self.inside.rows.items c.self.inside.more c.self.inside.max c.self.invariant c.args.self.now c.self.view_is
    c.deref.result.now c.set_inode.new.rows.items c.in-Ok.at c.in_ok-try_clone-in-Ok.field-0 c.deref.ensures.value c.in-Ok.ensures.place c.in_ok-try_clone-in-Ok.ensures c.set_inode.ensures).0

pub invariant_of-self-in-Ok : goal.invariant_of-self-in-Ok
invariant_of-self-in-Ok c =
    (set_takes c.args.name.now c.args.inode.now c.self.inside.rows.items c.self.inside.more c.self.inside.max c.self.invariant c.args.self.now c.self.view_is
    c.deref.result.now c.set_inode.new.rows.items c.in-Ok.at c.in_ok-try_clone-in-Ok.field-0 c.deref.ensures.value c.in-Ok.ensures.place c.in_ok-try_clone-in-Ok.ensures c.set_inode.ensures).1

pub returns-then-at-most-clause-takes : goal.returns-then-at-most-clause-takes
returns-then-at-most-clause-takes c =
    (beyond_takes c.args.name.now c.args.inode.now c.self.inside.rows.items c.self.inside.more c.self.inside.max c.self.invariant c.args.self.now c.self.view_is
    c.deref.result.now c.in-Err.at c.deref.ensures.value c.in-Err.ensures.place c.in-Err.ensures.within (grind (arith, nat_tests, c.if-at-most.true, c.from-most.ensures, c.entries.ensures.entries))).0

pub invariant_of-self-in_err-put_row-in-Err : goal.invariant_of-self-in_err-put_row-in-Err
invariant_of-self-in_err-put_row-in-Err c =
    kept_taken c.args.name.now c.args.inode.now c.self.inside.rows.items c.self.inside.more c.self.inside.max c.self.invariant c.args.self.now c.self.view_is
    (c.from-most.result - 1) c.put_row.new.rows.items c.in_err-put_row-in-Err.ensures.err

pub returns-then-branch-clause-takes : goal.returns-then-branch-clause-takes
returns-then-branch-clause-takes c =
    let row : NamedInode = (c.in_ok-try_clone-in-Err.field-0, c.in_ok-try_clone-in-Err-2.field-0) in
    (placed_takes c.args.name.now c.args.inode.now c.self.inside.rows.items c.self.inside.more c.self.inside.max c.self.invariant c.args.self.now c.self.view_is
    c.deref.result.now c.in-Err.at c.deref.ensures.value c.in-Err.ensures.place c.in-Err.ensures.within c.put_row.new.rows.items row c.from-most.result (λ i. (c.in_ok-try_clone-in-Err.ensures i, c.in_ok-try_clone-in-Err-2.ensures i))
    (c.from-most.ensures ∙ c.entries.ensures.entries) c.in_ok-put_row-in-Err.ensures.rows c.in_ok-put_row-in-Err.field-0 c.in_ok-put_row-in-Err.ensures.over true c.if-branch.true).0

pub invariant_of-self-then-branch : goal.invariant_of-self-then-branch
invariant_of-self-then-branch c =
    let row : NamedInode = (c.in_ok-try_clone-in-Err.field-0, c.in_ok-try_clone-in-Err-2.field-0) in
    (placed_takes c.args.name.now c.args.inode.now c.self.inside.rows.items c.self.inside.more c.self.inside.max c.self.invariant c.args.self.now c.self.view_is
    c.deref.result.now c.in-Err.at c.deref.ensures.value c.in-Err.ensures.place c.in-Err.ensures.within c.put_row.new.rows.items row c.from-most.result (λ i. (c.in_ok-try_clone-in-Err.ensures i, c.in_ok-try_clone-in-Err-2.ensures i))
    (c.from-most.ensures ∙ c.entries.ensures.entries) c.in_ok-put_row-in-Err.ensures.rows c.in_ok-put_row-in-Err.field-0 c.in_ok-put_row-in-Err.ensures.over true c.if-branch.true).1

pub returns-else-branch-clause-takes : goal.returns-else-branch-clause-takes
returns-else-branch-clause-takes c =
    let row : NamedInode = (c.in_ok-try_clone-in-Err.field-0, c.in_ok-try_clone-in-Err-2.field-0) in
    (placed_takes c.args.name.now c.args.inode.now c.self.inside.rows.items c.self.inside.more c.self.inside.max c.self.invariant c.args.self.now c.self.view_is
    c.deref.result.now c.in-Err.at c.deref.ensures.value c.in-Err.ensures.place c.in-Err.ensures.within c.put_row.new.rows.items row c.from-most.result (λ i. (c.in_ok-try_clone-in-Err.ensures i, c.in_ok-try_clone-in-Err-2.ensures i))
    (c.from-most.ensures ∙ c.entries.ensures.entries) c.in_ok-put_row-in-Err.ensures.rows c.in_ok-put_row-in-Err.field-0 c.in_ok-put_row-in-Err.ensures.over false c.if-branch.false).0

pub invariant_of-self-else-branch : goal.invariant_of-self-else-branch
invariant_of-self-else-branch c =
    let row : NamedInode = (c.in_ok-try_clone-in-Err.field-0, c.in_ok-try_clone-in-Err-2.field-0) in
    (placed_takes c.args.name.now c.args.inode.now c.self.inside.rows.items c.self.inside.more c.self.inside.max c.self.invariant c.args.self.now c.self.view_is
    c.deref.result.now c.in-Err.at c.deref.ensures.value c.in-Err.ensures.place c.in-Err.ensures.within c.put_row.new.rows.items row c.from-most.result (λ i. (c.in_ok-try_clone-in-Err.ensures i, c.in_ok-try_clone-in-Err-2.ensures i))
    (c.from-most.ensures ∙ c.entries.ensures.entries) c.in_ok-put_row-in-Err.ensures.rows c.in_ok-put_row-in-Err.field-0 c.in_ok-put_row-in-Err.ensures.over false c.if-branch.false).1
