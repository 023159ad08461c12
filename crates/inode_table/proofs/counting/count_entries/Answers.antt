-- One entry after the other is counted.
use Rattle.inode_table.proofs.Common.{DirTable, ap, arith, contents, dentry_cmp, is_dir_kind, is_known, one_more, refl, subst, sym, true, with_dir_pin, ◌∙◌, ◌≡◌}
use Rattle.std.specs.Prelude.{is_some}
use Rattle.std.specs.FinMap as map
use Rattle.inode_table.proofs.CountingLaws.{IsCountedTo, counted_all, counted_next, counted_none, next_few, next_known, next_listed}
use Rattle.inode_table.proofs.counting.count_entries.Goals as goal

pub loop-entry-init : goal.loop-entry-init
loop-entry-init c = record { counted = counted_none (contents dentry_cmp c.args.entries.now) c.iter-rest.result c.args.dirs.now.counts c.args.dirs.now.pins c.iter-rest.ensures c.requires.none; left = refl }

pub count_entry-requires-clause-known : goal.count_entry-requires-clause-known
count_entry-requires-clause-known c =
    subst (λ (t : DirTable). is_known t.homes c.in-Some.entry.now.0.dir.0 ≡ true) (sym c.loop-entry.invariant.left)
    (next_known (contents dentry_cmp c.args.entries.now) c.args.dirs.now.homes c.requires.tabled c.loop-entry.rest c.next.new.self c.in-Some.entry.now c.loop-entry.dirs.counts c.loop-entry.dirs.pins c.in-Some.ensures.steps c.loop-entry.invariant.counted)

pub count_entry-requires-clause-few : goal.count_entry-requires-clause-few
count_entry-requires-clause-few c =
    next_few (contents dentry_cmp c.args.entries.now) c.args.dirs.now.homes c.requires.tabled c.loop-entry.rest c.next.new.self c.in-Some.entry.now c.loop-entry.dirs.counts c.loop-entry.dirs.pins c.in-Some.ensures.steps c.loop-entry.invariant.counted
    (let len = c.len.ensures.len in let fits = c.len.type_inv in omega (arith, len, fits))

pub count_entry-requires-clause-listed : goal.count_entry-requires-clause-listed
count_entry-requires-clause-listed c =
    subst (λ (t : DirTable). is_dir_kind c.in-Some.entry.now.1.kind ≡ true → is_some (map.get t.homes c.in-Some.entry.now.1.ino.0) ≡ true) (sym c.loop-entry.invariant.left)
    (next_listed (contents dentry_cmp c.args.entries.now) c.args.dirs.now.homes c.requires.tabled c.loop-entry.rest c.next.new.self c.in-Some.entry.now c.loop-entry.dirs.counts c.loop-entry.dirs.pins c.in-Some.ensures.steps c.loop-entry.invariant.counted)

pub loop-entry-preserved : goal.loop-entry-preserved
loop-entry-preserved c = record {
  counted = subst (λ (t : DirTable). IsCountedTo (contents dentry_cmp c.args.entries.now) c.next.new.self t.counts t.pins) (sym c.count_entry.ensures)
      (counted_next (contents dentry_cmp c.args.entries.now) c.args.dirs.now.homes c.requires.tabled c.loop-entry.rest c.next.new.self c.in-Some.entry.now c.loop-entry.dirs.counts c.loop-entry.dirs.pins c.in-Some.ensures.steps c.loop-entry.invariant.counted);
  left = c.count_entry.ensures
      ∙ ap (λ (t : DirTable). record t { counts = one_more c.loop-entry.dirs.counts c.in-Some.entry.now.0.dir.0; pins = with_dir_pin c.loop-entry.dirs.pins c.in-Some.entry.now.1 }) c.loop-entry.invariant.left
      ∙ (λ i. record c.args.dirs.now { counts = ap (λ (t : DirTable). t.counts) (sym c.count_entry.ensures) i; pins = ap (λ (t : DirTable). t.pins) (sym c.count_entry.ensures) i });
}

pub returns-clause-counted : goal.returns-clause-counted
returns-clause-counted c = counted_all (contents dentry_cmp c.args.entries.now) c.loop-entry.rest c.loop-entry.dirs.counts c.loop-entry.dirs.pins c.in_default.ensures.steps.0 c.loop-entry.invariant.counted
