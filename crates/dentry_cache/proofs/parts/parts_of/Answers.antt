use Rattle.dentry_cache.proofs.Common.{NamedInode, all_kept, ap, arith, is_place, length, rows_left, shown_names, slice_index_or, suc, ◌∙◌, ◌≡◌}
use Rattle.std.specs.FinMap as map
use Rattle.dentry_cache.proofs.PartLaws.{first_roomy, numbered, ready, roomy_step}
use Rattle.dentry_cache.proofs.parts.parts_of.Goals as goal

pub loop-name-init : goal.loop-name-init
loop-name-init c =
    record {
      count = c.in_ok-items.ensures.count;
      each = λ i d within.
          first_roomy c.args.frag c.args.nb c.args.generation (map.entries (shown_names c.args.fragment.now)) (rows_left c.rows_after-rows.result) i (slice_index_or c.in_ok-items.items.items i d) (c.rows_after-rows.ensures ∙ all_kept (map.entries (shown_names c.args.fragment.now)))
          (c.in_ok-items.ensures.each i d within);
    }

pub loop-name-smaller : goal.loop-name-smaller
loop-name-smaller c =
    let one : length (rows_left c.loop-name.rows) ≡ suc (length (rows_left c.next_row.new.self)) = ap (length {A = NamedInode}) c.in-Some.ensures in
    omega (arith, one)

pub loop-name-preserved : goal.loop-name-preserved
loop-name-preserved c =
    record {
      count = c.grow.ensures.count ∙ c.loop-name.invariant.count;
      each = λ i d within.
          roomy_step c.args.frag c.args.nb c.args.generation (map.entries (shown_names c.args.fragment.now)) (rows_left c.loop-name.rows) (rows_left c.next_row.new.self) _ i (slice_index_or c.loop-name.items.items i d) (slice_index_or c.grow.new.parts.items i d)
          (is_place c.place_of.result i) c.in-Some.ensures (c.place_of.ensures i) (c.in_ok-grow.ensures.each i d (omega (arith, within, c.grow.ensures.count))) (c.loop-name.invariant.each i d (omega (arith, within, c.grow.ensures.count)));
    }

pub returns-clause-ready : goal.returns-clause-ready
returns-clause-ready c = ready c.args.frag c.args.nb c.args.generation (shown_names c.args.fragment.now) (rows_left c.loop-name.rows) c.loop-name.items.items c.in_default.ensures c.loop-name.invariant.each c.loop-name.invariant.count

pub returns-clause-numbered : goal.returns-clause-numbered
returns-clause-numbered c = numbered c.args.frag c.args.nb c.args.generation (shown_names c.args.fragment.now) (rows_left c.loop-name.rows) c.loop-name.items.items c.in_default.ensures c.loop-name.invariant.each
