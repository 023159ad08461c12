use Rattle.subtree_map.proofs.Common.{false, sym, true, ◌∙◌, ◌≡◌}
use Rattle.subtree_map.proofs.Listed.{bound_here, listed_all, listed_first, listed_push, listed_skip}
use Rattle.subtree_map.proofs.ListsLaws.{on_err}
use Rattle.subtree_map.proofs.Rising.{rise_all, rise_first, rise_push, rise_skip}
use Rattle.subtree_map.proofs.subtrees.Subtrees.bounds.Goals as goal

pub loop-row-init : goal.loop-row-init
loop-row-init c =
    let all = c.into_iter-row-iterator.ensures.into_iter_gives ∙ c.iter-row-items.ensures in
    record {
      listed = listed_first c.args.self.now.roots c.args.dirs.now.homes c.args.dirs.now.trees (c.args.dir, c.args.frag) _ _ all c.new-bounds.ensures.items;
      rise = rise_first c.args.self.now.roots _ _ all c.new-bounds.ensures.items;
    }

pub loop-row-preserved-in-Continue-1 : goal.loop-row-preserved-in-Continue-1
loop-row-preserved-in-Continue-1 c = record {
  listed = listed_push c.args.self.now.roots c.args.dirs.now.homes c.args.dirs.now.trees (c.args.dir, c.args.frag) c.loop-row.row-iterator c.next.new.self c.in-Some.row c.loop-row.bounds.items c.in-Some.ensures.steps c.loop-row.invariant.listed
      _ c.in_ok-push.ensures.items (c.is_next_below.ensures.0 c.if-is_next_below.true);
  rise = rise_push c.loop-row.row-iterator c.next.new.self c.in-Some.row c.loop-row.bounds.items c.in-Some.ensures.steps c.loop-row.invariant.rise _ c.in_ok-push.ensures.items;
}

pub loop-row-preserved : goal.loop-row-preserved
loop-row-preserved c = record {
  listed = listed_skip c.args.self.now.roots c.args.dirs.now.homes c.args.dirs.now.trees (c.args.dir, c.args.frag) c.loop-row.row-iterator c.next.new.self c.in-Some.row c.loop-row.bounds.items c.in-Some.ensures.steps c.loop-row.invariant.listed
      (λ below. let clash : true ≡ false = sym (c.is_next_below.ensures.1 below) ∙ c.if-is_next_below.false in cc);
  rise = rise_skip c.loop-row.row-iterator c.next.new.self c.in-Some.row c.loop-row.bounds.items c.in-Some.ensures.steps c.loop-row.invariant.rise;
}

pub returns : goal.returns
returns c = record {
  bounds = listed_all c.args.self.now.roots c.args.dirs.now.homes c.args.dirs.now.trees (c.args.dir, c.args.frag) c.loop-row.row-iterator c.loop-row.bounds.items c.in-None.ensures.steps.0 c.loop-row.invariant.listed;
  order = rise_all c.loop-row.row-iterator c.loop-row.bounds.items c.in-None.ensures.steps.0 c.loop-row.invariant.rise;
  memory = tt;
}

pub returns-in_err-push-clause-memory : goal.returns-in_err-push-clause-memory
returns-in_err-push-clause-memory c =
    on_err c.from_residual.result (
      c.in-Some.row.0,
      bound_here c.args.self.now.roots c.args.dirs.now.homes c.args.dirs.now.trees (c.args.dir, c.args.frag) c.loop-row.row-iterator c.next.new.self c.in-Some.row c.loop-row.bounds.items c.in-Some.ensures.steps c.loop-row.invariant.listed
          (c.is_next_below.ensures.0 c.if-is_next_below.true),
    )
