use Rattle.export_regions.proofs.Common.{IsOfRegion, ap, clean_in, leaf_of, option_copied, places_at, subst, sym, unclean_in}
use Rattle.export_regions.proofs.PickLaws.{IsPicking, all_picked, none_picked, one_there}
use Rattle.export_regions.proofs.KnownLaws.{none_right}
use Rattle.export_regions.proofs.regions.leaves_of.Goals as goal

pub loop-leaf-init : goal.loop-leaf-init
loop-leaf-init c = record {
  picking = none_picked (IsOfRegion c.args.subtrees.now.roots c.args.dirs.now.homes c.args.dirs.now.trees (leaf_of c.args.root)) c.places_of-places.result (places_at c.args.caches.now c.args.root.rank.0) c.new-leaves.result c.places_of-places.ensures.places c.new-leaves.ensures;
  right = none_right c.args.subtrees.now.roots c.args.dirs.now.homes c.args.dirs.now.trees (leaf_of c.args.root) c.new-known.result c.new-known.ensures;
}

pub loop-leaf-preserved-in-Continue-branch-2 : goal.loop-leaf-preserved-in-Continue-branch-2
loop-leaf-preserved-in-Continue-branch-2 c = record {
  picking = subst (IsPicking (IsOfRegion c.args.subtrees.now.roots c.args.dirs.now.homes c.args.dirs.now.trees (leaf_of c.args.root)) c.next_place.new.self (places_at c.args.caches.now c.args.root.rank.0)) (sym c.in_ok-add.ensures)
      (one_there (IsOfRegion c.args.subtrees.now.roots c.args.dirs.now.homes c.args.dirs.now.trees (leaf_of c.args.root)) c.loop-leaf.places c.next_place.new.self (places_at c.args.caches.now c.args.root.rank.0) c.in-Some.leaf.now (option_copied c.in-Some.fragment) c.loop-leaf.leaves
      c.in-Some.ensures c.loop-leaf.invariant.picking c.in-Some-fragment.fragment.now c.is_clean.result (ap option_copied c.in-Some-fragment.is) c.is_clean.ensures (c.in_ok-within.ensures.told.0 c.if-within.true));
  right = c.in_ok-within.ensures.right;
}

pub returns-clause-leaves : goal.returns-clause-leaves
returns-clause-leaves c = record {
  unclean = all_picked (IsOfRegion c.args.subtrees.now.roots c.args.dirs.now.homes c.args.dirs.now.trees (leaf_of c.args.root)) unclean_in c.loop-leaf.places (places_at c.args.caches.now c.args.root.rank.0) c.loop-leaf.leaves.unclean c.in_default.ensures c.loop-leaf.invariant.picking.unclean;
  clean = all_picked (IsOfRegion c.args.subtrees.now.roots c.args.dirs.now.homes c.args.dirs.now.trees (leaf_of c.args.root)) clean_in c.loop-leaf.places (places_at c.args.caches.now c.args.root.rank.0) c.loop-leaf.leaves.clean c.in_default.ensures c.loop-leaf.invariant.picking.clean;
}
