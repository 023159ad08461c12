use Rattle.dentry_cache.proofs.Common.{CacheMap, Dirfrag, Leaf, ap, drop, has_place, leaf_of, length, subst, sym, true, ℕ, ◌<◌, ◌∙◌, ◌≡◌}
use Rattle.dentry_cache.proofs.KeepingLaws.{this_of}
use Rattle.dentry_cache.proofs.MoveLaws.{placed_moved_all, ranks_moved_all}
use Rattle.dentry_cache.proofs.caches.Caches.move_all.Goals as goal

pub move_one-requires-clause-there : goal.move_one-requires-clause-there
move_one-requires-clause-there c =
    subst (λ (x : Dirfrag). x.rank.0 < length c.loop-i.self.used) (sym c.at.ensures)
    (subst (λ (n : ℕ). c.args.from.0 < n) (sym (ap (λ (k : CacheMap). length k.used) c.loop-i.invariant.moved ∙ ranks_moved_all c.args.self.now c.args.from.0 c.args.to.0 (drop c.loop-i.i c.args.leaves.now))) c.requires.there)

pub move_one-requires-clause-other : goal.move_one-requires-clause-other
move_one-requires-clause-other c =
    subst (λ (n : ℕ). c.args.to.0 < n) (sym (ap (λ (k : CacheMap). length k.used) c.loop-i.invariant.moved ∙ ranks_moved_all c.args.self.now c.args.from.0 c.args.to.0 (drop c.loop-i.i c.args.leaves.now))) c.requires.other

pub move_one-requires-clause-placed : goal.move_one-requires-clause-placed
move_one-requires-clause-placed c =
    subst (λ (x : Dirfrag). has_place c.loop-i.self c.args.to.0 (leaf_of x) ≡ true) (sym c.at.ensures)
    (ap (λ (k : CacheMap). has_place k c.args.to.0 c.index-leaves-i.result) c.loop-i.invariant.moved
    ∙ placed_moved_all c.args.self.now c.args.from.0 c.args.to.0 c.requires.apart c.requires.other (drop c.loop-i.i c.args.leaves.now) c.index-leaves-i.result
    (this_of c.args.leaves.now c.loop-i.i c.index-leaves-i.result c.loop-i-test.true c.loop-i.invariant.few c.index-leaves-i.is (λ (l : Leaf). has_place c.args.self.now c.args.to.0 l ≡ true) c.requires.placed))
