use Rattle.dentry_cache.proofs.Common.{CacheMap, Dirfrag, IsRefusedAt, KeepsAt, Leaf, MakesRoomAt, MayNotKeepAt, None, Option, and_kept, ap, arith, drop, false, has_place, kept_all, leaf_of, length, length-drop, subst, sym, without_all, ℕ, ◌+◌, ◌-◌, ◌<◌, ◌∙◌, ◌≡◌}
use Rattle.dentry_cache.proofs.KeepingLaws.{kept_absent, kept_can, kept_ranks, one_kept, ranks_left, this_apart, this_drop, this_of}
use Rattle.dentry_cache.proofs.RoomLaws.{only_memory, refused_room}
use Rattle.dentry_cache.proofs.caches.Caches.keep_all.Goals as goal

pub keep-requires-clause-there : goal.keep-requires-clause-there
keep-requires-clause-there c =
    subst (λ (x : Dirfrag). x.rank.0 < length c.loop-i.self.used) (sym c.at.ensures)
    (subst (λ (n : ℕ). c.args.rank.0 < n) (sym (kept_ranks c.args.self.now c.args.rank.0 (drop c.loop-i.i c.args.leaves.now) c.loop-i.self c.loop-i.invariant.kept)) c.requires.there)

pub keep-requires-clause-absent : goal.keep-requires-clause-absent
keep-requires-clause-absent c =
    subst (λ (x : Dirfrag). has_place c.loop-i.self x.rank.0 (leaf_of x) ≡ false) (sym c.at.ensures)
    (kept_absent c.args.self.now c.args.rank.0 c.requires.there c.index-leaves-i.result
    (this_of c.args.leaves.now c.loop-i.i c.index-leaves-i.result c.loop-i-test.true c.loop-i.invariant.few c.index-leaves-i.is (λ (l : Leaf). has_place c.args.self.now c.args.rank.0 l ≡ false) c.requires.absent)
    (drop c.loop-i.i c.args.leaves.now) (this_apart c.args.leaves.now c.loop-i.i c.index-leaves-i.result c.loop-i-test.true c.loop-i.invariant.few c.index-leaves-i.is c.requires.once) c.loop-i.self c.loop-i.invariant.kept)

pub forget_all-requires : goal.forget_all-requires
forget_all-requires c =
    subst (λ (n : ℕ). c.args.rank.0 < n)
    (sym (ranks_left c.args.rank.0 None c.loop-i.self c.keep.new.self (subst (λ (x : Dirfrag). MakesRoomAt x.rank.0 None c.loop-i.self c.keep.new.self) c.at.ensures c.in-Err.ensures.left)
    ∙ kept_ranks c.args.self.now c.args.rank.0 (drop c.loop-i.i c.args.leaves.now) c.loop-i.self c.loop-i.invariant.kept)) c.requires.there

pub returns-in-Err-clause-refused : goal.returns-in-Err-clause-refused
returns-in-Err-clause-refused c =
    let left : length (drop c.loop-i.i c.args.leaves.now) ≡ length c.args.leaves.now - c.loop-i.i = length-drop c.loop-i.i c.args.leaves.now in
    only_memory c.loop-i.self c.args.rank.0 None (subst (λ (n : ℕ). c.args.rank.0 < n) (sym (kept_ranks c.args.self.now c.args.rank.0 (drop c.loop-i.i c.args.leaves.now) c.loop-i.self c.loop-i.invariant.kept)) c.requires.there)
    (length (drop c.loop-i.i c.args.leaves.now)) (length c.args.leaves.now)
    (kept_can c.args.self.now c.args.rank.0 c.requires.there (length c.args.leaves.now) (c.requires.valid.distinct c.args.rank.0) c.requires.can (drop c.loop-i.i c.args.leaves.now) c.loop-i.self c.loop-i.invariant.kept)
    (omega (arith, left, c.loop-i-test.true, c.loop-i.invariant.few)) c.in-Err.refusal (subst (λ (x : Dirfrag). MayNotKeepAt x.rank.0 None c.loop-i.self c.in-Err.refusal) c.at.ensures c.in-Err.ensures.refused)

pub returns-in-Err-clause-wants : goal.returns-in-Err-clause-wants
returns-in-Err-clause-wants c =
    let back : c.loop-i.i - 1 + 1 ≡ c.loop-i.i = omega (arith, c.loop-i-test.true) in (
      c.loop-i.i - 1,
      omega (arith, c.loop-i-test.true, c.loop-i.invariant.few),
      c.loop-i.self,
      ap (λ (k : ℕ). kept_all c.args.self.now c.args.rank.0 (drop k c.args.leaves.now)) back ∙ c.loop-i.invariant.kept,
      c.keep.new.self,
      refused_room c.args.rank.0 None c.loop-i.self c.keep.new.self c.in-Err.refusal (returns-in-Err-clause-refused c) (subst (λ (x : Dirfrag). IsRefusedAt x.rank.0 None c.loop-i.self c.keep.new.self c.in-Err.refusal) c.at.ensures c.in-Err.ensures.room),
      c.forget_all.ensures ∙ ap (without_all c.keep.new.self c.args.rank.0) c.split_at.ensures.back,
    )

pub loop-i-preserved : goal.loop-i-preserved
loop-i-preserved c = record {
  few = omega (arith, c.loop-i-test.true, c.loop-i.invariant.few);
  kept = ap (kept_all c.args.self.now c.args.rank.0) (this_drop c.args.leaves.now c.loop-i.i c.index-leaves-i.result c.loop-i-test.true c.loop-i.invariant.few c.index-leaves-i.is)
      ∙ ap (λ (o : Option CacheMap). and_kept o c.args.rank.0 c.index-leaves-i.result) c.loop-i.invariant.kept
      ∙ one_kept c.args.rank.0 c.index-leaves-i.result c.loop-i.self c.keep.new.self (subst (λ (x : Dirfrag). KeepsAt x.rank.0 (leaf_of x) None c.loop-i.self c.keep.new.self) c.at.ensures c.in_default.ensures.kept);
}
