use Rattle.dentry_cache.proofs.Common.{AreAbsent, CacheMap, Dirfrag, IsChildAt, IsFamilyAt, IsRefusedAt, KeepsAt, KeepsChildren, Leaf, MakesRoomAt, MayNotKeepAt, Option, Reads, Some, ap, arith, child_of, here, refl, subst, suc, sym, ℕ, ◌+◌, ◌<◌, ◌^◌, ◌∙◌, ◌≡◌}
use Rattle.dentry_cache.proofs.ChildLaws.{AreKeeping, kept_reads, none_kept, none_then, one_kept, reads_so, room_kept, stays_then}
use Rattle.dentry_cache.proofs.RoomLaws.{CanKeepOn, first_can, kept_left, only_memory, refused_room, room_left}
use Rattle.dentry_cache.proofs.caches.Caches.keep_children.Goals as goal

pub loop-i-init : goal.loop-i-init
loop-i-init c = record { keeping = none_kept c.args.at.now.rank.0 c.args.at.now.dir c.args.at.now.frag c.args.bits c.args.self.now c.requires.there (c.requires.valid.distinct c.args.at.now.rank.0) c.requires.absent; keeps = refl; can = first_can (2 ^ c.args.bits) c.args.self.now c.args.at.now.rank.0 (Some (c.args.at.now.dir, c.args.at.now.frag)) c.requires.can }

pub returns-in-Err-clause-left : goal.returns-in-Err-clause-left
returns-in-Err-clause-left c =
    subst (λ (k : CacheMap). AreAbsent k c.args.at.now.rank.0 c.args.at.now.dir c.args.at.now.frag c.args.bits) (sym c.drop_children.ensures)
    (none_then c.args.at.now.rank.0 c.args.at.now.dir c.args.at.now.frag c.args.bits c.loop-i.i (omega (arith, c.loop-i-test.true, c.child_count-i-end.ensures)) c.args.self.now c.loop-i.self c.keep.new.self c.loop-i.invariant.keeping (subst (λ (x : Dirfrag). MakesRoomAt x.rank.0 (Some (c.args.at.now.dir, c.args.at.now.frag)) c.loop-i.self c.keep.new.self) c.child_at-child.ensures c.in-Err.ensures.left))

pub returns-in-Err-clause-stays : goal.returns-in-Err-clause-stays
returns-in-Err-clause-stays c =
    ap (λ (k : CacheMap). here k c.args.at.now.rank.0 (c.args.at.now.dir, c.args.at.now.frag)) c.drop_children.ensures
    ∙ stays_then c.args.at.now.rank.0 c.args.at.now.dir c.args.at.now.frag c.args.bits c.loop-i.i (omega (arith, c.loop-i-test.true, c.child_count-i-end.ensures)) c.args.self.now c.loop-i.self c.keep.new.self c.loop-i.invariant.keeping (subst (λ (x : Dirfrag). MakesRoomAt x.rank.0 (Some (c.args.at.now.dir, c.args.at.now.frag)) c.loop-i.self c.keep.new.self) c.child_at-child.ensures c.in-Err.ensures.left)

pub returns-in-Err-clause-reads : goal.returns-in-Err-clause-reads
returns-in-Err-clause-reads c objects =
    subst (λ (k : CacheMap). Reads (IsFamilyAt c.args.at.now.rank.0 c.args.at.now.dir c.args.at.now.frag c.args.bits) (IsChildAt c.args.at.now.rank.0 c.args.at.now.dir c.args.at.now.frag c.args.bits) objects c.args.self.now k) (sym c.drop_children.ensures)
    (reads_so c.args.at.now.rank.0 c.args.at.now.dir c.args.at.now.frag c.args.bits c.loop-i.i (omega (arith, c.loop-i-test.true, c.child_count-i-end.ensures)) c.args.self.now c.loop-i.self c.keep.new.self c.loop-i.invariant.keeping (subst (λ (x : Dirfrag). MakesRoomAt x.rank.0 (Some (c.args.at.now.dir, c.args.at.now.frag)) c.loop-i.self c.keep.new.self) c.child_at-child.ensures c.in-Err.ensures.left) objects)

pub returns-in-Err-clause-refused : goal.returns-in-Err-clause-refused
returns-in-Err-clause-refused c =
    only_memory c.loop-i.self c.args.at.now.rank.0 (Some (c.args.at.now.dir, c.args.at.now.frag)) c.loop-i.invariant.keeping.there c.loop-i.i (2 ^ c.args.bits) c.loop-i.invariant.can (omega (arith, c.loop-i-test.true, c.child_count-i-end.ensures)) c.in-Err.refusal
    (subst (λ (x : Dirfrag). MayNotKeepAt x.rank.0 (Some (c.args.at.now.dir, c.args.at.now.frag)) c.loop-i.self c.in-Err.refusal) c.child_at-child.ensures c.in-Err.ensures.refused)

pub loop-i-preserved : goal.loop-i-preserved
loop-i-preserved c =
    let kept = subst (λ (x : Dirfrag). KeepsAt x.rank.0 (x.dir, x.frag) (Some (c.args.at.now.dir, c.args.at.now.frag)) c.loop-i.self c.keep.new.self) c.child_at-child.ensures c.in_default.ensures.kept in
    let below : c.loop-i.i < 2 ^ c.args.bits = omega (arith, c.loop-i-test.true, c.child_count-i-end.ensures) in
    let more : suc c.loop-i.i ≡ c.loop-i.i + 1 = omega arith in
    let stay : Option Leaf = Some (c.args.at.now.dir, c.args.at.now.frag) in
    let roomed = room_kept c.args.at.now.rank.0 c.args.at.now.dir c.args.at.now.frag c.args.bits c.loop-i.i below c.args.self.now c.loop-i.self c.loop-i.invariant.keeping kept.0 kept.1 in
    record {
      keeping = subst (λ (n : ℕ). AreKeeping c.args.at.now.rank.0 c.args.at.now.dir c.args.at.now.frag c.args.bits n c.args.self.now c.keep.new.self) more (one_kept c.args.at.now.rank.0 c.args.at.now.dir c.args.at.now.frag c.args.bits c.loop-i.i below c.args.self.now kept.0 roomed c.keep.new.self kept.2);
      keeps = subst (λ (n : ℕ). KeepsChildren c.args.at.now.rank.0 c.args.at.now.dir c.args.at.now.frag c.args.bits n c.args.self.now c.keep.new.self) more (c.loop-i.self, c.loop-i.invariant.keeps, kept);
      can = subst (λ (n : ℕ). CanKeepOn n (2 ^ c.args.bits) c.keep.new.self c.args.at.now.rank.0 stay) more
          (subst (λ (k : CacheMap). CanKeepOn (suc c.loop-i.i) (2 ^ c.args.bits) k c.args.at.now.rank.0 stay) (sym kept.2) (kept_left kept.0 c.args.at.now.rank.0 stay roomed.there c.loop-i.i (2 ^ c.args.bits)
          (room_left c.loop-i.self c.args.at.now.rank.0 stay c.loop-i.invariant.keeping.there c.loop-i.i (2 ^ c.args.bits) c.loop-i.invariant.can c.loop-i.invariant.keeping.distinct kept.0 kept.1) (c.args.at.now.dir, child_of c.args.at.now.frag c.loop-i.i c.args.bits)));
    }

pub returns-clause-reads : goal.returns-clause-reads
returns-clause-reads c = kept_reads c.args.at.now.rank.0 c.args.at.now.dir c.args.at.now.frag c.args.bits c.loop-i.i c.args.self.now c.loop-i.self c.loop-i.invariant.keeping

pub returns-in-Err-clause-refuses : goal.returns-in-Err-clause-refuses
returns-in-Err-clause-refuses c = (
  c.loop-i.i,
  omega (arith, c.loop-i-test.true, c.child_count-i-end.ensures),
  c.loop-i.self,
  c.loop-i.invariant.keeps,
  c.keep.new.self,
  refused_room c.args.at.now.rank.0 (Some (c.args.at.now.dir, c.args.at.now.frag)) c.loop-i.self c.keep.new.self c.in-Err.refusal (returns-in-Err-clause-refused c)
      (subst (λ (x : Dirfrag). IsRefusedAt x.rank.0 (Some (c.args.at.now.dir, c.args.at.now.frag)) c.loop-i.self c.keep.new.self c.in-Err.refusal) c.child_at-child.ensures c.in-Err.ensures.room),
  c.drop_children.ensures,
)
