use Rattle.dentry_cache.proofs.Common.{CacheMap, Leaf, ap, has_place, here, length, subst, sym, true, unclean_in, without_all, ℕ, ◌<◌, ◌∙◌, ◌≡◌}
use Rattle.dentry_cache.proofs.HandedLaws.{handed_unclean, wants_unclean}
use Rattle.dentry_cache.proofs.KeepingLaws.{all_from, all_of, kept_placed, kept_ranks}
use Rattle.dentry_cache.proofs.MoveLaws.{none_beside, ranks_moved_all}
use Rattle.dentry_cache.proofs.caches.Caches.hand_over.Goals as goal

pub move_all-requires-clause-there : goal.move_all-requires-clause-there
move_all-requires-clause-there c = subst (λ (n : ℕ). c.args.from.0 < n) (sym (kept_ranks c.args.self.now c.args.to.0 c.args.unclean.now c.keep_all.new.self c.in-Ok.ensures.kept)) c.requires.there

pub move_all-requires-clause-other : goal.move_all-requires-clause-other
move_all-requires-clause-other c = subst (λ (n : ℕ). c.args.to.0 < n) (sym (kept_ranks c.args.self.now c.args.to.0 c.args.unclean.now c.keep_all.new.self c.in-Ok.ensures.kept)) c.requires.other

pub move_all-requires-clause-placed : goal.move_all-requires-clause-placed
move_all-requires-clause-placed c =
    all_from (λ (leaf : Leaf). has_place c.keep_all.new.self c.args.to.0 leaf ≡ true) c.args.unclean.now (λ q among.
    kept_placed c.args.self.now c.args.to.0 c.requires.other q
    (none_beside c.args.self.now c.args.from.0 c.args.to.0 q c.requires.apart (all_of (λ (leaf : Leaf). unclean_in (here c.args.self.now c.args.from.0 leaf) ≡ true) q c.args.unclean.now c.requires.cached among))
    c.args.unclean.now c.keep_all.new.self c.in-Ok.ensures.kept (c.has_room_for.ensures.valid.distinct c.args.to.0) among)

pub forget_all-requires : goal.forget_all-requires
forget_all-requires c =
    subst (λ (n : ℕ). c.args.from.0 < n)
    (sym (ap (λ (k : CacheMap). length k.used) c.move_all.ensures ∙ ranks_moved_all c.keep_all.new.self c.args.from.0 c.args.to.0 c.args.unclean.now
    ∙ kept_ranks c.args.self.now c.args.to.0 c.args.unclean.now c.keep_all.new.self c.in-Ok.ensures.kept)) c.requires.there

pub returns-in-Ok-clause-handed : goal.returns-in-Ok-clause-handed
returns-in-Ok-clause-handed c = (
  c.keep_all.new.self,
  c.in-Ok.ensures.kept,
  c.forget_all.ensures ∙ ap (λ (k : CacheMap). without_all k c.args.from.0 c.args.clean.now) c.move_all.ensures,
)

pub returns-in-Ok-clause-unsaved : goal.returns-in-Ok-clause-unsaved
returns-in-Ok-clause-unsaved c =
    handed_unclean c.args.from.0 c.args.to.0 c.requires.apart c.args.unclean.now c.args.clean.now c.args.self.now c.forget_all.new.self c.requires.cached (returns-in-Ok-clause-handed c)

pub returns-in-Err-clause-left : goal.returns-in-Err-clause-left
returns-in-Err-clause-left c = wants_unclean c.args.from.0 c.args.to.0 c.requires.apart c.args.unclean.now c.args.self.now c.keep_all.new.self c.requires.cached c.in-Err.ensures.wants
