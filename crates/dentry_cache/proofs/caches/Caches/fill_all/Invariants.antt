-- What is left fills the places that are left.
use Rattle.dentry_cache.proofs.Common.{AreFillable, into_iter_items, into_iter_len, length, with_parts, ◌<◌, ◌≡◌}
use Rattle.dentry_cache.proofs.caches.Caches.fill_all.Given as goal

abbrev pub invariant-loop-part : goal.invariant-loop-part
invariant-loop-part l = record {
  count : into_iter_len l.part-iterator ≡ length (into_iter_items l.part-iterator);
  there : l.at.rank.0 < length l.self.used;
  filled : with_parts l.at.dir l.at.rank.0 (into_iter_items l.part-iterator) l.self ≡ with_parts l.at.dir l.at.rank.0 l.fn.parts.items l.fn.self;
  fillable : AreFillable l.at.rank.0 l.at.dir (into_iter_items l.part-iterator) l.self;
}
