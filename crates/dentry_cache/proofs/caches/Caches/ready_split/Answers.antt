use Rattle.dentry_cache.proofs.Common.{IsChildAt, IsFamilyAt, inl, inr, refl, ◌^◌}
use Rattle.dentry_cache.proofs.PartsLaws.{ready_absent, ready_reads, ready_stays}
use Rattle.dentry_cache.specs.Reads.Reads.{stays as it_stays}
use Rattle.dentry_cache.proofs.ReadsLaws.{reads_then}
use Rattle.dentry_cache.proofs.RoomLaws.{edit_can, lacks_all}
use Rattle.dentry_cache.proofs.caches.Caches.ready_split.Goals as goal

pub returns-in-Err-clause-left : goal.returns-in-Err-clause-left
returns-in-Err-clause-left c = ready_absent c.args.at.rank.0 c.args.at.dir c.args.at.frag c.args.bits c.requires.some c.args.self.now c.ready_parts.new.self c.ready_parts.ensures.same c.requires.absent

pub returns-in-Err-clause-stays : goal.returns-in-Err-clause-stays
returns-in-Err-clause-stays c = ready_stays c.args.at.rank.0 c.args.at.dir c.args.at.frag c.args.bits c.requires.some c.args.self.now c.ready_parts.new.self c.ready_parts.ensures.same _ refl

pub returns-in-Err-clause-reads : goal.returns-in-Err-clause-reads
returns-in-Err-clause-reads c = ready_reads c.args.at.rank.0 c.args.at.dir c.args.at.frag c.args.bits c.requires.some c.args.self.now c.ready_parts.new.self c.ready_parts.ensures.same

pub keep_children-requires-clause-absent : goal.keep_children-requires-clause-absent
keep_children-requires-clause-absent c = ready_absent c.args.at.rank.0 c.args.at.dir c.args.at.frag c.args.bits c.requires.some c.args.self.now c.ready_parts.new.self c.ready_parts.ensures.same c.requires.absent

pub returns-in-Ok-keep_children-clause-stays : goal.returns-in-Ok-keep_children-clause-stays
returns-in-Ok-keep_children-clause-stays c = ready_stays c.args.at.rank.0 c.args.at.dir c.args.at.frag c.args.bits c.requires.some c.args.self.now c.ready_parts.new.self c.ready_parts.ensures.same _ c.keep_children.ensures.stays

pub returns-in-Ok-keep_children-clause-reads : goal.returns-in-Ok-keep_children-clause-reads
returns-in-Ok-keep_children-clause-reads c objects = reads_then (IsFamilyAt c.args.at.rank.0 c.args.at.dir c.args.at.frag c.args.bits) (IsChildAt c.args.at.rank.0 c.args.at.dir c.args.at.frag c.args.bits) objects c.args.self.now c.ready_parts.new.self c.keep_children.new.self (ready_reads c.args.at.rank.0 c.args.at.dir c.args.at.frag c.args.bits c.requires.some c.args.self.now c.ready_parts.new.self c.ready_parts.ensures.same objects) (c.keep_children.ensures.reads objects)

pub returns-in-Err-keep_children-clause-stays : goal.returns-in-Err-keep_children-clause-stays
returns-in-Err-keep_children-clause-stays c = ready_stays c.args.at.rank.0 c.args.at.dir c.args.at.frag c.args.bits c.requires.some c.args.self.now c.ready_parts.new.self c.ready_parts.ensures.same _ c.keep_children.ensures.stays

pub returns-in-Err-keep_children-clause-reads : goal.returns-in-Err-keep_children-clause-reads
returns-in-Err-keep_children-clause-reads c objects = reads_then (IsFamilyAt c.args.at.rank.0 c.args.at.dir c.args.at.frag c.args.bits) (IsChildAt c.args.at.rank.0 c.args.at.dir c.args.at.frag c.args.bits) objects c.args.self.now c.ready_parts.new.self c.keep_children.new.self (ready_reads c.args.at.rank.0 c.args.at.dir c.args.at.frag c.args.bits c.requires.some c.args.self.now c.ready_parts.new.self c.ready_parts.ensures.same objects) (c.keep_children.ensures.reads objects)

pub returns-in-Err-clause-refuses : goal.returns-in-Err-clause-refuses
returns-in-Err-clause-refuses c = inr (refl, c.can_keep.ensures.can c.if-not-can_keep.false, (c.ready_parts.new.self, c.ready_parts.ensures.same, inl refl))

pub returns-in-Err-keep_children-clause-refuses : goal.returns-in-Err-keep_children-clause-refuses
returns-in-Err-keep_children-clause-refuses c = inr (c.in-Err-keep_children.ensures.refused, c.can_keep.ensures.can c.if-not-can_keep.false, (c.ready_parts.new.self, c.ready_parts.ensures.same, inr c.in-Err-keep_children.ensures.refuses))

pub returns-then-not-can_keep-clause-refused : goal.returns-then-not-can_keep-clause-refused
returns-then-not-can_keep-clause-refused c = inr (refl, lacks_all (2 ^ c.args.bits) c.args.self.now c.args.at.rank.0 (c.args.at.dir, c.args.at.frag) c.can_keep.ensures.valid (c.can_keep.ensures.lacks c.if-not-can_keep.true))

pub returns-then-not-can_keep-clause-reads : goal.returns-then-not-can_keep-clause-reads
returns-then-not-can_keep-clause-reads c objects = it_stays

pub keep_children-requires-clause-can : goal.keep_children-requires-clause-can
keep_children-requires-clause-can c = edit_can c.args.at.rank.0 (c.args.at.dir, c.args.at.frag) c.args.self.now c.ready_parts.new.self c.ready_parts.ensures.same (2 ^ c.args.bits) (c.can_keep.ensures.can c.if-not-can_keep.false)
