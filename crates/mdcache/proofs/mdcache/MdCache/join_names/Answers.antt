use Rattle.mdcache.proofs.Common.{Core, Err, IsAmong, IsAmongOr, KeepsNone, None, NoneEnds, Ok, ap, inl, inr, leaf_of, leaves_in, length, made_frag, refl, rules, subst, sym, ◌<◌, ◌∙◌, ◌≡◌}
use Rattle.std.specs.FinMap as map
use Rattle.mdcache.proofs.CoreLaws.{reads_core_wider, still_absent, there_after}
use Rattle.mdcache.proofs.JoinSteps.{joined_of}
use Rattle.mdcache.proofs.KeepSteps.{keep_refused, keep_so}
use Rattle.mdcache.proofs.NoneLaws.{none_absent}
use Rattle.mdcache.proofs.mdcache.MdCache.join_names.Goals as goal

pub returns-in-Err-clause-absent : goal.returns-in-Err-clause-absent
returns-in-Err-clause-absent g c = still_absent _ _ c.args.self.now c.join_leaves.new.self (leaf_of c.args.at.now) c.join_leaves.ensures.reads (λ r is. c.requires.apart is.1) c.requires.absent

pub returns-in-Err-clause-reads : goal.returns-in-Err-clause-reads
returns-in-Err-clause-reads g c = reads_core_wider (IsAmong c.args.at.now.rank.0 (leaves_in c.args.at.now.dir c.args.leaves.now)) (IsAmongOr c.args.at.now.rank.0 (leaves_in c.args.at.now.dir c.args.leaves.now) (leaf_of c.args.at.now)) NoneEnds NoneEnds c.args.self.now c.join_leaves.new.self (λ r q is. inl is) (λ r q is. is) c.join_leaves.ensures.reads

pub keep-requires-clause-absent : goal.keep-requires-clause-absent
keep-requires-clause-absent g c =
    none_absent c.self-2.inside.caches c.args.at.now.rank.0 (leaf_of c.args.at.now) (subst (λ (k : Core). KeepsNone k.caches) (sym c.self-2.view_is) c.join_leaves.ensures.none)
    (subst (λ (k : Core). map.get k.caches.held (leaf_of c.args.at.now) ≡ None) (sym c.self-2.view_is) (still_absent _ _ c.args.self.now c.join_leaves.new.self (leaf_of c.args.at.now) c.join_leaves.ensures.reads (λ r is. c.requires.apart is.1) c.requires.absent))

pub returns-in-Err-keep : goal.returns-in-Err-keep
returns-in-Err-keep g c =
    let same : c.join_leaves.new.self.faults ≡ c.args.self.now.faults = search rules in
    let there = there_after _ _ c.args.self.now c.join_leaves.new.self c.args.at.now.rank.0 c.join_leaves.ensures.reads c.requires.there in
    let absent = still_absent _ _ c.args.self.now c.join_leaves.new.self (leaf_of c.args.at.now) c.join_leaves.ensures.reads (λ r is. c.requires.apart is.1) c.requires.absent in
    let reads = reads_core_wider (IsAmong c.args.at.now.rank.0 (leaves_in c.args.at.now.dir c.args.leaves.now)) (IsAmongOr c.args.at.now.rank.0 (leaves_in c.args.at.now.dir c.args.leaves.now) (leaf_of c.args.at.now)) NoneEnds NoneEnds c.args.self.now c.join_leaves.new.self (λ r q is. inl is) (λ r q is. is) c.join_leaves.ensures.reads in
    let its = keep_so (IsAmongOr c.args.at.now.rank.0 (leaves_in c.args.at.now.dir c.args.leaves.now) (leaf_of c.args.at.now)) c.args.self.now c.join_leaves.new.self _ c.self-2.view_is reads c.join_leaves.ensures.none c.args.at.now.rank (leaf_of c.args.at.now) None there absent (inr (refl, refl)) tt (Err c.in-Err-keep.refusal) c.keep.new.self c.keep.ensures.valid tt c.in-Err-keep.ensures.left in
    let refused = keep_refused (IsAmongOr c.args.at.now.rank.0 (leaves_in c.args.at.now.dir c.args.leaves.now) (leaf_of c.args.at.now)) c.args.self.now c.join_leaves.new.self _ c.self-2.view_is reads c.join_leaves.ensures.none c.args.at.now.rank (leaf_of c.args.at.now) None there absent (inr (refl, refl)) tt (Err c.in-Err-keep.refusal) c.keep.new.self c.keep.ensures.valid tt c.in-Err-keep.ensures.left c.in-Err-keep.ensures.refused same in
    search (rules, its, refused)

pub returns : goal.returns
returns g c =
    let there = there_after _ _ c.args.self.now c.join_leaves.new.self c.args.at.now.rank.0 c.join_leaves.ensures.reads c.requires.there in
    let absent = still_absent _ _ c.args.self.now c.join_leaves.new.self (leaf_of c.args.at.now) c.join_leaves.ensures.reads (λ r is. c.requires.apart is.1) c.requires.absent in
    let reads = reads_core_wider (IsAmong c.args.at.now.rank.0 (leaves_in c.args.at.now.dir c.args.leaves.now)) (IsAmongOr c.args.at.now.rank.0 (leaves_in c.args.at.now.dir c.args.leaves.now) (leaf_of c.args.at.now)) NoneEnds NoneEnds c.args.self.now c.join_leaves.new.self (λ r q is. inl is) (λ r q is. is) c.join_leaves.ensures.reads in
    let its = keep_so (IsAmongOr c.args.at.now.rank.0 (leaves_in c.args.at.now.dir c.args.leaves.now) (leaf_of c.args.at.now)) c.args.self.now c.join_leaves.new.self _ c.self-2.view_is reads c.join_leaves.ensures.none c.args.at.now.rank (leaf_of c.args.at.now) None there absent (inr (refl, refl)) tt (Ok tt) c.keep.new.self c.keep.ensures.valid c.in_default-keep.ensures.kept tt in
    let joined = joined_of _ _ c.args.self.now _ its.reads (leaves_in c.args.at.now.dir c.args.leaves.now) c.fresh-joined.result c.join_leaves.new.joined (c.fresh-joined.ensures ∙ ap (λ (k : Core). made_frag k.next_generation) c.self.view_is) c.in_default.ensures.joined in
    search (rules, its, joined)

pub keep-requires-clause-there : goal.keep-requires-clause-there
keep-requires-clause-there g c = subst (λ (k : Core). c.args.at.now.rank.0 < length k.caches.used) (sym c.self-2.view_is) (there_after _ _ c.args.self.now c.join_leaves.new.self c.args.at.now.rank.0 c.join_leaves.ensures.reads c.requires.there)
