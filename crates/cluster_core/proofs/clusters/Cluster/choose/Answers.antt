-- Each event does what its function does, and leaves each leaf its authority.
use Rattle.cluster_core.proofs.Common.{AdministersTree, BeginsCommit, CacheMap, EvictsOne, ImportsExport, List, ap, keeps_same, length, nat_lt, told_nothing, subst, sym, ℕ, ◌++◌, ◌∙◌}
use Rattle.cluster_core.proofs.Exported.{few_ranks, holders_stay, roots_stay, valid_still}
use Rattle.cluster_core.proofs.Stays.{at_rank_keeps, begun_keeps, dropped_keeps, ended_keeps, evicted_keeps, purged_keeps, saved_keeps}
use Rattle.cluster_core.proofs.clusters.Cluster.choose.Goals as goal

pub returns-in-Split : goal.returns-in-Split
returns-in-Split g c =
    let kept = c.split.ensures.kept in
    record { stepped = λ opening past behind. rw c.in-Split.is (record { does = c.split.ensures.split _; authorities = kept.authorities; holders = kept.holders; ranks = c.split.ensures.count; capacity = c.split.ensures.cap; counted = c.split.ensures.counted }); uses = rw c.in-Split.is c.split.ensures.uses; valid = kept.valid }

pub returns-in-Merge : goal.returns-in-Merge
returns-in-Merge g c =
    let kept = c.merge.ensures.kept in
    record { stepped = λ opening past behind. rw c.in-Merge.is (record { does = c.merge.ensures.merged _; authorities = kept.authorities; holders = kept.holders; ranks = c.merge.ensures.count; capacity = c.merge.ensures.cap; counted = c.merge.ensures.counted }); uses = rw c.in-Merge.is c.merge.ensures.uses; valid = kept.valid }

pub returns-in-CommitBegin : goal.returns-in-CommitBegin
returns-in-CommitBegin g c =
    let kept = at_rank_keeps c.args.self.now c.begin_commit.new.self c.args.history.now.items c.args.history.now.items (nat_lt c.in-CommitBegin.rank.0 (length c.args.self.now.state.inboxes)) c.begin_commit.result {done = BeginsCommit c.args.self.now c.begin_commit.new.self c.args.history.now.items c.args.history.now.items c.in-CommitBegin.rank (c.in-CommitBegin.ino, c.in-CommitBegin.frag) c.begin_commit.result} c.requires.2.sound.subtrees (λ h. begun_keeps c.args.self.now.state c.begin_commit.new.self.state c.args.history.now.items c.args.history.now.items c.requires.2.sound.subtrees c.in-CommitBegin.rank (c.in-CommitBegin.ino, c.in-CommitBegin.frag) c.begin_commit.result h) (c.begin_commit.ensures.begun c.args.history.now.items) in
    record { stepped = λ opening past behind. rw c.in-CommitBegin.is (record { does = c.begin_commit.ensures.begun _; authorities = kept.authorities; holders = kept.holders; ranks = c.begin_commit.ensures.count; capacity = c.begin_commit.ensures.cap; counted = c.begin_commit.ensures.counted }); uses = rw c.in-CommitBegin.is c.begin_commit.ensures.uses; valid = kept.valid }

pub returns-in-CommitEnd : goal.returns-in-CommitEnd
returns-in-CommitEnd g c =
    let kept = ended_keeps c.args.self.now.state c.end_commit-ended.new.self.state c.args.history.now.items c.args.history.now.items c.requires.2.sound.subtrees _ _ _ _ (c.end_commit-ended.ensures.ended _) in
    record { stepped = λ opening past behind. rw c.in-CommitEnd.is (record { does = c.end_commit-ended.ensures.ended _; authorities = kept.authorities; holders = kept.holders; ranks = c.end_commit-ended.ensures.count; capacity = c.end_commit-ended.ensures.cap; counted = c.end_commit-ended.ensures.counted }); uses = rw c.in-CommitEnd.is c.end_commit-ended.ensures.uses; valid = kept.valid }

pub returns-in-CommitDrop : goal.returns-in-CommitDrop
returns-in-CommitDrop g c =
    let kept = dropped_keeps c.args.self.now.state c.drop_commit.new.self.state c.args.history.now.items c.args.history.now.items c.requires.2.sound.subtrees _ _ (c.drop_commit.ensures.dropped _) in
    record { stepped = λ opening past behind. rw c.in-CommitDrop.is (record { does = c.drop_commit.ensures.dropped _; authorities = kept.authorities; holders = kept.holders; ranks = c.drop_commit.ensures.count; capacity = c.drop_commit.ensures.cap; counted = c.drop_commit.ensures.counted }); uses = rw c.in-CommitDrop.is c.drop_commit.ensures.caches; valid = kept.valid }

pub returns-in-CommitTree : goal.returns-in-CommitTree
returns-in-CommitTree g c =
    let kept = saved_keeps c.args.self.now.state c.commit_tree.new.self.state c.args.history.now.items c.args.history.now.items c.requires.2.sound.subtrees _ _ _ _ (c.commit_tree.ensures.saved _) in
    record { stepped = λ opening past behind. rw c.in-CommitTree.is (record { does = c.commit_tree.ensures.saved _; authorities = kept.authorities; holders = kept.holders; ranks = c.commit_tree.ensures.count; capacity = c.commit_tree.ensures.cap; counted = c.commit_tree.ensures.counted }); uses = rw c.in-CommitTree.is c.commit_tree.ensures.caches; valid = kept.valid }

pub returns-in-Purge : goal.returns-in-Purge
returns-in-Purge g c =
    let kept = purged_keeps c.args.self.now.state c.purge.new.self.state c.args.history.now.items c.args.history.now.items c.requires.2.sound.subtrees _ _ _ (c.purge.ensures.purged _) in
    record { stepped = λ opening past behind. rw c.in-Purge.is (record { does = c.purge.ensures.purged _; authorities = kept.authorities; holders = kept.holders; ranks = c.purge.ensures.count; capacity = c.purge.ensures.cap; counted = c.purge.ensures.counted }); uses = rw c.in-Purge.is c.purge.ensures.caches; valid = kept.valid }

pub returns-in-Evict : goal.returns-in-Evict
returns-in-Evict g c =
    let kept = at_rank_keeps c.args.self.now c.evict.new.self c.args.history.now.items c.args.history.now.items (nat_lt c.in-Evict.rank.0 (length c.args.self.now.state.inboxes)) c.evict.result {done = AdministersTree c.args.self.now.state c.evict.new.self.state c.args.history.now.items c.args.history.now.items told_nothing (EvictsOne c.args.self.now c.evict.new.self c.in-Evict.rank) c.evict.result} c.requires.2.sound.subtrees (λ h. evicted_keeps c.args.self.now c.evict.new.self c.args.history.now.items c.args.history.now.items c.in-Evict.rank c.evict.result c.requires.2.sound.subtrees h) (c.evict.ensures.evicted c.args.history.now.items) in
    record { stepped = λ opening past behind. rw c.in-Evict.is (record { does = c.evict.ensures.evicted _; authorities = kept.authorities; holders = kept.holders; ranks = c.evict.ensures.count; capacity = c.evict.ensures.cap; counted = c.evict.ensures.counted }); uses = rw c.in-Evict.is c.evict.ensures.uses; valid = kept.valid }

pub evict-requires : goal.evict-requires
evict-requires g c = c.requires.2.sound.ranks.caches ∙ sym c.requires.2.sound.ranks.inboxes

pub returns-in-Arrive-clause-stepped : goal.returns-in-Arrive-clause-stepped
returns-in-Arrive-clause-stepped g c = λ opening past behind.
    rw c.in-Arrive.is (record {
      does = c.arrive.ensures.arrived (past ++ c.args.history.now.items);
      authorities = (keeps_same c.args.self.now.state.tree c.arrive.new.self.state.tree c.args.self.now.state.roots c.arrive.new.self.state.roots c.args.self.now.state.exports c.arrive.new.self.state.exports c.arrive.ensures.tree c.arrive.ensures.roots c.arrive.ensures.exports c.requires.2.sound.subtrees).authorities;
      holders = (keeps_same c.args.self.now.state.tree c.arrive.new.self.state.tree c.args.self.now.state.roots c.arrive.new.self.state.roots c.args.self.now.state.exports c.arrive.new.self.state.exports c.arrive.ensures.tree c.arrive.ensures.roots c.arrive.ensures.exports c.requires.2.sound.subtrees).holders;
      ranks = ap (λ (k : CacheMap). length k.used) c.arrive.ensures.caches;
      capacity = ap (λ (k : CacheMap). k.cap) c.arrive.ensures.caches;
      counted = c.arrive.ensures.counted;
    })

pub returns-in-Serve-clause-uses : goal.returns-in-Serve-clause-uses
returns-in-Serve-clause-uses g c = rw c.in-Serve.is c.serve.ensures.uses

pub returns-in-Grant-clause-uses : goal.returns-in-Grant-clause-uses
returns-in-Grant-clause-uses g c = rw c.in-Grant.is c.grant.ensures.uses

pub returns-in-Arrive-clause-uses : goal.returns-in-Arrive-clause-uses
returns-in-Arrive-clause-uses g c = rw c.in-Arrive.is c.arrive.ensures.caches

pub returns-in-Start : goal.returns-in-Start
returns-in-Start g c = record {
  stepped = λ opening past behind. rw c.in-Start.is (record {
    does = c.start.ensures.started (past ++ c.args.history.now.items);
    authorities = roots_stay c.args.self.now c.start.new.self c.start.ensures.tree c.start.ensures.roots;
    holders = holders_stay c.args.self.now c.start.new.self c.start.ensures.tree c.start.ensures.holders;
    ranks = ap (λ (k : CacheMap). length k.used) c.start.ensures.caches;
    capacity = ap (λ (k : CacheMap). k.cap) c.start.ensures.caches;
    counted = c.start.ensures.counted;
  });
  uses = rw c.in-Start.is c.start.ensures.caches;
  valid = valid_still c.args.self.now c.start.new.self c.start.ensures.tree c.start.ensures.roots c.requires.2.sound.subtrees;
}

pub returns-in-Freeze : goal.returns-in-Freeze
returns-in-Freeze g c = record {
  stepped = λ opening past behind. rw c.in-Freeze.is (record {
    does = c.freeze.ensures.frozen (past ++ c.args.history.now.items);
    authorities = c.freeze.ensures.authorities;
    holders = c.freeze.ensures.holders;
    ranks = ap (λ (k : CacheMap). length k.used) c.freeze.ensures.caches;
    capacity = ap (λ (k : CacheMap). k.cap) c.freeze.ensures.caches;
    counted = c.freeze.ensures.counted;
  });
  uses = rw c.in-Freeze.is c.freeze.ensures.caches;
  valid = c.freeze.ensures.valid c.requires.2.sound.subtrees;
}

pub returns-in-Prep : goal.returns-in-Prep
returns-in-Prep g c = record {
  stepped = λ opening past behind. rw c.in-Prep.is (record {
    does = c.prep.ensures.prepared (past ++ c.args.history.now.items);
    authorities = roots_stay c.args.self.now c.prep.new.self c.prep.ensures.tree c.prep.ensures.roots;
    holders = holders_stay c.args.self.now c.prep.new.self c.prep.ensures.tree c.prep.ensures.holders;
    ranks = ap (λ (k : CacheMap). length k.used) c.prep.ensures.caches;
    capacity = ap (λ (k : CacheMap). k.cap) c.prep.ensures.caches;
    counted = c.prep.ensures.counted;
  });
  uses = rw c.in-Prep.is c.prep.ensures.caches;
  valid = valid_still c.args.self.now c.prep.new.self c.prep.ensures.tree c.prep.ensures.roots c.requires.2.sound.subtrees;
}

pub returns-in-Send : goal.returns-in-Send
returns-in-Send g c = record {
  stepped = λ opening past behind. rw c.in-Send.is (record {
    does = c.send.ensures.sent (past ++ c.args.history.now.items);
    authorities = roots_stay c.args.self.now c.send.new.self c.send.ensures.tree c.send.ensures.roots;
    holders = holders_stay c.args.self.now c.send.new.self c.send.ensures.tree c.send.ensures.holders;
    ranks = ap (λ (k : CacheMap). length k.used) c.send.ensures.caches;
    capacity = ap (λ (k : CacheMap). k.cap) c.send.ensures.caches;
    counted = c.send.ensures.counted;
  });
  uses = rw c.in-Send.is c.send.ensures.caches;
  valid = valid_still c.args.self.now c.send.new.self c.send.ensures.tree c.send.ensures.roots c.requires.2.sound.subtrees;
}

pub returns-in-Import : goal.returns-in-Import
returns-in-Import g c = record {
  stepped = λ opening past behind. rw c.in-Import.is (record {
    does = subst (λ (bytes : List ℕ). ImportsExport c.args.self.now c.import-imported.new.self (past ++ c.args.history.now.items) (past ++ c.args.history.now.items) (c.in-Import.ino, c.in-Import.frag) bytes c.import-imported.result) c.as_slice.ensures (c.import-imported.ensures.imported (past ++ c.args.history.now.items));
    authorities = c.import-imported.ensures.authorities;
    holders = c.import-imported.ensures.others;
    ranks = c.import-imported.ensures.count;
    capacity = c.import-imported.ensures.cap;
    counted = c.import-imported.ensures.counted;
  });
  uses = rw c.in-Import.is c.import-imported.ensures.uses;
  valid = c.import-imported.ensures.valid c.requires.2.sound.subtrees;
}

pub returns-in-Finish : goal.returns-in-Finish
returns-in-Finish g c = record {
  stepped = λ opening past behind. rw c.in-Finish.is (record {
    does = c.finish.ensures.finished (past ++ c.args.history.now.items);
    authorities = c.finish.ensures.others;
    holders = holders_stay c.args.self.now c.finish.new.self c.finish.ensures.tree c.finish.ensures.holders;
    ranks = ap (λ (k : CacheMap). length k.used) c.finish.ensures.caches;
    capacity = ap (λ (k : CacheMap). k.cap) c.finish.ensures.caches;
    counted = c.finish.ensures.counted;
  });
  uses = rw c.in-Finish.is c.finish.ensures.caches;
  valid = c.finish.ensures.valid;
}

pub returns-in-Cancel : goal.returns-in-Cancel
returns-in-Cancel g c = record {
  stepped = λ opening past behind. rw c.in-Cancel.is (record {
    does = c.cancel.ensures.cancelled (past ++ c.args.history.now.items);
    authorities = roots_stay c.args.self.now c.cancel.new.self c.cancel.ensures.tree c.cancel.ensures.roots;
    holders = holders_stay c.args.self.now c.cancel.new.self c.cancel.ensures.tree c.cancel.ensures.holders;
    ranks = ap (λ (k : CacheMap). length k.used) c.cancel.ensures.caches;
    capacity = ap (λ (k : CacheMap). k.cap) c.cancel.ensures.caches;
    counted = c.cancel.ensures.counted;
  });
  uses = rw c.in-Cancel.is c.cancel.ensures.caches;
  valid = valid_still c.args.self.now c.cancel.new.self c.cancel.ensures.tree c.cancel.ensures.roots c.requires.2.sound.subtrees;
}

pub start-requires-clause-ranks : goal.start-requires-clause-ranks
start-requires-clause-ranks g c = c.requires.2.sound.ranks.caches ∙ sym c.requires.2.sound.ranks.inboxes

pub start-requires-clause-few : goal.start-requires-clause-few
start-requires-clause-few g c = few_ranks c.requires.0 (c.requires.1 ++ c.args.history.now.items) c.args.self.now c.requires.2.sound

pub returns-in-Serve-clause-stepped : goal.returns-in-Serve-clause-stepped
returns-in-Serve-clause-stepped g c = λ opening past behind.
    rw c.in-Serve.is (record {
      does = c.serve.ensures.served opening past behind;
      authorities = c.serve.ensures.kept.authorities;
      holders = c.serve.ensures.kept.holders;
      ranks = c.serve.ensures.count;
      capacity = c.serve.ensures.cap;
      counted = c.serve.ensures.counted;
    })

pub returns-in-Grant-clause-stepped : goal.returns-in-Grant-clause-stepped
returns-in-Grant-clause-stepped g c = λ opening past behind.
    let kept = keeps_same c.args.self.now.state.tree c.grant.new.self.state.tree c.args.self.now.state.roots c.grant.new.self.state.roots c.args.self.now.state.exports c.grant.new.self.state.exports c.grant.ensures.tree c.grant.ensures.roots c.grant.ensures.exports c.requires.2.sound.subtrees in
    rw c.in-Grant.is (record {
      does = c.grant.ensures.granted (past ++ c.args.history.now.items);
      authorities = kept.authorities;
      holders = kept.holders;
      ranks = c.grant.ensures.count;
      capacity = c.grant.ensures.cap;
      counted = c.grant.ensures.counted;
    })
