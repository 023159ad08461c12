use Rattle.dentry_cache.proofs.Common.{length, sizes_of, subst, sym, ◌∙◌, ◌≤◌}
use Rattle.dentry_cache.proofs.CandidateRoom.{fits_in, room_large, room_small}
use Rattle.dentry_cache.proofs.CandidateSteps.{sets_kept, sets_now}
use Rattle.dentry_cache.proofs.candidates.Candidates.resize.Goals as goal

pub keep_large-requires-clause-room : goal.keep_large-requires-clause-room
keep_large-requires-clause-room c = λ is none.
    fits_in _ _ _ (room_large c.args.leaf.now c.args.was c.args.now c.requires.sizes c.args.places.now.entries c.requires.resized c.args.self.now.large.leaves.items c.requires.sets.large_rise c.requires.sets.large_are is none) c.requires.room.large

pub keep_small-requires-clause-room : goal.keep_small-requires-clause-room
keep_small-requires-clause-room c = λ q fragment low is none.
    fits_in _ _ _ (room_small c.args.leaf.now c.args.was c.args.now c.requires.sizes c.args.places.now.entries c.requires.resized c.args.self.now.small.leaves.items c.requires.sets.small_rise c.requires.sets.small_are c.requires.sets.fragments q fragment low is none) c.requires.room.small

pub returns-then-any_few : goal.returns-then-any_few
returns-then-any_few c = record {
  sets =
      sets_now c.args.leaf.now c.args.was c.args.now c.requires.sizes (sizes_of c.args.places.now.entries) c.requires.resized c.args.self.now.large.leaves.items c.args.self.now.small.leaves.items c.keep_large.new.large.leaves.items c.requires.sets
      c.keep_large.ensures.rise c.keep_large.ensures.each c.keep_small.new.small.leaves.items c.keep_small.ensures.rise c.keep_small.ensures.each c.keep_small.ensures.fragments;
  room = record {
    large = subst (λ n. length c.args.places.now.entries ≤ n) (sym c.keep_large.ensures.capacity) c.requires.room.large;
    small = subst (λ n. length c.args.places.now.entries ≤ n) (sym c.keep_small.ensures.capacity) c.requires.room.small;
  };
}

pub returns-else-any_few : goal.returns-else-any_few
returns-else-any_few c = record {
  sets =
      sets_kept c.args.leaf.now c.args.was c.args.now c.requires.sizes (sizes_of c.args.places.now.entries) c.requires.resized c.args.self.now.large.leaves.items c.args.self.now.small.leaves.items c.keep_large.new.large.leaves.items c.requires.sets
      c.keep_large.ensures.rise c.keep_large.ensures.each (sym c.any_few.ensures ∙ c.if-any_few.false);
  room = record {
    large = subst (λ n. length c.args.places.now.entries ≤ n) (sym c.keep_large.ensures.capacity) c.requires.room.large;
    small = c.requires.room.small;
  };
}
