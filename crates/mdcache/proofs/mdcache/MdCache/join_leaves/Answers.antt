use Rattle.mdcache.proofs.Common.{Contains, HasJoined, IsAmong, IsThat, NoneEnds, State, [], ap, leaves_in, names_of, refl, rules, subst, sym, unclean, ℕ, ◌∙◌, ◌∷◌, ◌≡◌}
use Rattle.mdcache.proofs.CoreLaws.{not_found_before, reads_core_on, reads_core_wider, reads_itself, reads_state}
use Rattle.mdcache.proofs.JoinLaws.{joined_on, part_among}
use Rattle.mdcache.proofs.JoinSteps.{hold_on, live_on}
use Rattle.mdcache.proofs.mdcache.MdCache.join_leaves.Goals as goal

pub loop-part-init : goal.loop-part-init
loop-part-init g c = record { reads = reads_itself (IsAmong c.args.at.now.rank.0 (leaves_in c.args.at.now.dir c.args.leaves.now)) NoneEnds c.args.self.now; sound = c.requires.sound; none = c.requires.none; faults = refl; base = refl; generation = refl; dirty = λ name. refl }

pub join_leaf-requires : goal.join_leaf-requires
join_leaf-requires g c =
    let inv = c.loop-part.invariant in
    let m = c.requires.live (c.args.at.now.dir, c.part-item.result) (part_among c.args.at.now.dir c.args.leaves.now c.loop-part.part-index c.part-item.result c.loop-part-test.true c.part-item.is) in
    record {
      sound = inv.sound;
      none = inv.none;
      live = live_on _ _ c.args.self.now c.loop-part.self inv.reads (c.args.at.now.dir, c.part-item.result) m.0;
      holds = hold_on _ _ c.args.self.now c.loop-part.self inv.reads c.requires.sound (record { dir = c.args.at.now.dir; frag = c.part-item.result; rank = c.args.at.now.rank }) (λ r is. is.0) m.0 m.1;
    }

pub loop-part-preserved : goal.loop-part-preserved
loop-part-preserved g c =
    let inv = c.loop-part.invariant in
    let told : names_of (unclean c.loop-part.self.caches) c.loop-part.self.objects (c.args.at.now.dir, c.part-item.result) ≡ names_of (unclean c.args.self.now.caches) c.args.self.now.objects (c.args.at.now.dir, c.part-item.result) = ap (λ (s : State). names_of s.unsaved s.objects (c.args.at.now.dir, c.part-item.result)) (reads_state (IsAmong c.args.at.now.rank.0 (leaves_in c.args.at.now.dir c.args.leaves.now)) NoneEnds c.args.self.now c.loop-part.self inv.reads) in
    let version : c.loop-part.self.next_version ≡ c.args.self.now.next_version = ap (λ (s : State). s.next_version) (reads_state (IsAmong c.args.at.now.rank.0 (leaves_in c.args.at.now.dir c.args.leaves.now)) NoneEnds c.args.self.now c.loop-part.self inv.reads) in
    record {
      reads = reads_core_on (IsAmong c.args.at.now.rank.0 (leaves_in c.args.at.now.dir c.args.leaves.now)) NoneEnds c.args.self.now c.loop-part.self c.join_leaf.new.self inv.reads
          (reads_core_wider (IsThat c.args.at.now.rank.0 (c.args.at.now.dir, c.part-item.result)) (IsAmong c.args.at.now.rank.0 (leaves_in c.args.at.now.dir c.args.leaves.now)) NoneEnds NoneEnds c.loop-part.self c.join_leaf.new.self (λ r q is. (is.0, subst (Contains (leaves_in c.args.at.now.dir c.args.leaves.now)) (sym is.1) (part_among c.args.at.now.dir c.args.leaves.now c.loop-part.part-index c.part-item.result c.loop-part-test.true c.part-item.is))) (λ r q is. is) c.join_leaf.ensures.reads);
      sound = c.join_leaf.ensures.sound;
      none = c.join_leaf.ensures.none;
      faults = (let told : c.join_leaf.new.self.faults ≡ c.loop-part.self.faults = search rules in told ∙ inv.faults);
      base = c.in_default.ensures.joined.base ∙ inv.base;
      generation = c.in_default.ensures.joined.generation ∙ inv.generation;
      dirty = λ name.
          joined_on (names_of (unclean c.args.self.now.caches) c.args.self.now.objects) (names_of (unclean c.loop-part.self.caches) c.loop-part.self.objects) c.args.self.now.next_version c.args.at.now.dir c.args.leaves.now c.loop-part.part-index c.part-item.result
          c.loop-part.joined c.join_leaf.new.joined c.loop-part-test.true c.part-item.is told (subst (λ (v : ℕ). HasJoined (names_of (unclean c.loop-part.self.caches) c.loop-part.self.objects) v ((c.args.at.now.dir, c.part-item.result) ∷ []) c.loop-part.joined c.join_leaf.new.joined) version c.in_default.ensures.joined) name
          ∙ inv.dirty name;
    }

pub returns-in-Err-clause-reads : goal.returns-in-Err-clause-reads
returns-in-Err-clause-reads g c = reads_core_on (IsAmong c.args.at.now.rank.0 (leaves_in c.args.at.now.dir c.args.leaves.now)) NoneEnds c.args.self.now c.loop-part.self c.join_leaf.new.self c.loop-part.invariant.reads
    (reads_core_wider (IsThat c.args.at.now.rank.0 (c.args.at.now.dir, c.part-item.result)) (IsAmong c.args.at.now.rank.0 (leaves_in c.args.at.now.dir c.args.leaves.now)) NoneEnds NoneEnds c.loop-part.self c.join_leaf.new.self (λ r q is. (is.0, subst (Contains (leaves_in c.args.at.now.dir c.args.leaves.now)) (sym is.1) (part_among c.args.at.now.dir c.args.leaves.now c.loop-part.part-index c.part-item.result c.loop-part-test.true c.part-item.is))) (λ r q is. is) c.join_leaf.ensures.reads)

pub returns-in-Err-clause-refused : goal.returns-in-Err-clause-refused
returns-in-Err-clause-refused g c = not_found_before (IsAmong c.args.at.now.rank.0 (leaves_in c.args.at.now.dir c.args.leaves.now)) NoneEnds c.args.self.now c.loop-part.self c.loop-part.invariant.reads 1 c.args.at.now.rank.0 c.join_leaf.new.self.faults c.in-Err.refusal c.loop-part.invariant.faults c.in-Err.ensures.refused
