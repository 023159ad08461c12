use Rattle.ranked_tree.proofs.Common.{AsksFor, ComesWith, Covers, EndsWith, Err, FollowChange, Fragment, IfSome, Ino, IsNamedIn, IsSome, LacksToMake, List, LoseDirectory, NamesDir, NoneEnds, Option, Roots, Some, ap, came_cap, came_ranks, faults_in, held_in, inl, inr, keeps_itself, keeps_refused, leaves_of, length, reads_keeps, reads_none, reads_state, reads_weaker, refl, rules, shape_of, shown_tree, state_of, subst, sym, ◌∙◌, ◌≡◌, ◌≤◌}
use Rattle.ranked_tree.proofs.AskLaws.{told_change}
use Rattle.ranked_tree.proofs.HeldChanges.{changed_held, whole_came}
use Rattle.ranked_tree.proofs.DividedLaws.{change_divided}
use Rattle.ranked_tree.proofs.HeldLaws.{owned_reads}
use Rattle.ranked_tree.proofs.HolderLaws.{hold_each, named_held}
use Rattle.ranked_tree.proofs.ReadsForLaws.{asks_change}
use Rattle.ranked_tree.proofs.RenameLaws.{Settles, leaves_stay, room_still, settles}
use Rattle.ranked_tree.proofs.StandLaws.{undone}
use Rattle.ranked_tree.proofs.changing.change_tree.Goals as goal

pub returns-in-Err-clause-changed : goal.returns-in-Err-clause-changed
returns-in-Err-clause-changed g c = (keeps_refused c.args.tree.now c.args.tree.now c.in-Err.refusal (ap faults_in c.in-Err.ensures.refused) (keeps_itself c.args.tree.now), reads_none, inl c.in-Err.ensures.refused)

pub returns-in-Err-clause-divided : goal.returns-in-Err-clause-divided
returns-in-Err-clause-divided g c = undone c.args.tree.now c.args.tree.now c.args.regions.now c.reserve_lost.new.roots c.requires.divided c.requires.divided.owned refl refl c.reserve_lost.ensures.same c.reserve_lost.ensures.promises

pub change-requires-clause-holds : goal.change-requires-clause-holds
change-requires-clause-holds g c = hold_each (state_of c.args.tree.now) c.requires.divided.owned.sound.sound (held_in c.args.regions.now) c.args.tree.now.caches c.requires.divided.owned.held c.args.change c.requires.held

-- where the change isn't made, leaves were read
pub returns-in-Err-change-clause-changed : goal.returns-in-Err-change-clause-changed
returns-in-Err-change-clause-changed g c = (
  reads_keeps (IsNamedIn c.args.change) NoneEnds c.args.tree.now c.change.new.self c.in-Err-change.ensures.changed.0 (Some c.in-Err-change.refusal) c.in-Err-change.ensures.counted,
  reads_weaker (IsNamedIn c.args.change) NoneEnds
      (AsksFor (state_of c.args.tree.now) (held_in c.args.regions.now) (NamesDir c.args.change) (ComesWith (state_of c.args.tree.now) (held_in c.args.regions.now) c.args.change)) NoneEnds
      (asks_change c.args.tree.now (held_in c.args.regions.now) c.args.change c.requires.divided.owned.sound.sound c.requires.may c.requires.held) (λ r q none. none) c.args.tree.now.objects c.args.tree.now.caches c.change.new.self.caches
      c.in-Err-change.ensures.changed.0.caches,
  inr (told_change (Unit {0}) (LacksToMake c.args.change (state_of c.args.tree.now)) (Err c.in-Err-change.refusal) c.args.tree.now (held_in c.args.regions.now) c.args.change c.change.new.self.faults c.requires.divided.owned.sound.sound c.requires.may c.requires.held c.in-Err-change.ensures.changed.1),
)

pub returns-in-Err-change-clause-count : goal.returns-in-Err-change-clause-count
returns-in-Err-change-clause-count g c = (returns-in-Err-change-clause-changed g c).0.count

pub returns-in-Err-change-clause-cap : goal.returns-in-Err-change-clause-cap
returns-in-Err-change-clause-cap g c = (returns-in-Err-change-clause-changed g c).0.cap

pub returns-in-Err-change-clause-divided : goal.returns-in-Err-change-clause-divided
returns-in-Err-change-clause-divided g c =
    undone c.args.tree.now c.change.new.self c.args.regions.now c.reserve_lost.new.roots c.requires.divided
    (owned_reads (IsNamedIn c.args.change) NoneEnds c.args.tree.now c.change.new.self (held_in c.args.regions.now) c.in-Err-change.ensures.changed.0 c.in-Err-change.ensures.sound
    (named_held (state_of c.args.tree.now) c.requires.divided.owned.sound.sound (held_in c.args.regions.now) c.args.change c.requires.may c.requires.held) c.requires.divided.owned)
    (reads_state (IsNamedIn c.args.change) NoneEnds c.args.tree.now c.change.new.self c.in-Err-change.ensures.changed.0) (returns-in-Err-change-clause-count g c) c.reserve_lost.ensures.same c.reserve_lost.ensures.promises

-- where it is made, a directory that moved has the leaves that it had
pub settle-requires : goal.settle-requires
settle-requires g c =
    let stay = subst (λ (d : Option Ino). IfSome d (λ (dir : Ino). leaves_of c.args.tree.now.covers dir.0 ≡ leaves_of c.change.new.self.covers dir.0)) (sym c.moving-moves.ensures) (leaves_stay (state_of c.args.tree.now) (state_of c.change.new.self) c.args.change (shape_of (shown_tree (state_of c.args.tree.now)) c.args.tree.now.covers c.args.change c.requires.may) c.in_default-change.ensures.changed.right) in
    let has = subst (λ (cs : Covers). IfSome c.moving-moves.result (λ (dir : Ino). IsSome c.lost_rank-lost.result → length (leaves_of cs dir.0) ≤ c.reserve_lost.new.roots.room)) c.dirs.ensures.trees c.in_default.ensures.room in
    record {
      room = subst (λ (cs : Covers). IfSome c.moving-moves.result (λ (dir : Ino). IsSome c.lost_rank-lost.result → length (leaves_of cs dir.0) ≤ c.reserve_lost.new.roots.room)) (sym c.dirs-2.ensures.trees)
          (room_still c.moving-moves.result c.args.tree.now.covers c.change.new.self.covers (λ (dir : Ino) (cs : Covers). IsSome c.lost_rank-lost.result → length (leaves_of cs dir.0) ≤ c.reserve_lost.new.roots.room)
          (λ dir same fits some. subst (λ (fs : List Fragment). length fs ≤ c.reserve_lost.new.roots.room) same (fits some)) stay has);
    }

pub returns : goal.returns
returns g c =
    let its = c.in_default-change.ensures in
    let sound = c.requires.divided.owned.sound.sound in
    let came = whole_came c.args.change c.args.tree.now c.change.new.self its.changed in
    let count = came_ranks (IsNamedIn c.args.change) (EndsWith c.args.change) c.args.tree.now.caches c.change.new.self.caches came in
    let told = subst (λ (d : Option Ino). Settles d c.change.new.self.covers c.args.regions.now.roots.roots c.settle.new.roots.roots c.lost_rank-lost.result) c.moving-moves.ensures
    (subst (λ (cs : Covers). Settles c.moving-moves.result cs c.args.regions.now.roots.roots c.settle.new.roots.roots c.lost_rank-lost.result) c.dirs-2.ensures.trees
    (subst (λ (r : Roots). Settles c.moving-moves.result c.dirs-2.result.now.trees r c.settle.new.roots.roots c.lost_rank-lost.result) c.reserve_lost.ensures.same c.settle.ensures.settled)) in
    let roots : FollowChange c.args.change (state_of c.args.tree.now) c.args.regions.now.roots.roots c.lose.new.roots.roots = (
      c.settle.new.roots.roots,
      settles (state_of c.args.tree.now) (state_of c.change.new.self) sound c.args.regions.now.roots.roots c.settle.new.roots.roots c.lost_rank-lost.result c.args.change (shape_of (shown_tree (state_of c.args.tree.now)) c.args.tree.now.covers c.args.change c.requires.may) c.requires.may its.changed.right c.lost_rank-lost.ensures told,
      c.lose.ensures.roots,
    ) in
    let promises = subst (λ (p : Roots). LoseDirectory p c.lose.new.roots.promises c.args.change.gone) (c.settle.ensures.promises ∙ c.reserve_lost.ensures.promises) c.lose.ensures.promises in
    let kept = change_divided c.args.tree.now c.change.new.self c.args.regions.now c.lose.new.roots c.requires.divided its.sound count c.args.change c.requires.held c.requires.may its.changed.made roots promises c.requires.thawed came in
    let changed = changed_held c.args.tree.now c.change.new.self (held_in c.args.regions.now) c.args.change sound its.sound.sound c.requires.may c.requires.held its.changed in
    let cap = came_cap (IsNamedIn c.args.change) (EndsWith c.args.change) c.args.tree.now.caches c.change.new.self.caches came in
    search (rules, its, changed, roots, promises, kept, count, cap)
