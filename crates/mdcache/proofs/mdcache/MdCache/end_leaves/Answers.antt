use Rattle.mdcache.proofs.Common.{Core, Fragment, List, [], ap, arith, drop, leaves_in, length, sym, without_frags, ◌+◌, ◌∙◌, ◌∷◌, ◌≡◌}
use Rattle.std.proofs.lemmas.List.{drop_all}
use Rattle.mdcache.proofs.JoinLaws.{next_of}
use Rattle.mdcache.proofs.mdcache.MdCache.end_leaves.Goals as goal

pub end_leaf-requires-clause-room : goal.end_leaf-requires-clause-room
end_leaf-requires-clause-room g c =
    let steps = next_of c.args.leaves.now c.loop-leaf.leaf-index c.leaf-item.result c.loop-leaf-test.true c.leaf-item.is in
    omega (arith, c.loop-leaf.invariant.room, ap (length {A = Fragment}) steps)

pub loop-leaf-preserved : goal.loop-leaf-preserved
loop-leaf-preserved g c =
    let inv = c.loop-leaf.invariant in
    let rest = drop (c.loop-leaf.leaf-index + 1) c.args.leaves.now in
    let steps : drop c.loop-leaf.leaf-index c.args.leaves.now ≡ c.leaf-item.result ∷ rest = next_of c.args.leaves.now c.loop-leaf.leaf-index c.leaf-item.result c.loop-leaf-test.true c.leaf-item.is in
    record {
      ended = λ room.
          ap (λ (k : Core). without_frags k (leaves_in c.args.dir rest) room) c.end_leaf.ensures.ended
          ∙ sym (ap (λ (fs : List Fragment). without_frags c.loop-leaf.self (leaves_in c.args.dir fs) room) steps) ∙ inv.ended room;
      room = omega (arith, inv.room, ap (length {A = Fragment}) steps, c.end_leaf.ensures.room);
      none = c.end_leaf.ensures.none;
    }

pub returns-clause-ended : goal.returns-clause-ended
returns-clause-ended g c =
    let none : drop c.loop-leaf.leaf-index c.args.leaves.now ≡ [] = drop_all c.loop-leaf.leaf-index c.args.leaves.now (omega (arith, c.loop-leaf-test.false)) in
    sym (ap (λ (fs : List Fragment). without_frags c.loop-leaf.self (leaves_in c.args.dir fs) c.loop-leaf.self.room) none) ∙ c.loop-leaf.invariant.ended c.loop-leaf.self.room
