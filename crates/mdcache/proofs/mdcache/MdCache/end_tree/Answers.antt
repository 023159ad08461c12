use Rattle.mdcache.proofs.Common.{Core, Fragment, List, ap, arith, leaves_in, length, sym, without_frags, ◌∙◌}
use Rattle.mdcache.proofs.mdcache.MdCache.end_tree.Goals as goal

pub end_leaf-requires-clause-room : goal.end_leaf-requires-clause-room
end_leaf-requires-clause-room g c = omega (arith, c.loop-leaf.invariant.room, ap (length {A = Fragment}) c.in-Some.ensures.steps)

pub loop-leaf-preserved : goal.loop-leaf-preserved
loop-leaf-preserved g c =
    let inv = c.loop-leaf.invariant in
    let rest = c.next.new.self in
    record {
      ended = λ room.
          ap (λ (k : Core). without_frags k (leaves_in c.args.dir rest) room) c.end_leaf.ensures.ended
          ∙ sym (ap (λ (fs : List Fragment). without_frags c.loop-leaf.self (leaves_in c.args.dir fs) room) c.in-Some.ensures.steps) ∙ inv.ended room;
      room = omega (arith, inv.room, ap (length {A = Fragment}) c.in-Some.ensures.steps, c.end_leaf.ensures.room);
      none = c.end_leaf.ensures.none;
    }

pub returns-clause-ended : goal.returns-clause-ended
returns-clause-ended g c = sym (ap (λ (fs : List Fragment). without_frags c.loop-leaf.self (leaves_in c.args.dir fs) c.loop-leaf.self.room) c.in-None.ensures.steps.0) ∙ c.loop-leaf.invariant.ended c.loop-leaf.self.room
