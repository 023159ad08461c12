use Rattle.cached_frag.proofs.Common.{Inode, Option, ap, arith, contents, key_cmp, marked_as, shown_names, shown_as, sym, ◌+◌, ◌<◌, ◌∙◌, ◌≡◌}
use Rattle.std.specs.FinMap as map
use Rattle.cached_frag.proofs.MovedLaws.{dirty_step, entries_step, none_len, none_popped, popped_len, popped_there, room_step, same_step, shown_step}
use Rattle.cached_frag.proofs.named.fragments.NamedFrag.join.Goals as goal

pub put-requires-clause-recordable : goal.put-requires-clause-recordable
put-requires-clause-recordable c = (c.loop-pair.invariant.entries _ _ (popped_there _ _ _ c.in-Some.pair c.in-Some.is c.pop_first.ensures.value c.pop_first.ensures.rest)).recorded.allowed

pub put-requires-clause-room : goal.put-requires-clause-room
put-requires-clause-room c =
    let one : map.len (contents key_cmp c.loop-pair.names) ≡ map.len (contents key_cmp c.pop_first.new.self) + 1 = popped_len _ _ _ c.in-Some.pair c.in-Some.is c.pop_first.ensures.value c.pop_first.ensures.rest in
    omega (arith, one, c.loop-pair.invariant.few)

pub loop-pair-smaller : goal.loop-pair-smaller
loop-pair-smaller c =
    let one : map.len (contents key_cmp c.loop-pair.names) ≡ map.len (contents key_cmp c.pop_first.new.self) + 1 = popped_len _ _ _ c.in-Some.pair c.in-Some.is c.pop_first.ensures.value c.pop_first.ensures.rest in
    omega (arith, one)

pub loop-pair-preserved : goal.loop-pair-preserved
loop-pair-preserved c =
    let there = popped_there _ _ _ c.in-Some.pair c.in-Some.is c.pop_first.ensures.value c.pop_first.ensures.rest in
    let one : map.len (contents key_cmp c.loop-pair.names) ≡ map.len (contents key_cmp c.pop_first.new.self) + 1 = popped_len _ _ _ c.in-Some.pair c.in-Some.is c.pop_first.ensures.value c.pop_first.ensures.rest in
    let some : 0 < c.loop-pair.self.room = omega (arith, one, c.loop-pair.invariant.few) in
    let less : c.put.new.self.room + 1 ≡ c.loop-pair.self.room = room_step _ _ c.in-Some.pair there c.in-Some.ensures.removed c.loop-pair.self c.put.new.self c.args.version c.put.ensures.marked some in
    record {
      dirty = λ q. dirty_step _ _ c.in-Some.pair there c.in-Some.ensures.removed c.loop-pair.self c.put.new.self c.args.version c.put.ensures.marked q ∙ c.loop-pair.invariant.dirty q;
      shown = λ q. shown_step _ _ c.in-Some.pair there c.in-Some.ensures.removed c.loop-pair.self c.put.new.self c.args.version c.put.ensures.marked q ∙ c.loop-pair.invariant.shown q;
      same = same_step _ _ c.in-Some.pair there c.in-Some.ensures.removed c.loop-pair.self c.put.new.self c.args.version c.put.ensures.marked c.args.self.now c.loop-pair.invariant.same;
      room = omega (arith, one, less, c.loop-pair.invariant.room);
      few = omega (arith, one, less, c.loop-pair.invariant.few);
      entries = entries_step _ _ c.in-Some.pair there c.in-Some.ensures.removed c.loop-pair.invariant.entries;
    }

pub returns : goal.returns
returns c =
    let none = none_popped _ _ c.in_default.is c.pop_first.ensures.value in
    let zero : map.len (contents key_cmp c.loop-pair.names) ≡ 0 = none_len _ _ c.in_default.is c.pop_first.ensures.value in
    record {
      dirty = λ q. sym (ap (λ (r : Option Inode). marked_as c.args.version r (map.get c.loop-pair.self.dirty q)) (none q)) ∙ c.loop-pair.invariant.dirty q;
      shown = λ q. sym (ap (λ (r : Option Inode). shown_as r (map.get (shown_names c.loop-pair.self) q)) (none q)) ∙ c.loop-pair.invariant.shown q;
      room = omega (arith, zero, c.loop-pair.invariant.room);
      same = c.loop-pair.invariant.same;
    }
