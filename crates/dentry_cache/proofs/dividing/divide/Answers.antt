use Rattle.dentry_cache.proofs.Common.{arith, contents, entries_step, is_place, key_cmp, none_popped, popped_len, popped_there, refl, slice_index_or, ◌+◌, ◌∙◌, ◌≡◌}
use Rattle.std.specs.FinMap as map
use Rattle.dentry_cache.proofs.PartLaws.{are_children, filling_step, first_filling, room_there}
use Rattle.dentry_cache.proofs.dividing.divide.Goals as goal

pub loop-pair-init : goal.loop-pair-init
loop-pair-init c =
    record {
      count = refl;
      each = λ i d within. first_filling c.args.frag c.args.nb (contents key_cmp c.args.names) c.args.version i (slice_index_or c.args.parts.now.items i d) (c.requires.ready.each i d within);
      entries = c.requires.entries;
    }

pub put_in-requires-clause-recordable : goal.put_in-requires-clause-recordable
put_in-requires-clause-recordable c = (c.loop-pair.invariant.entries _ _ (popped_there _ _ _ c.in-Some.pair c.in-Some.is c.pop_first.ensures.value c.pop_first.ensures.rest)).recorded.allowed

pub put_in-requires-clause-room : goal.put_in-requires-clause-room
put_in-requires-clause-room c i d within here =
    let there = popped_there _ _ _ c.in-Some.pair c.in-Some.is c.pop_first.ensures.value c.pop_first.ensures.rest in
    room_there c.args.frag c.args.nb (contents key_cmp c.args.names) _ _ c.in-Some.pair c.args.version i (slice_index_or c.args.parts.now.items i d) (slice_index_or c.loop-pair.parts.items i d) (slice_index_or c.loop-pair.parts.items i d)
    there c.in-Some.ensures.removed (c.loop-pair.invariant.each i d (omega (arith, within, c.loop-pair.invariant.count))) (c.place_of-at.ensures i ∙ here)

pub loop-pair-smaller : goal.loop-pair-smaller
loop-pair-smaller c =
    let one : map.len (contents key_cmp c.loop-pair.names) ≡ map.len (contents key_cmp c.pop_first.new.self) + 1 = popped_len _ _ _ c.in-Some.pair c.in-Some.is c.pop_first.ensures.value c.pop_first.ensures.rest in
    omega (arith, one)

pub loop-pair-preserved : goal.loop-pair-preserved
loop-pair-preserved c =
    let there = popped_there _ _ _ c.in-Some.pair c.in-Some.is c.pop_first.ensures.value c.pop_first.ensures.rest in
    record {
      count = c.put_in.ensures.count ∙ c.loop-pair.invariant.count;
      each = λ i d within.
          filling_step c.args.frag c.args.nb (contents key_cmp c.args.names) _ _ c.in-Some.pair c.args.version i (slice_index_or c.args.parts.now.items i d) (slice_index_or c.loop-pair.parts.items i d) (slice_index_or c.put_in.new.parts.items i d)
          there c.in-Some.ensures.removed (c.loop-pair.invariant.each i d within) (is_place c.place_of-at.result i) (c.place_of-at.ensures i) (c.put_in.ensures.each i d (omega (arith, within, c.loop-pair.invariant.count)));
      entries = entries_step _ _ c.in-Some.pair there c.in-Some.ensures.removed c.loop-pair.invariant.entries;
    }

pub returns : goal.returns
returns c =
    are_children c.args.frag c.args.nb (contents key_cmp c.args.names) _ c.args.version c.args.parts.now.items c.loop-pair.parts.items c.loop-pair.invariant.count (none_popped _ _ c.in_default.is c.pop_first.ensures.value) c.loop-pair.invariant.each
