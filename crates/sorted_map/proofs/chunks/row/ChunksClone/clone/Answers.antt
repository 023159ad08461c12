use Rattle.sorted_map.proofs.Common.{ClonePair, arith}
use Rattle.sorted_map.proofs.CloneLaws.{zip_counted, zip_flat, zip_some, zip_length}
use Rattle.sorted_map.proofs.chunks.row.ChunksClone.clone.Goals as goal

pub invariant_of-result : goal.invariant_of-result
invariant_of-result g c =
    let s = c.self.invariant in
    let old = c.self.inside.row in
    let new = c.in_ok-row.row in
    let P = ClonePair g.K.Clone.is_clone g.V.Clone.is_clone in
    let all = c.in_ok-row.ensures.cases.0 in
    let len = c.in_ok-spare.ensures.len in
    let count = zip_length _ old.items new.items all in (
      zip_counted P old.items new.items all s.0,
      omega arith,
      omega (arith, len, new.ok),
      omega (arith, len, c.in_ok-spare.ensures.capacity, c.len.ensures),
      omega (arith, len, s.4, count, old.ok.0, new.ok.0),
    )

pub returns : goal.returns
returns g c =
    let old = c.self.inside.row in
    let new = c.in_ok-row.row in
    let P = ClonePair g.K.Clone.is_clone g.V.Clone.is_clone in
    let all = c.in_ok-row.ensures.cases.0 in
    rw (← c.self.view_is) (record { cases = (zip_flat P old.items new.items all, zip_some P old.items new.items all) })
