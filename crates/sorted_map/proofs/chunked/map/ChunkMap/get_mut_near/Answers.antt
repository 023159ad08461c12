use Rattle.sorted_map.proofs.Common.{IsKeyAt, IsTotalOrder, List, Ordering, Some, T, [], ap, arith, entries-from_sorted, flat, get_or, length, refl, room_by, set, items_before, sym, with_value, ℕ, ◌+◌, ◌<◌, ◌∙◌, ◌≡◌}
use Rattle.std.specs.FinMap as map
use Rattle.std.specs.FinMap.Entries.{is_sorted}
use Rattle.sorted_map.proofs.ChunkLaws.{one_of}
use Rattle.sorted_map.proofs.ContentLaws.{put_in_place, same_loan, value_at, got_gap}
use Rattle.sorted_map.proofs.FlatLaws.{flat_get, some_at, some_set, value_flat, value_length}
use Rattle.sorted_map.proofs.RoomLaws.{same_load}
use Rattle.sorted_map.proofs.chunked.map.ChunkMap.get_mut_near.Goals as goal

-- a value that is written is inserted
written : {K V : Type 0} {R : K → K → Ordering} (o : IsTotalOrder R) (k : K) (w : V) (cs : List (List (K × V))) (i at : ℕ) → T (is_sorted R (flat cs)) → IsKeyAt R k (flat cs) (items_before cs i + at) → i < length cs → at < length (get_or cs i [])
    → flat (set cs i (with_value (get_or cs i []) at w)) ≡ map.entries (map.insert (map.from_sorted {R = R} (flat cs)) k w)
written {R = R} o k w cs i at s place lt within =
    let new = put_in_place o k w (flat cs) _ _ s place (λ d. value_flat cs i at d w lt within) in
    sym (entries-from_sorted R _ new.0) ∙ ap map.entries new.1

-- the order does not read the values
pub invariant_of-self-lent : goal.invariant_of-self-lent
invariant_of-self-lent g c = λ w.
    let cs = c.self.inside.chunks.lists in
    let home = c.spot_near.result.0 in
    let at = c.in_default-Ok.at in
    let found = rw (c.in_default-Ok.is-1, c.row.ensures.row) at c.spot_near.ensures in
    let len = value_length (get_or cs home []) at w in (
      (put_in_place g.met.K.Ord.total (g.Q.Probe.key c.args.q.now) w (flat cs) _ _ c.self.invariant.0 found.place (λ d. value_flat cs home at d w found.found found.within)).0,
      some_set cs home _ c.self.invariant.1 (omega (arith, len, some_at cs home found.found c.self.invariant.1)),
    )

pub returns-in_default-Ok : goal.returns-in_default-Ok
returns-in_default-Ok g c =
    let cs = c.self.inside.chunks.lists in
    let home = c.spot_near.result.0 in
    let at = c.in_default-Ok.at in
    let found = rw (c.in_default-Ok.is-1, c.row.ensures.row) at c.spot_near.ensures in
    let key = g.Q.Probe.key c.args.q.now in
    let d = one_of (get_or cs home []) at found.within in
    let value = c.value_mut.ensures.value d ∙ ap (λ x. x.1) (sym (flat_get cs home at d found.within)) in
    rw (← c.self.view_is) (
      same_loan _ _ _ (λ w i. record {
        entries = written g.met.K.Ord.total key w cs home at c.self.invariant.0 found.place found.found found.within i;
        room = room_by c.self.inside.chunks.spare (same_load cs home (with_value (get_or cs home []) at w) (value_length (get_or cs home []) at w) i);
      }),
      record { writes_back = tt; value = ap Some value ∙ value_at _ _ c.self.invariant.0 _ _ d found.place },
    )

pub returns-in_default-Err : goal.returns-in_default-Err
returns-in_default-Err g c =
    let place = rw (c.in_default-Err.is-1, c.row.ensures.row) at c.spot_near.ensures.place in
    rw (← c.self.view_is) (refl, record { writes_back = tt; value = got_gap _ _ c.self.invariant.0 _ _ place })
