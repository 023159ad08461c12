use Rattle.sorted_map.proofs.Common.{[], ap, arith, get_or, length, refl, set, with_value, ◌∙◌}
use Rattle.sorted_map.proofs.ChunkLaws.{got, counted_set, few_at}
use Rattle.sorted_map.proofs.FlatLaws.{value_length}
use Rattle.sorted_map.proofs.chunks.row.Chunks.value_mut.Goals as goal

pub invariant_of-self-lent : goal.invariant_of-self-lent
invariant_of-self-lent g c = λ w.
    let s = c.self.invariant in
    let cs = c.self.inside.row.items in
    let lt = rw (← c.self.view_is) at c.requires.home in
    let old = ap length (got cs c.args.home c.index_mut.result.now [] lt c.index_mut.ensures.value) in
    let new = value_length c.index_mut.result.now c.args.at w in (
      counted_set s.0 c.args.home (with_value c.index_mut.result.now c.args.at w) c.self.inside.len c.self.inside.extra lt (omega (arith, new, old, few_at cs c.args.home lt s.0.few)) (omega (arith, new, old)) (omega (arith, new, old)),
      s.1,
      s.2,
      s.3,
      s.4,
    )

pub returns : goal.returns
returns g c =
    let is = got c.self.inside.row.items c.args.home c.index_mut.result.now [] (rw (← c.self.view_is) at c.requires.home) c.index_mut.ensures.value in
    rw (← c.self.view_is) (
      (refl, λ w i. record { lists = set c.self.inside.row.items c.args.home (with_value (is i) c.args.at w); spare = c.self.inside.ready }),
      record { writes_back = tt; value = λ d. c.value_mut.ensures.value d ∙ ap (λ l. (get_or l c.args.at d).1) is },
    )
