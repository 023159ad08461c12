use Rattle.std.proofs.Common.{◌≡◌, ◌∙◌, ap, arith, subst, sym, rules}
use Rattle.std.specs.FinMap as map
use Rattle.sqlite_trees.specs.View.{IsClean}
use Rattle.object_tables.specs.Entries.{PutsRow}
use Rattle.object_tables.specs.Noted.{is_key_of}
use Rattle.object_tables.specs.Spelled.{SpellsBut, pair_key, value_at}
use Rattle.object_tables.proofs.SpelledLaws.{right_put, value_put}
use Rattle.object_tables.proofs.StoreLaws.{others_then, writes_on}
use Rattle.object_tables.proofs.writing.write_pairs.Goals as goal

pub loop-spot-preserved : goal.loop-spot-preserved
loop-spot-preserved g c =
    let mid = g.T.Store.view c.loop-spot.trees in
    let new = g.T.Store.view c.put_pair.new.trees in
    let objects = c.args.objects.now in
    let n = c.in-Some.field-0.now.0.0 in
    let k = c.in-Some.field-0.now.0.1 in (
      λ clean names right spelled.
          let early : IsClean mid = omega (arith, c.put_pair.ensures.quiet.clean) in
          let before = c.loop-spot.invariant.0 early names right spelled in
          let at = subst (λ l. SpellsBut mid.trees objects names (is_key_of l)) c.in-Some.ensures.steps before.0 in
          let value = c.value_of-value.ensures ∙ (let same : c.as_str.result.now ≡ n = cc in ap (λ x. value_at objects x k) same) in
          let put : PutsRow mid new 1 (pair_key n k) (value_at objects n k) = subst (PutsRow mid new 1 (pair_key n k)) value
          (c.in_ok-put_pair.ensures.ok clean at.pairs_are
          (λ is_new v row. value ∙ before.1 n k v (sym c.contains-is_new.ensures ∙ is_new) row)) in
          (value_put mid new objects n k c.next.new.self names put at, right_put mid new objects n k (map.contains_key c.args.fresh.now) put before.1),
      λ clean. writes_on (g.T.Store.view c.args.trees.now) mid new (c.loop-spot.invariant.1 (omega (arith, c.put_pair.ensures.quiet.clean))) (c.in_ok-put_pair.ensures.frame clean),
      search rules,
      search rules,
      λ clean. others_then (g.T.Store.view c.args.trees.now) mid new 1 (c.loop-spot.invariant.4 (omega (arith, c.put_pair.ensures.quiet.clean))) (c.in_ok-put_pair.ensures.others clean),
    )

pub returns-clause-ok : goal.returns-clause-ok
returns-clause-ok g c clean names right spelled =
    subst (λ l. SpellsBut (g.T.Store.view c.loop-spot.trees).trees c.args.objects.now names (is_key_of l)) c.in_default.ensures.steps.0
    (c.loop-spot.invariant.0 clean names right spelled).0
