use Rattle.std.proofs.Common.{◌≡◌, ◌∙◌, ap, arith, subst, sym, rules, refl, true, is_some, inl, inr}
use Rattle.sqlite_trees.specs.View.{IsClean}
use Rattle.objstore.specs.Objects.{header_at}
use Rattle.object_tables.specs.Entries.{HasRow, PutsRow}
use Rattle.object_tables.specs.Noted.{is_name_of}
use Rattle.object_tables.specs.Spelled.{SpellsBut, object_key}
use Rattle.object_tables.proofs.SpelledLaws.{header_put, listing_put, none_fresh, right_after}
use Rattle.object_tables.proofs.StoreLaws.{others_then, writes_on}
use Rattle.object_tables.proofs.writing.write_headers.Goals as goal

pub loop-name-init : goal.loop-name-init
loop-name-init g c = (search rules, search rules, search rules, search rules, λ clean keys spelled owners. none_fresh _ _ c.args.objects.now _ refl c.new-fresh.ensures, λ clean t away. refl)

pub loop-name-preserved : goal.loop-name-preserved
loop-name-preserved g c =
    let mid = g.T.Store.view c.loop-name.trees in
    let new = g.T.Store.view c.put_header.new.trees in
    let objects = c.args.objects.now in
    let name = c.in-Some.field-0.now.0 in
    let n = c.as_str-name.result.now in
    let same : n ≡ name = cc in
    let header = c.header_of-header.ensures ∙ ap (header_at objects) same in
    let put_of : IsClean new → (keys : _) → SpellsBut (g.T.Store.view c.args.trees.now).trees objects (is_name_of c.args.names) keys
    → PutsRow mid new 0 (object_key name) (header_at objects name) = λ clean keys spelled.
    let early : IsClean mid = omega (arith, c.put_header.ensures.quiet.clean) in
    let before = c.loop-name.invariant.0 early keys spelled in
    subst (λ x. PutsRow mid new 0 (object_key x) (header_at objects name)) same
    (subst (PutsRow mid new 0 (object_key n)) header (c.in_ok-is_new.ensures.ok clean before.objects_are)) in (
      λ clean keys spelled.
          let early : IsClean mid = omega (arith, c.put_header.ensures.quiet.clean) in
          let at = subst (λ l. SpellsBut mid.trees objects (is_name_of l) keys) c.in-Some.ensures.steps (c.loop-name.invariant.0 early keys spelled) in
          header_put mid new objects name c.next.new.self keys (put_of clean keys spelled) at,
      λ clean. writes_on (g.T.Store.view c.args.trees.now) mid new (c.loop-name.invariant.1 (omega (arith, c.put_header.ensures.quiet.clean))) (c.in_ok-is_new.ensures.frame clean),
      search rules,
      search rules,
      λ clean keys spelled owners.
          let early : IsClean mid = omega (arith, c.put_header.ensures.quiet.clean) in
          listing_put (g.T.Store.view c.args.trees.now).trees mid new objects name c.loop-name.fresh c.note_new.new.fresh c.in_ok-is_new.is_new owners
          (c.loop-name.invariant.4 early keys spelled owners) (put_of clean keys spelled)
          (λ is_new. let it = c.in_ok-is_new.ensures.new clean is_new in
          (subst (λ o. is_some o ≡ true) header it.0, λ row. it.1 (subst (λ x. HasRow (mid.trees 0) (object_key x)) (sym same) row)))
          (λ m there. elim (c.in_ok-note_new.ensures m there) [ inl was ↦ inl was | inr is ↦ inr (is.0 ∙ same, is.1) ]),
      λ clean. others_then (g.T.Store.view c.args.trees.now) mid new 0 (c.loop-name.invariant.5 (omega (arith, c.put_header.ensures.quiet.clean))) (c.in_ok-is_new.ensures.others clean),
    )

pub returns-clause-ok : goal.returns-clause-ok
returns-clause-ok g c clean keys spelled =
    subst (λ l. SpellsBut (g.T.Store.view c.loop-name.trees).trees c.args.objects.now (is_name_of l) keys) c.in_default.ensures.steps.0
    (c.loop-name.invariant.0 clean keys spelled)

pub returns-clause-fresh : goal.returns-clause-fresh
returns-clause-fresh g c clean keys spelled owners =
    right_after (g.T.Store.view c.args.trees.now).trees (g.T.Store.view c.loop-name.trees).trees c.args.objects.now c.loop-name.fresh
    (c.loop-name.invariant.4 clean keys spelled owners)
