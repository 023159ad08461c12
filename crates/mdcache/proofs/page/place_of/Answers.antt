use Rattle.mdcache.proofs.Common.{Equal, Greater, IsGap, Less, Ordering, always_returns_same, ap, arith, drop, drop_of_length-le, gap_behind, is_gt, key_cmp, length, nat_list_cmp_total, ordering_reverse, refl, rules, searched, subst, suc, sym, true, zero, ℕ, ◌-◌, ◌∙◌, ◌≡◌}
use Rattle.mdcache.proofs.page.place_of.Goals as goal

-- the closure turns what the name compares as
pub returns-clause-place : goal.returns-clause-place
returns-clause-place c =
    let found = c.binary_search_by.ensures in
    searched nat_list_cmp_total _ _ _ c.requires found.bound (found.position (λ y. ordering_reverse (key_cmp c.args.name.now y.0)) (always_returns_same _ _ _ (λ a r f called. search rules)))

greater : (r : Ordering) → is_gt r ≡ true → r ≡ Greater
greater Less e = cc
greater Equal e = cc
greater Greater e = refl

-- a name behind the last row goes to the end
pub returns-then-is_gt-clause-place : goal.returns-then-is_gt-clause-place
returns-then-is_gt-clause-place c =
    let rows = c.args.rows.now in
    let last : ℕ = length rows - 1 in
    let next : length rows ≡ suc last = omega (arith, c.if-len-gt0.true) in
    let here = sym c.cmp.ensures ∙ greater c.cmp.result (sym c.is_gt.ensures ∙ c.if-is_gt.true) in
    let none = ap (λ n. drop n rows) (sym next) ∙ drop_of_length-le rows (omega arith) in
    subst (IsGap key_cmp c.args.name.now rows) (sym next)
    (gap_behind nat_list_cmp_total c.args.name.now rows last c.index-rows-len.result c.requires (omega (arith, next)) here (subst (λ l. IsGap key_cmp c.args.name.now l zero) (sym none) tt))
