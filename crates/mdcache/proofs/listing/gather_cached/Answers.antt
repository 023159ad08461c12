use Rattle.mdcache.proofs.Common.{Cached, HasCached, IsPageOf, IsThere, List, Option, NamedInode, ap, is_some, key_cmp, option_copied, puts, refl, rows_after, rows_left, shown_names, subst, sym, ◌∙◌, ◌≡◌}
use Rattle.std.proofs.Common.{Bor, None, Some, true}
use Rattle.std.specs.FinMap as map
use Rattle.mdcache.proofs.GatherLaws.{leaf_taken}
use Rattle.mdcache.proofs.listing.gather_cached.Goals as goal

-- a fragment that is there is found
found : (o : Option (Bor Cached)) → IsThere (option_copied o) → is_some o ≡ true
found None there = absurd there
found (Some fragment) there = refl

pub unwrap-fragment-requires : goal.unwrap-fragment-requires
unwrap-fragment-requires c = found c.get.result (subst IsThere (sym c.get.ensures) c.requires.cached)

pub returns-in-Ok-clause-page : goal.returns-in-Ok-clause-page
returns-in-Ok-clause-page c =
    subst (λ (o : Option Cached). HasCached o (λ (f : Cached). (whole : List NamedInode) → IsPageOf whole c.args.page.now → IsPageOf (puts key_cmp whole (rows_after (option_copied c.args.after) (map.entries (shown_names f)))) c.take_rows.new.self))
    (sym (ap option_copied c.unwrap-fragment.ensures) ∙ c.get.ensures)
    (leaf_taken (option_copied c.args.after) (shown_names c.unwrap-fragment.result.now) (rows_left c.rows_after.result) c.args.page.now c.take_rows.new.self c.rows_after.ensures c.in-Ok.ensures.page)
