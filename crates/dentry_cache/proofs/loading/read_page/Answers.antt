use Rattle.dentry_cache.proofs.Common.{option_copied}
use Rattle.std.specs.FinMap as map
use Rattle.dentry_cache.proofs.PageSteps.{page_pages}
use Rattle.dentry_cache.proofs.loading.read_page.Goals as goal

pub returns-in_ok-add_page-in-Some-clause-left : goal.returns-in_ok-add_page-in-Some-clause-left
returns-in_ok-add_page-in-Some-clause-left g c =
    page_pages c.args.frag (map.get (g.S.Store.objects c.args.store.now) c.args.text.now) (option_copied c.args.after) c.in-Some.page c.in_ok-add_page-in-Some.field-0 (rw c.in-Some.is at c.in_ok-page.ensures.found) c.in_ok-add_page-in-Some.ensures.left
