use Rattle.mdcache.proofs.Common.{ap, arith, insert, suc, take, ◌-◌, ◌∙◌, ◌≡◌}
use Rattle.mdcache.proofs.PageLaws.{insert_taken}
use Rattle.mdcache.proofs.page.put_row.Goals as goal

pub returns-clause-rows : goal.returns-clause-rows
returns-clause-rows c =
    let fits = c.requires.fits in
    let one_more : suc (c.args.most - 1) ≡ c.args.most = omega (arith, fits) in
    c.in_ok-insert.ensures.items
    ∙ ap (λ xs. insert xs c.args.at c.args.row) c.truncate.ensures.items
    ∙ insert_taken (c.args.most - 1) c.args.at c.args.rows.now.items c.args.row (omega (arith, fits))
    ∙ ap (λ n. take n (insert c.args.rows.now.items c.args.at c.args.row)) one_more
