use Rattle.script_output.proofs.ObjectCommon.{PairMap, ap, arith, ◌∙◌}
use Rattle.std.specs.FinMap as map
use Rattle.script_output.proofs.ObjectLaws.{all_of_page}
use Rattle.script_output.proofs.objects.fragments.all_pairs.Goals as goal

pub returns : goal.returns
returns c =
    c.into_pairs.ensures ∙ all_of_page c.args.object.now.pairs c.in_ok-page.page c.len-count.result c.max.result c.in_ok-page.ensures (c.len-count.ensures ∙ ap (λ (pairs : PairMap). map.len pairs) c.pairs.ensures) (omega (arith, c.max.ensures))
