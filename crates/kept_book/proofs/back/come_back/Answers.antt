use Rattle.std.proofs.Common.{subst, sym}
use Rattle.cold_store.specs.ColdTree.{IsColdTree}
use Rattle.kept_book.proofs.back.come_back.Goals as goal

pub returns-in-Ok-mount-clause-back : goal.returns-in-Ok-mount-clause-back
returns-in-Ok-mount-clause-back g c = record {
  now = c.in-Ok.store;
  all = c.in-Ok.ensures.kept;
  found = c.in-Ok.ensures.found;
  back = c.in-Ok.ensures.back;
  cold = c.in-Ok-mount.ensures.cold;
  same = λ clean all was is. c.has_one_cold_tree.ensures c.in-Ok.store.objects _ was c.in-Ok-mount.ensures.cold
      (subst (λ o. IsColdTree o was) (sym (c.in-Ok.ensures.back clean all)) is);
}
