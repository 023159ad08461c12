-- All names are to come at first.
use Rattle.cached_frag.proofs.Common.{AllByRecursion, IsDirtyName, List, Mark, ap, subst, sym, with_records, ℕ, ◌∙◌, ◌≡◌}
use Rattle.std.specs.FinMap as map
use Rattle.cached_frag.proofs.MarkLaws.{all_dirty}
use Rattle.cached_frag.proofs.writes.set_of.Goals as goal

pub loop-name-init : goal.loop-name-init
loop-name-init c =
    let rows : c.into_iter-name-iterator.result ≡ map.entries c.args.names.now = c.into_iter-name-iterator.ensures.into_iter_gives ∙ ap map.entries c.as_map-name-items.ensures.names in
    record {
      whole = λ i. with_records (c.new-set.ensures i) (rows i);
      dirty = subst (AllByRecursion (λ (e : List ℕ × Mark). IsDirtyName e.0 e.1)) (sym rows) (all_dirty c.args.names.now c.as_map-name-items.ensures.valid);
    }
