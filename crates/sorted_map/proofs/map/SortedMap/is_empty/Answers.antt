use Rattle.sorted_map.proofs.Common.{ap, empty_of_len, eq-eqb, eqb-true, len-empty, sym, ◌∙◌}
use Rattle.std.specs.FinMap as map
use Rattle.sorted_map.proofs.map.SortedMap.is_empty.Goals as goal

pub returns : goal.returns
returns g c = (
  λ none. empty_of_len _ (sym c.len.ensures.len ∙ eqb-true _ 0 none),
  λ e. eq-eqb _ 0 (c.len.ensures.len ∙ ap map.len e ∙ len-empty _ _),
)
