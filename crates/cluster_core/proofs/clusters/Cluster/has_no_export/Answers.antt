use Rattle.cluster_core.proofs.Common.{Core, ap, empty_of_len, eq-eqb, len-empty, sym, ◌∙◌, ◌≡◌}
use Rattle.std.proofs.Common.{eqb-true}
use Rattle.std.specs.FinMap as map
use Rattle.cluster_core.proofs.clusters.Cluster.has_no_export.Goals as goal

pub returns : goal.returns
returns g c =
    let is : c.self.inside.parts.tree.exports ≡ c.args.self.now.state.exports = ap (λ (k : Core). k.state.exports) c.self.view_is in (
      λ none. empty_of_len _ (sym (c.len.ensures ∙ ap map.len (c.exports.ensures ∙ is)) ∙ eqb-true _ 0 none),
      λ e. eq-eqb _ 0 (c.len.ensures ∙ ap map.len (c.exports.ensures ∙ is ∙ e) ∙ len-empty _ _),
    )
