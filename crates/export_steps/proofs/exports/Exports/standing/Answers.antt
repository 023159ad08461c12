use Rattle.export_steps.proofs.Common.{ap, arith, len-entries, length, slice_get_past, sym, ◌∙◌, ◌≡◌, ◌≤◌}
use Rattle.std.specs.FinMap as map
use Rattle.export_steps.proofs.exports.Exports.standing.Goals as goal

pub returns-then-index-len : goal.returns-then-index-len
returns-then-index-len c =
    let count : c.len.result ≡ length (map.entries c.args.self.now) = c.len.ensures.len ∙ ap map.len c.self.view_is ∙ len-entries c.args.self.now in
    let past : length (map.entries c.args.self.now) ≤ c.args.index = omega (arith, count, c.if-index-len.true) in
    sym (slice_get_past (map.entries c.args.self.now) c.args.index past)
