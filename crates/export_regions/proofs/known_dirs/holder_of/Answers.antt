-- A parent stands.
use Rattle.export_regions.proofs.Common.{ap, no_stranger, option_copied, sym, ◌∙◌}
use Rattle.export_regions.proofs.known_dirs.holder_of.Goals as goal

pub unreachable-requires : goal.unreachable-requires
unreachable-requires c =
    no_stranger c.args.dirs.now.homes c.args.dirs.now.trees c.is_table.ensures c.args.dir.0 c.in_ok-home.home.now (sym c.get.ensures ∙ ap option_copied c.in_ok-home.was) c.in_default.ensures.at
