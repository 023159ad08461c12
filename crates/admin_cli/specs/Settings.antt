-- The numbers of a command line.
use Rattle.std.specs.Prelude.{◌≤◌}
use Rattle.admin_cli.specs.Loads.{IsLoad}
use Rattle.admin_cli.specs.declared.command_line.Options.{Options}
use Rattle.admin_cli.specs.declared.command_line.Options.TheVariants.{Script, Serve}

-- each number is in its range
abbrev pub AreInRange : Options → Type 0
AreInRange (Script ranks cache limit asks history store explains) =
    (1 ≤ ranks) × (ranks ≤ 16) × (512 ≤ cache) × (cache ≤ 65536) × (1 ≤ limit) × (limit ≤ 1048576)
AreInRange (Serve load store) = IsLoad load.ranks load.workers load.clients load.creates
