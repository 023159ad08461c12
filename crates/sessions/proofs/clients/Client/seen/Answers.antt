use Rattle.sessions.proofs.Common.{Session, ap, sym, ◌∙◌}
use Rattle.std.specs.FinMap as map
use Rattle.sessions.proofs.clients.Client.seen.Goals as goal

pub told-requires : goal.told-requires
told-requires c = c.requires c.in-Some.place.now (sym (c.in-Some.ensures ∙ ap (λ (s : Session). map.get s.row.kept c.args.tid) c.self.view_is))
