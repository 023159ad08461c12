use Rattle.cluster_core.proofs.Common.{IfSome, Ino, IsAtHolder, MayTouchEach, Option, Spot, cluster_of, false, is_some, leaves_gone, rules, shown, subst, sym, ◌≡◌}
use Rattle.cluster_core.proofs.AlongLaws.{along, removed_from, stands_at}
use Rattle.cluster_core.proofs.parts.Parts.goes_along.Goals as goal

pub returns-then-eq : goal.returns-then-eq
returns-then-eq g c = λ told request.
    let s = (cluster_of c.args.self.now).state in
    let change = c.args.change.now in
    let dir = c.in-Some.dir in
    let spot = c.in-Some-takes.spot in
    let stays : is_some change.puts ≡ false = search rules in
    let from = removed_from (shown s) s.tree.covers change spot dir c.requires.carries c.in-Some-takes.is stays c.in-Some.is in
    let home = stands_at (shown s) s.tree.homes c.is_sound.ensures.owned.sound.sound.tabled.holds _ dir from.0 in
    let held = subst (λ (o : Option Spot). IfSome o (λ spot. IsAtHolder s spot.at)) c.in-Some-takes.is c.requires.held.taken in
    subst (λ (o : Option Ino). MayTouchEach s c.args.rank request (leaves_gone s.tree.covers o)) (sym c.in-Some.is)
    (along s c.args.rank request dir spot (c.inherits.ensures told) home from.1 held (search rules))
