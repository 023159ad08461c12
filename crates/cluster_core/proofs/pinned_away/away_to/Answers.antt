use Rattle.cluster_core.proofs.Common.{HasPin, Rank, false, rules, subst, sym, true, ◌<◌, ◌∙◌, ◌≡◌, ◌≢◌}
use Rattle.cluster_core.proofs.PinsLaws.{pin_over}
use Rattle.cluster_core.proofs.ProposalLaws.{one_pin}
use Rattle.cluster_core.proofs.pinned_away.away_to.Goals as goal

pub returns-in_default : goal.returns-in_default
returns-in_default g c = λ grants to away.
    c.in_default.ensures to (pin_over c.args.tree.now.tree.pins c.dirs.result.now.pins c.args.tree.now.tree.homes c.dirs.result.now.homes (sym c.dirs.ensures.pins) (sym c.dirs.ensures.homes) c.args.ino.0 to away.pin)

pub returns-then-not-is_another : goal.returns-then-not-is_another
returns-then-not-is_another g c = λ grants to away.
    let t = c.args.tree.now.tree in
    let found : HasPin t.pins t.homes c.args.ino.0 c.in-Some.to = pin_over c.dirs.result.now.pins t.pins c.dirs.result.now.homes t.homes c.dirs.ensures.pins c.dirs.ensures.homes c.args.ino.0 c.in-Some.to c.in-Some.ensures in
    let same : c.in-Some.to ≡ to = one_pin t.pins t.homes c.args.ino.0 c.in-Some.to to found away.pin in
    let off : c.is_another.result ≡ false = search rules in
    let clash : true ≡ false = sym (c.is_another.ensures.1 (subst (λ (r : Rank). (r ≢ c.args.rank) × (r.0 < c.args.ranks)) (sym same) (away.other, away.there))) ∙ off in cc

pub returns-then-not-may_start : goal.returns-then-not-may_start
returns-then-not-may_start g c = λ grants to away.
    let off : c.may_start.result ≡ false = search rules in
    let clash : true ≡ false = sym ((c.may_start.ensures grants c.args.ranks).1 (record { own = away.own; thawed = away.thawed; none = away.none })) ∙ off in cc

pub returns : goal.returns
returns g c = λ grants.
    let may = (c.may_start.ensures grants c.args.ranks).0 (search rules) in
    let another = c.is_another.ensures.0 (search rules) in
    record {
      own = may.own;
      pin = pin_over c.dirs.result.now.pins c.args.tree.now.tree.pins c.dirs.result.now.homes c.args.tree.now.tree.homes c.dirs.ensures.pins c.dirs.ensures.homes c.args.ino.0 c.in-Some.to c.in-Some.ensures;
      other = another.0;
      there = another.1;
      thawed = may.thawed;
      none = may.none;
    }
