use Rattle.ranked_tree.proofs.Common.{HasAuthority, Roots, empty_of_len, rules, subst, sym, valid_so, ◌≡◌}
use Rattle.std.specs.FinMap as map
use Rattle.ranked_tree.proofs.StandLaws.{none_stand}
use Rattle.ranked_tree.proofs.regions.Regions.holder_by.Goals as goal

pub authority_by-requires-clause-valid : goal.authority_by-requires-clause-valid
authority_by-requires-clause-valid c = (valid_so c.args.self.now.exports c.args.self.now.roots.roots c.args.dirs.now.homes c.args.dirs.now.trees).1 c.requires.valid

pub returns-then-len-eq0 : goal.returns-then-len-eq0
returns-then-len-eq0 c =
    let none : map.len c.args.self.now.exports ≡ 0 = search rules in
    subst (λ (r : Roots). HasAuthority r c.args.dirs.now.homes c.args.dirs.now.trees c.args.leaf c.authority_by.result) (sym (none_stand c.args.self.now.exports c.args.self.now.roots.roots (empty_of_len c.args.self.now.exports none))) c.authority_by.ensures
