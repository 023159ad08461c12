use Rattle.ranked_tree.proofs.authorities.is_under.Goals as goal

pub returns : goal.returns
returns g c = rw (← c.dirs.ensures.homes, ← c.dirs.ensures.trees) (λ told rank. (c.is_under.ensures rank).0 told, λ under. (c.is_under.ensures (record { 0 = 0 })).1 (under (record { 0 = 0 })))
