use Rattle.mdcache.proofs.Common.{IsThat, Leaf, NoneEnds, Rank, ap, inl, inr, leaf_of, rules, sym, ℕ, ◌∙◌, ◌≡◌, ◌⊎◌}
use Rattle.mdcache.proofs.CoreLaws.{if_err, may_fetch_on, not_found_before, not_found_weaker, reads_core_on, reads_core_wider}
use Rattle.mdcache.proofs.mdcache.MdCache.ready_pair.Goals as goal

pub returns-in-Err-clause-reads : goal.returns-in-Err-clause-reads
returns-in-Err-clause-reads g c = reads_core_wider (IsThat c.args.from.now.rank.0 (leaf_of c.args.from.now)) (λ (r : ℕ) (q : Leaf). IsThat c.args.from.now.rank.0 (leaf_of c.args.from.now) r q ⊎ IsThat c.args.to.now.rank.0 (leaf_of c.args.to.now) r q) NoneEnds NoneEnds c.args.self.now c.ready_names.new.self (λ r q is. inl is) (λ r q is. is) c.ready_names.ensures.reads

pub returns-clause-reads : goal.returns-clause-reads
returns-clause-reads g c = reads_core_on (λ (r : ℕ) (q : Leaf). IsThat c.args.from.now.rank.0 (leaf_of c.args.from.now) r q ⊎ IsThat c.args.to.now.rank.0 (leaf_of c.args.to.now) r q) NoneEnds c.args.self.now c.ready_names.new.self c.ready_beside.new.self (reads_core_wider (IsThat c.args.from.now.rank.0 (leaf_of c.args.from.now)) (λ (r : ℕ) (q : Leaf). IsThat c.args.from.now.rank.0 (leaf_of c.args.from.now) r q ⊎ IsThat c.args.to.now.rank.0 (leaf_of c.args.to.now) r q) NoneEnds NoneEnds c.args.self.now c.ready_names.new.self (λ r q is. inl is) (λ r q is. is) c.ready_names.ensures.reads) c.ready_beside.ensures.reads

pub returns-clause-refused : goal.returns-clause-refused
returns-clause-refused g c =
    let same : c.ready_names.new.self.faults ≡ c.args.self.now.faults = search rules in
    if_err _ _ c.ready_beside.result (λ reason is. not_found_weaker _ _ c.args.self.now.faults c.ready_beside.new.self.faults reason (λ lacks. inr lacks)
    (not_found_before (IsThat c.args.from.now.rank.0 (leaf_of c.args.from.now)) NoneEnds c.args.self.now c.ready_names.new.self c.ready_names.ensures.reads 2 c.args.to.now.rank.0 c.ready_beside.new.self.faults reason same is)) c.ready_beside.ensures.refused

pub ready_beside-requires-clause-may : goal.ready_beside-requires-clause-may
ready_beside-requires-clause-may g c =
    may_fetch_on (IsThat c.args.from.now.rank.0 (leaf_of c.args.from.now)) NoneEnds c.args.self.now c.ready_names.new.self c.ready_names.ensures.reads c.args.to.now
    (λ r is. is.0 ∙ ap (λ (k : Rank). k.0) (c.requires.one (sym is.1))) c.requires.to
