use Rattle.ranked_tree.proofs.Common.{Dentry, HoldsAt, IfOk, Ino, ReadsDir, hash_of, held_in, leaf_of, on_ok_weaker, shown_tree, state_of, subst, ◌≡◌}
use Rattle.std.specs.FinMap as map
use Rattle.ranked_tree.proofs.AskLaws.{read_of}
use Rattle.ranked_tree.proofs.FragsLaws.{found_at}
use Rattle.ranked_tree.proofs.HeldLaws.{may_hold}
use Rattle.ranked_tree.proofs.frags.look.Goals as goal

pub look-requires-clause-holds : goal.look-requires-clause-holds
look-requires-clause-holds g c = may_hold (state_of c.args.tree.now) c.args.tree.now.caches (held_in c.args.regions.now) c.requires.owned.held (leaf_of c.args.at.now) c.args.at.now.rank c.requires.at.held

pub returns : goal.returns
returns g c =
    let its = read_of c.args.tree.now c.look.new.self (held_in c.args.regions.now) (leaf_of c.args.at.now) c.args.at.now.rank c.look.result c.requires.owned (found_at (state_of c.args.tree.now) c.requires.owned.sound.sound (HoldsAt (state_of c.args.tree.now) (held_in c.args.regions.now)) c.args.dentry.now.dir.0 (hash_of c.args.dentry.now.name) c.args.at.now c.requires.at) c.requires.at.held c.look.ensures.reads c.look.ensures.sound c.look.ensures.counted c.look.ensures.refused in
    record {
      found = subst (λ (d : Dentry). IfOk c.look.result (λ found. found ≡ map.get (shown_tree (state_of c.args.tree.now)) d)) (λ i. record { dir = record { 0 = c.requires.at.dir i }; name = c.args.dentry.now.name }) c.look.ensures.found;
      kept = its.kept;
      newest = on_ok_weaker c.look.result (λ newest. (c.args.at.now.rank, c.requires.at.held, newest)) c.look.ensures.newest;
      reads = subst (λ (d : Ino). ReadsDir (held_in c.args.regions.now) d c.args.tree.now c.look.new.self) (λ i. record { 0 = c.requires.at.dir i }) its.reads;
      owned = its.owned;
      refused = its.refused;
    }
