use Rattle.mdcache.proofs.Common.{Change, ChangesTree, OnOk, is_adds, is_moves, is_removes, is_sets, shown_in, state_of, subst, sym}
use Rattle.mdcache.specs.Frags.{LacksToMake}
use Rattle.mdcache.proofs.mdcache.MdCache.change.Goals as goal

pub returns-then-comes-clause-changed : goal.returns-then-comes-clause-changed
returns-then-comes-clause-changed g c = subst (λ (change : Change). ChangesTree change c.args.self.now c.add_entry.new.self c.add_entry.result) (sym (is_adds (shown_in c.args.self.now) c.args.self.now.covers c.args.change c.requires.may c.in-None-Some.spot c.in-None-Some.inode c.in-None-Some.is-0 c.in-None-Some.is-1 c.if-comes.true)) c.add_entry.ensures.changed

pub returns-then-comes-clause-numbers : goal.returns-then-comes-clause-numbers
returns-then-comes-clause-numbers g c = subst (λ (change : Change). OnOk c.add_entry.result (LacksToMake change (state_of c.args.self.now) → ⊥)) (sym (is_adds (shown_in c.args.self.now) c.args.self.now.covers c.args.change c.requires.may c.in-None-Some.spot c.in-None-Some.inode c.in-None-Some.is-0 c.in-None-Some.is-1 c.if-comes.true)) c.add_entry.ensures.numbers

pub returns-else-comes-clause-changed : goal.returns-else-comes-clause-changed
returns-else-comes-clause-changed g c = subst (λ (change : Change). ChangesTree change c.args.self.now c.set_entry.new.self c.set_entry.result) (sym (is_sets (shown_in c.args.self.now) c.args.self.now.covers c.args.change c.requires.may c.in-None-Some.spot c.in-None-Some.inode c.in-None-Some.is-0 c.in-None-Some.is-1 c.if-comes.false)) c.set_entry.ensures.changed

pub returns-else-comes-clause-numbers : goal.returns-else-comes-clause-numbers
returns-else-comes-clause-numbers g c = subst (λ (change : Change). OnOk c.set_entry.result (LacksToMake change (state_of c.args.self.now) → ⊥)) (sym (is_sets (shown_in c.args.self.now) c.args.self.now.covers c.args.change c.requires.may c.in-None-Some.spot c.in-None-Some.inode c.in-None-Some.is-0 c.in-None-Some.is-1 c.if-comes.false)) c.set_entry.ensures.numbers

pub returns-in-Some-None-clause-changed : goal.returns-in-Some-None-clause-changed
returns-in-Some-None-clause-changed g c = subst (λ (change : Change). ChangesTree change c.args.self.now c.remove_entry.new.self c.remove_entry.result) (sym (is_removes (shown_in c.args.self.now) c.args.self.now.covers c.args.change c.requires.may c.in-Some-None.spot c.in-Some-None.is-0 c.in-Some-None.is-1)) c.remove_entry.ensures.changed

pub returns-in-Some-None-clause-numbers : goal.returns-in-Some-None-clause-numbers
returns-in-Some-None-clause-numbers g c = subst (λ (change : Change). OnOk c.remove_entry.result (LacksToMake change (state_of c.args.self.now) → ⊥)) (sym (is_removes (shown_in c.args.self.now) c.args.self.now.covers c.args.change c.requires.may c.in-Some-None.spot c.in-Some-None.is-0 c.in-Some-None.is-1)) c.remove_entry.ensures.numbers

pub returns-in-Some-Some-clause-changed : goal.returns-in-Some-Some-clause-changed
returns-in-Some-Some-clause-changed g c = subst (λ (change : Change). ChangesTree change c.args.self.now c.move_entry.new.self c.move_entry.result) (sym (is_moves (shown_in c.args.self.now) c.args.self.now.covers c.args.change c.requires.may c.in-Some-Some.from c.in-Some-Some.to c.in-Some-Some.inode c.in-Some-Some.is-0 c.in-Some-Some.is-1)) c.move_entry.ensures.changed

pub returns-in-Some-Some-clause-numbers : goal.returns-in-Some-Some-clause-numbers
returns-in-Some-Some-clause-numbers g c = subst (λ (change : Change). OnOk c.move_entry.result (LacksToMake change (state_of c.args.self.now) → ⊥)) (sym (is_moves (shown_in c.args.self.now) c.args.self.now.covers c.args.change c.requires.may c.in-Some-Some.from c.in-Some-Some.to c.in-Some-Some.inode c.in-Some-Some.is-0 c.in-Some-Some.is-1)) c.move_entry.ensures.numbers
