use Rattle.plain_frags.proofs.Common.{IsWellFormed, Kept, leaves_same, others_stay, refl, rules, subst}
use Rattle.plain_frags.proofs.frags.PlainFrags.make.Goals.{in-None-Some, in-None-None, in-Some-None, in-Some-Some}
use Rattle.plain_frags.proofs.frags.PlainFrags.make.Goals as goal

pub invariant_of-self : goal.invariant_of-self
invariant_of-self c =
    elim c.match-takes.branch [
      | in-None-Some w ↦ rw w.self-inside-is w.put_entry.ensures.tabled
      | in-None-None w ↦ rw w.self-inside-is c.self.invariant
      | in-Some-None w ↦ rw w.self-inside-is w.remove_entry.ensures.tabled
      | in-Some-Some w ↦ rw w.self-inside-is w.move_entry.ensures.tabled
    ]

pub returns-clause-changed : goal.returns-clause-changed
returns-clause-changed c = search rules

pub returns-clause-leaves : goal.returns-clause-leaves
returns-clause-leaves c =
    rw (← c.self.view_is)
    (elim c.match-takes.branch [
      | in-None-Some w ↦ rw w.self-inside-is w.put_entry.ensures.leaves
      | in-None-None w ↦ rw w.self-inside-is (leaves_same _ _ _ refl)
      | in-Some-None w ↦ rw w.self-inside-is w.remove_entry.ensures.leaves
      | in-Some-Some w ↦ rw w.self-inside-is w.move_entry.ensures.leaves
    ])

pub returns-clause-frame : goal.returns-clause-frame
returns-clause-frame c =
    others_stay c.args.self.now.tree _ c.args.self.now.covers _ c.args.change (subst (λ (k : Kept). IsWellFormed k.tree) c.self.view_is c.self.invariant.whole) c.requires.may (returns-clause-changed c) (returns-clause-leaves c)
