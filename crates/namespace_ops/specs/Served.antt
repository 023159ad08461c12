-- What serving an operation gives, over any fragments.
use Rattle.std.specs.Prelude.{◌≡◌, true, false, ◌⊎◌, Option, None}
use Rattle.mds_types.specs.declared.ids.Ino.{Ino}
use Rattle.mds_types.specs.declared.replies.Reply.{Reply}
use Rattle.mds_types.specs.declared.refusals.Refusal.{Refusal}
use Rattle.mds_types.specs.declared.refusals.Refusal.TheVariants.{NoMemory, NoInodes}
use Rattle.mds_types.specs.Tree.{Tree}
use Rattle.mds_types.specs.Step.{Outcome}

-- served: the reply and the tree are the table's outcome, and if it takes a number, one was given
pub record IsServed (new : Tree) (outcome : Outcome) (number : Option Ino) (reply : Reply) : Type 0 where
  pub replied : reply ≡ outcome.reply
  pub left : new ≡ outcome.tree
  pub numbered : number ≡ None → outcome.takes ≡ false

-- for want of a number: none was given, and the table takes one
pub record LacksNumber (outcome : Outcome) (number : Option Ino) (reason : Refusal) : Type 0 where
  pub named : reason ≡ NoInodes
  pub absent : number ≡ None
  pub taken : outcome.takes ≡ true

-- refused: the tree is as before, and the reason is the want of a number, or of memory, or one of the fragments' own
pub record IsRefused (old new : Tree) (MayRefuse : Refusal → Type 0) (outcome : Outcome) (number : Option Ino)
    (reason : Refusal) : Type 0 where
  pub same : new ≡ old
  pub because : LacksNumber outcome number reason ⊎ ((reason ≡ NoMemory) ⊎ MayRefuse reason)
