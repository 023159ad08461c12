-- What the cluster keeps beside the tree after a change. Only this crate's own contracts use these words.
use Rattle.std.specs.Prelude.{◌≡◌, ◌⊎◌, true, false, cond, Option, None}
use Rattle.mds_types.specs.declared.ids.Ino.{Ino}
use Rattle.mds_types.specs.declared.refusals.Refusal.{Refusal}
use Rattle.mds_types.specs.declared.refusals.Refusal.TheVariants.{NoInodes, NoMemory}
use Rattle.inode_table.specs.Numbers.{Supply, offer}
use Rattle.namespace_ops.specs.declared.plans.Change.{Change}
use Rattle.namespace_ops.specs.Changes.{reply_of}
use Rattle.cluster_core.specs.Offer.{after_taking}
use Rattle.cluster_core.specs.declared.applying.Prepared.{Prepared}

-- what is prepared for a change that is offered the next number of a supply: the number that it takes, two copies of
-- its reply, and the directory that it removes
pub record IsPrepared (change : Change) (numbers : Supply) (prepared : Prepared) : Type 0 where
  pub replied : prepared.reply ≡ reply_of change
  pub copied : prepared.answer ≡ reply_of change
  pub took : prepared.number ≡ cond change.comes (offer numbers) None
  pub given : offer numbers ≡ None → change.comes ≡ false
  pub drawn : prepared.numbers ≡ after_taking numbers prepared.number
  pub went : prepared.went ≡ change.gone

-- why nothing is prepared: want of memory; or the change makes an inode, and no number is offered
abbrev pub WhyUnprepared : Change → Option Ino → Refusal → Type 0
WhyUnprepared change offered reason =
    (reason ≡ NoMemory) ⊎ ((reason ≡ NoInodes) × (offered ≡ None) × (change.comes ≡ true))
