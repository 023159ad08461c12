use Rattle.script_output.proofs.Common.{refl}
use Rattle.std.specs.Fmt.{digits}
use Rattle.script_output.proofs.fixed_texts.refused_text.Goals as goal

pub returns-in-NoMemory-clause-text : goal.returns-in-NoMemory-clause-text
unfolding digits
returns-in-NoMemory-clause-text c = rw c.in-NoMemory.is refl

pub returns-in-StoreFault-clause-text : goal.returns-in-StoreFault-clause-text
unfolding digits
returns-in-StoreFault-clause-text c = rw c.in-StoreFault.is refl

pub returns-in-NoInodes-clause-text : goal.returns-in-NoInodes-clause-text
unfolding digits
returns-in-NoInodes-clause-text c = rw c.in-NoInodes.is refl

pub returns-in-Trimmed-clause-text : goal.returns-in-Trimmed-clause-text
unfolding digits
returns-in-Trimmed-clause-text c = rw c.in-Trimmed.is refl

pub returns-in-NotAuthority-clause-text : goal.returns-in-NotAuthority-clause-text
unfolding digits
returns-in-NotAuthority-clause-text c = rw c.in-NotAuthority.is refl

pub returns-in-Frozen-clause-text : goal.returns-in-Frozen-clause-text
unfolding digits
returns-in-Frozen-clause-text c = rw c.in-Frozen.is refl

pub returns-in-Pinned-clause-text : goal.returns-in-Pinned-clause-text
unfolding digits
returns-in-Pinned-clause-text c = rw c.in-Pinned.is refl

pub returns-in-NoSuchFrag-clause-text : goal.returns-in-NoSuchFrag-clause-text
unfolding digits
returns-in-NoSuchFrag-clause-text c = rw c.in-NoSuchFrag.is refl

pub returns-in-BadSplit-clause-text : goal.returns-in-BadSplit-clause-text
unfolding digits
returns-in-BadSplit-clause-text c = rw c.in-BadSplit.is refl

pub returns-in-TooManyFrags-clause-text : goal.returns-in-TooManyFrags-clause-text
unfolding digits
returns-in-TooManyFrags-clause-text c = rw c.in-TooManyFrags.is refl

pub returns-in-StaleJob-clause-text : goal.returns-in-StaleJob-clause-text
unfolding digits
returns-in-StaleJob-clause-text c = rw c.in-StaleJob.is refl

pub returns-in-JobOutstanding-clause-text : goal.returns-in-JobOutstanding-clause-text
unfolding digits
returns-in-JobOutstanding-clause-text c = rw c.in-JobOutstanding.is refl

pub returns-in-WrongExportState-clause-text : goal.returns-in-WrongExportState-clause-text
unfolding digits
returns-in-WrongExportState-clause-text c = rw c.in-WrongExportState.is refl

pub returns-in-InboxEmpty-clause-text : goal.returns-in-InboxEmpty-clause-text
unfolding digits
returns-in-InboxEmpty-clause-text c = rw c.in-InboxEmpty.is refl

pub returns-in-InboxFull-clause-text : goal.returns-in-InboxFull-clause-text
unfolding digits
returns-in-InboxFull-clause-text c = rw c.in-InboxFull.is refl

pub returns-in-NothingToEvict-clause-text : goal.returns-in-NothingToEvict-clause-text
unfolding digits
returns-in-NothingToEvict-clause-text c = rw c.in-NothingToEvict.is refl

pub returns-in-NotClean-clause-text : goal.returns-in-NotClean-clause-text
unfolding digits
returns-in-NotClean-clause-text c = rw c.in-NotClean.is refl
