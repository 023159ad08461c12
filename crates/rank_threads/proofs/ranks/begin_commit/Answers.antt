-- What the lock said of a commit's beginning, and what became of its job.
use Rattle.rank_threads.proofs.Common.{Err, Ok, refl}
use Rattle.std.specs.Prelude.{None, Some}
use Rattle.rank_threads.proofs.OwnTurnLaws.{commit_began, commit_told}
use Rattle.rank_threads.proofs.ranks.begin_commit.Goals as goal

pub returns-in-Ok-Some : goal.returns-in-Ok-Some
returns-in-Ok-Some g c =
    commit_began c.deref_mut.result.now.book c.begin-begun.new.self.book c.begin-begun.ensures.sound c.args.leaf.now.rank c.args.leaf.now.dir c.args.leaf.now.frag c.begin-begun.result c.hand_on.result c.begin-begun.ensures.told
    c.in-Ok-Some.field-0 (Some c.in-Ok-Some.job) c.in-Ok-Some.is c.in-Ok-Some.field-0-is c.hand_on.ensures

pub returns-in-Ok-None : goal.returns-in-Ok-None
returns-in-Ok-None g c =
    commit_began c.deref_mut.result.now.book c.begin-begun.new.self.book c.begin-begun.ensures.sound c.args.leaf.now.rank c.args.leaf.now.dir c.args.leaf.now.frag c.begin-begun.result (Ok tt) c.begin-begun.ensures.told
    c.in-Ok-None.field-0 None c.in-Ok-None.is c.in-Ok-None.field-0-is refl

pub returns-in-Err : goal.returns-in-Err
returns-in-Err g c =
    commit_told c.deref_mut.result.now.book c.begin-begun.new.self.book c.begin-begun.ensures.sound c.args.leaf.now.rank c.args.leaf.now.dir c.args.leaf.now.frag c.begin-begun.result (Err c.in-Err.refusal) c.begin-begun.ensures.told
    (Err c.in-Err.refusal) c.in-Err.is refl
