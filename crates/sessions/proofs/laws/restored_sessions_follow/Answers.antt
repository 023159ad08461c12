use Rattle.sessions.proofs.Common.{IsRestored, of_mark, subst, sym, with_reply, ◌++◌, ◌∷◌, []}
use Rattle.sessions.proofs.AlikeLaws.{stands_for}
use Rattle.sessions.proofs.RestoredLaws.{kept_stored, restored_client, restored_none, restored_reply}
use Rattle.sessions.proofs.laws.restored_sessions_follow.Goals as goal

pub returns-clause-start : goal.returns-clause-start
returns-clause-start c = restored_none

pub returns-clause-client : goal.returns-clause-client
returns-clause-client c = λ stored old new client mark h takes.
    subst (IsRestored (stored ++ of_mark client mark ∷ [])) (sym takes.table) (restored_client stored old client mark h takes.unknown)

pub returns-clause-reply : goal.returns-clause-reply
returns-clause-reply c = λ stored s old new tid reply h takes.
    subst (IsRestored (stored ++ with_reply s tid reply ∷ [])) (sym takes.table) (restored_reply stored s old tid reply h takes.marked takes.absent)

pub returns-clause-kept : goal.returns-clause-kept
returns-clause-kept c = kept_stored

pub returns-clause-stored : goal.returns-clause-stored
returns-clause-stored c = stands_for
