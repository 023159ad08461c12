use Rattle.asking.proofs.Common.{append-nil, sym}
use Rattle.asking.proofs.drains.note.Goals as goal

pub returns-in-Forwarded-clause-told : goal.returns-in-Forwarded-clause-told
returns-in-Forwarded-clause-told c = rw c.in-Forwarded.is (sym (append-nil c.args.receipts.now.items))

pub returns-in-Deferred-clause-told : goal.returns-in-Deferred-clause-told
returns-in-Deferred-clause-told c = rw c.in-Deferred.is (sym (append-nil c.args.receipts.now.items))

pub returns-in-Nothing-clause-told : goal.returns-in-Nothing-clause-told
returns-in-Nothing-clause-told c = rw c.in-Nothing.is (sym (append-nil c.args.receipts.now.items))

pub returns-in-Job-clause-told : goal.returns-in-Job-clause-told
returns-in-Job-clause-told c = rw c.in-Job.is (sym (append-nil c.args.receipts.now.items))

pub returns-in-Sent-clause-told : goal.returns-in-Sent-clause-told
returns-in-Sent-clause-told c = rw c.in-Sent.is (sym (append-nil c.args.receipts.now.items))
