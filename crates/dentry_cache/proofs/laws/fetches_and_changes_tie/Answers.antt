use Rattle.dentry_cache.proofs.TieLaws.{changed_are_tied, fetched_are_tied}
use Rattle.dentry_cache.proofs.laws.fetches_and_changes_tie.Goals as goal

pub returns-clause-fetched : goal.returns-clause-fetched
returns-clause-fetched c = fetched_are_tied

pub returns-clause-changed : goal.returns-clause-changed
returns-clause-changed c = changed_are_tied
