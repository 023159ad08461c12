use Rattle.subtree_map.proofs.Adopted.{adopted_authority, adopted_valid}
use Rattle.subtree_map.proofs.laws.new_directory_changes_no_authority.Goals as goal

pub returns-clause-authority : goal.returns-clause-authority
returns-clause-authority c = adopted_authority

pub returns-clause-valid : goal.returns-clause-valid
returns-clause-valid c = adopted_valid
