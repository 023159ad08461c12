-- The key is that of a client or of a rank.
use Rattle.session_rows.proofs.Common.{ap, ◌∙◌, ◌≡◌}
use Rattle.session_rows.specs.Keys.{client_bytes, key_bytes, rank_bytes}
use Rattle.session_rows.proofs.restoring.Restored.read_row.Goals as goal

pub returns-in-Some-Client-clause-read : goal.returns-in-Some-Client-clause-read
returns-in-Some-Client-clause-read c =
    let key : c.args.key.now ≡ client_bytes c.in-Some-Client.client = c.in-Some-Client.ensures.spelled ∙ ap key_bytes c.in-Some-Client.field-0-is in rw key c.read_client.ensures.read

pub returns-in-Some-Client-clause-refused : goal.returns-in-Some-Client-clause-refused
returns-in-Some-Client-clause-refused c =
    let key : c.args.key.now ≡ client_bytes c.in-Some-Client.client = c.in-Some-Client.ensures.spelled ∙ ap key_bytes c.in-Some-Client.field-0-is in rw key c.read_client.ensures.refused

pub returns-in-Some-Rank-clause-read : goal.returns-in-Some-Rank-clause-read
returns-in-Some-Rank-clause-read c =
    let key : c.args.key.now ≡ rank_bytes c.in-Some-Rank.rank = c.in-Some-Rank.ensures.spelled ∙ ap key_bytes c.in-Some-Rank.field-0-is in rw key c.read_rank.ensures.read

pub returns-in-Some-Rank-clause-refused : goal.returns-in-Some-Rank-clause-refused
returns-in-Some-Rank-clause-refused c =
    let key : c.args.key.now ≡ rank_bytes c.in-Some-Rank.rank = c.in-Some-Rank.ensures.spelled ∙ ap key_bytes c.in-Some-Rank.field-0-is in rw key c.read_rank.ensures.refused
