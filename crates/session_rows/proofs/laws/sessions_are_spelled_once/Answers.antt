use Rattle.session_rows.proofs.Common.{refl, rules}
use Rattle.dirfrag_codec.specs.Grammar.{HasOneMeaning}
use Rattle.mds_types.specs.declared.ids.Rank.{Rank}
use Rattle.session_rows.specs.RankRows.{SpellsRank}
use Rattle.session_rows.proofs.OnceLaws.{none_refused, one_content, one_nexts, still_stored}
use Rattle.session_rows.proofs.RestoreLaws.{none_spelled, sixteen_none}
use Rattle.session_rows.proofs.laws.sessions_are_spelled_once.Goals as goal

pub returns-clause-content : goal.returns-clause-content
returns-clause-content c = one_content

pub returns-clause-nexts : goal.returns-clause-nexts
returns-clause-nexts c =
    let one : (rank : Rank) → HasOneMeaning (SpellsRank rank) = search rules in
    one_nexts one

pub returns-clause-empty : goal.returns-clause-empty
returns-clause-empty c = none_spelled _ refl sixteen_none

pub returns-clause-again : goal.returns-clause-again
returns-clause-again c =
    let one : (rank : Rank) → HasOneMeaning (SpellsRank rank) = search rules in
    none_refused one

pub returns-clause-history : goal.returns-clause-history
returns-clause-history c = still_stored
