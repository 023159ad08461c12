use Rattle.dirfrag_codec.specs.Grammar.{HasOneMeaning}
use Rattle.mds_types.specs.declared.ids.Rank.{Rank}
use Rattle.session_rows.specs.RankRows.{SpellsRank}
use Rattle.session_rows.proofs.Common.{rules}
use Rattle.session_rows.proofs.RankLaws.{rank_again}
use Rattle.session_rows.proofs.laws.rank_rows_are_spelled_once.Goals as goal

pub returns-clause-again : goal.returns-clause-again
returns-clause-again c =
    let one : (rank : Rank) → HasOneMeaning (SpellsRank rank) = search rules in
    λ rank. rank_again rank (one rank)
