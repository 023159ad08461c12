-- A rank's number that was written is read again.
use Rattle.session_rows.proofs.Common.{BelowMark, Err, Length, NoMemory, NoReply, Ok, OtherRange, OutOfOrder, Result, RowFault, List, ap, length, ℕ, ◌∙◌, ◌≡◌}
use Rattle.byteorder.specs.Numbers.{length-bytes_low_first}
use Rattle.dirfrag_codec.specs.Grammar.{HasOneMeaning}
use Rattle.mds_types.specs.declared.ids.Ino.{Ino}
use Rattle.mds_types.specs.declared.ids.Rank.{Rank}
use Rattle.session_rows.specs.RankRows.{ReadsRank, SpellsRank}

pub rank_again : (rank : Rank) → HasOneMeaning (SpellsRank rank) → (bytes : List ℕ) (next : Ino) (answer : Result Ino RowFault) → SpellsRank rank bytes next → ReadsRank rank bytes answer → answer ≡ Ok next
rank_again rank one bytes next (Ok read) s r = ap (λ (n : Ino). Ok n) (one bytes read next r s)
rank_again rank one bytes next (Err Length) s r = absurd (r (ap length s.spelled ∙ length-bytes_low_first 0 8 next.0))
rank_again rank one bytes next (Err OtherRange) s r = absurd (r.1 next s)
rank_again rank one bytes next (Err BelowMark) s r = absurd r
rank_again rank one bytes next (Err OutOfOrder) s r = absurd r
rank_again rank one bytes next (Err NoReply) s r = absurd r
rank_again rank one bytes next (Err NoMemory) s r = absurd r
