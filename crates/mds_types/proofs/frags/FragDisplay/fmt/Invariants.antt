use Rattle.mds_types.proofs.Common.{HasWritten, IsPlainFormatter, digit_at, map, range_with_len}
use Rattle.mds_types.proofs.frags.FragDisplay.fmt.Given as goal

-- the digits of the bits passed are written
abbrev pub invariant-loop-k : goal.invariant-loop-k
invariant-loop-k g l =
    IsPlainFormatter l.initial.f → HasWritten g.W.Write.write_str_gives l.initial.f (map (digit_at l.self) (range_with_len 0 l.k)) l.f
