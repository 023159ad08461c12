use Rattle.std.specs.Fmt.{digits}
use Rattle.std.proofs.Common.{drop, false, length, take, ◌++◌, ◌≡◌, ◌≤◌}
use Rattle.mds_types.proofs.DigitLaws.{IsWriting}
use Rattle.mds_types.proofs.digits.write_digits_in.Given as goal

-- what stands from here on are the digits that were written, and the rest
abbrev pub invariant-loop-left : goal.invariant-loop-left
invariant-loop-left l = record {
  within : l.at ≤ l.end;
  before : take l.at l.bytes ≡ take l.at l.fn.bytes;
  len : length l.bytes ≡ length l.fn.bytes;
  writing : IsWriting l.base (digits l.base false l.n ++ drop l.end l.fn.bytes) l.left (drop l.at l.bytes);
}

abbrev pub decreases-loop-left : goal.decreases-loop-left
decreases-loop-left l = l.left
