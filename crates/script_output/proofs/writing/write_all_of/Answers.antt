use Rattle.script_output.proofs.Common.{arith, drop, length-drop, sym, take, take-append-drop}
use Rattle.script_output.proofs.writing.write_all_of.Goals as goal

pub returns-else-write_most_of-bytes-clause-err : goal.returns-else-write_most_of-bytes-clause-err
returns-else-write_most_of-bytes-clause-err g c =
    let n = c.write_most_of.result in
    let bytes = c.args.bytes.now in
    record {
      front = take n bytes;
      rest = drop n bytes;
      whole = sym (take-append-drop n bytes);
      left = omega (arith, c.if-write_most_of-bytes.false, c.write_most_of.ensures.bound, length-drop n bytes);
      written = c.write_most_of.ensures.written;
    }
