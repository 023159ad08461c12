use Rattle.script_output.proofs.Common.{arith}
use Rattle.script_output.proofs.PrintedNumbers.{number_of-digits, octal_mode_of-digits}
use Rattle.script_output.proofs.laws.numbers_read_back.Goals as goal

pub returns : goal.returns
returns c = λ n. (number_of-digits 16 n (omega arith) (omega arith), number_of-digits 10 n (omega arith) (omega arith), octal_mode_of-digits n)
