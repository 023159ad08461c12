-- What is printed of the step that a rank made of its own.
use Rattle.std.specs.Prelude.{ℕ, List, ◌++◌, codes}
use Rattle.std.specs.Fmt.{decimal}
use Rattle.mds_types.specs.Frag.{fragment_text}
use Rattle.script_output.specs.declared.own_turns.OwnResult.{OwnResult}
use Rattle.script_output.specs.declared.own_turns.OwnResult.TheVariants.{Nothing, Sent, Refused}
use Rattle.script_output.specs.declared.own_turns.OwnStep.{OwnStep}
use Rattle.script_output.specs.declared.own_turns.OwnStep.TheVariants.{Split, Merge, Start, Freeze, Prep, Send, Import, Finish, Cancel}
use Rattle.script_output.specs.declared.own_turns.OwnTurn.{OwnTurn}
use Rattle.script_output.specs.Texts.{hexadecimal, refused_line}

-- WHAT
abbrev pub step_text : OwnStep → List ℕ
step_text Split = codes "split"
step_text Merge = codes "merge"
step_text Start = codes "start"
step_text Freeze = codes "freeze"
step_text Prep = codes "prep"
step_text Send = codes "send"
step_text Import = codes "import"
step_text Finish = codes "finish"
step_text Cancel = codes "cancel"

-- RESULT
abbrev pub result_text : OwnResult → List ℕ
result_text Nothing = codes "nothing"
result_text (Sent length) = codes "sent " ++ decimal length
result_text (Refused refusal) = refused_line refusal

-- `own WHAT INO FRAG RESULT`
abbrev pub own_text : OwnTurn → List ℕ
own_text turn = codes "own " ++ (step_text turn.step ++ (codes " "
    ++ (hexadecimal turn.ino.0 ++ (codes " " ++ (fragment_text turn.frag ++ (codes " " ++ result_text turn.result))))))
