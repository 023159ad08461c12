-- What it is to put the line of a reply at the end of a text in memory.
use Rattle.std.specs.Prelude.{Bool, List, ℕ, ◌++◌, codes, Result}
use Rattle.std.specs.Fmt.{decimal}
use Rattle.mds_types.specs.declared.replies.Reply.{Reply}
use Rattle.script_output.specs.declared.replies.Heading.{Heading}
use Rattle.script_output.specs.Texts.{headed, more_text, reply_line}
use Rattle.script_output.specs.Writing.{Pushes}

-- what stands before a reply on its line, and then a text
abbrev pub PushesHeaded : {E : Type 0} → List ℕ → List ℕ → Heading → List ℕ → Result (Unit {0}) E → Type 0
PushesHeaded old new heading text result =
    Pushes old new (headed heading.client heading.tid heading.place heading.first text) result

-- `entries K more` or `entries K end`
abbrev pub entries_front : ℕ → Bool → List ℕ
entries_front count more = codes "entries " ++ (decimal count ++ (codes " " ++ more_text more))

-- a reply's line, with its LF
abbrev pub PushesReply : {E : Type 0} → List ℕ → List ℕ → Heading → Reply → Result (Unit {0}) E → Type 0
PushesReply old new heading reply result =
    Pushes old new (reply_line heading.client heading.tid heading.place heading.first reply ++ codes "\n") result
