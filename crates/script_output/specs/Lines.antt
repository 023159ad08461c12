-- The line that is printed for a command, without its LF.
use Rattle.std.specs.Prelude.{ℕ, List, ◌++◌, codes}
use Rattle.std.specs.Fmt.{decimal}
use Rattle.script_output.specs.declared.lines.OutputLine.{OutputLine}
use Rattle.script_output.specs.declared.lines.OutputLine.TheVariants.{Reply, Forwarded, Deferred, Queued, Nothing, Flushed, Unsaved, Frags, Subtrees, Authority, Job, Sent, Object, Objects, Idle, Own, History, Refused, Errno}
use Rattle.script_output.specs.ObjectLines.{object_line_text}
use Rattle.script_output.specs.OwnTurns.{own_text}
use Rattle.script_output.specs.Texts.{reply_line, frags_text, subtrees_text, objects_text, refused_line, errno_text}
use Rattle.keeping.specs.Unkept.{unkept_word}
use Rattle.mds_types.specs.declared.replies.Reply.{Reply as Replied}
use Rattle.script_output.specs.declared.replies.Heading.{Heading}

-- a reply's line, that of a request that went to another rank, that waits on, or that came in, of a step that answers
-- nothing, of a flush, of a flush that a file doesn't have, of a directory's leaves, of the subtree map, of a leaf's authority, of a commit that began, of
-- what an export handed over, of an object, of the objects' names, of a rank with no step of its own to make or with
-- one, of a history's length, of a refusal, or of a name or a target outside its rules
unfoldable pub output_line : OutputLine → List ℕ
output_line (Reply client tid place first reply) = reply_line client tid place first reply
output_line (Forwarded rank) = codes "forwarded " ++ decimal rank.0
output_line Deferred = codes "deferred"
output_line Queued = codes "queued"
output_line Nothing = codes "nothing"
output_line Flushed = codes "flushed"
output_line (Unsaved why) = codes "unsaved " ++ unkept_word why
output_line (Frags leaves) = frags_text leaves
output_line (Subtrees roots) = subtrees_text roots
output_line (Authority rank) = codes "rank " ++ decimal rank.0
output_line (Job number) = codes "job " ++ decimal number
output_line (Sent length) = codes "sent " ++ decimal length
output_line (Object object) = object_line_text object
output_line (Objects names) = objects_text names
output_line Idle = codes "none"
output_line (Own turn) = own_text turn
output_line (History length) = codes "history " ++ decimal length
output_line (Refused refusal) = refused_line refusal
output_line (Errno errno) = errno_text errno

-- the line of a reply with what stands before it
abbrev pub line_of_reply : Heading → Replied → OutputLine
line_of_reply heading reply = Reply heading.client heading.tid heading.place heading.first reply
