-- Which printed lines have a reason.
use Rattle.std.specs.Prelude.{Bool, true, false}
use Rattle.script_output.specs.declared.lines.OutputLine.{OutputLine}
use Rattle.script_output.specs.declared.lines.OutputLine.TheVariants.{Reply, Forwarded, Deferred, Queued, Nothing, Flushed, Unsaved, Frags, Subtrees, Authority, Job, Sent, Object, Objects, Idle, Own, History, Refused, Errno}
use Rattle.script_output.specs.declared.own_turns.OwnResult.{OwnResult}
use Rattle.script_output.specs.declared.own_turns.OwnResult.TheVariants as own

-- a rank's own step was refused
abbrev pub own_was_refused : OwnResult → Bool
own_was_refused own.Nothing = false
own_was_refused (own.Sent length) = false
own_was_refused (own.Refused refusal) = true

-- the line says that a step was refused, or a request deferred or forwarded
abbrev pub is_explained : OutputLine → Bool
is_explained (Reply client tid place first reply) = false
is_explained (Forwarded rank) = true
is_explained Deferred = true
is_explained Queued = false
is_explained Nothing = false
is_explained Flushed = false
is_explained (Unsaved why) = false
is_explained (Frags leaves) = false
is_explained (Subtrees roots) = false
is_explained (Authority rank) = false
is_explained (Job number) = false
is_explained (Sent length) = false
is_explained (Object object) = false
is_explained (Objects names) = false
is_explained Idle = false
is_explained (Own turn) = own_was_refused turn.result
is_explained (History length) = false
is_explained (Refused refusal) = true
is_explained (Errno errno) = false
