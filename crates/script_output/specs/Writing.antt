-- What a write that may fail leaves.
use Rattle.std.specs.Prelude.{◌≡◌, ℕ, ◌<◌, List, ◌++◌, length, Option, Result, Ok, Err}
use Rattle.std.specs.Io.KnownBytes.{Appends, Keeps}
use Rattle.mds_types.specs.declared.object_names.ObjName.{ObjName}
use Rattle.mds_types.specs.declared.refusals.Refusal.{Refusal}
use Rattle.mds_types.specs.declared.refusals.Refusal.TheVariants.{Damaged}
use Rattle.script_output.specs.declared.lines.OutputLine.{OutputLine}
use Rattle.script_output.specs.declared.lines.OutputLine.TheVariants.{Reply, Forwarded, Deferred, Queued, Nothing, Flushed, Unsaved, Frags, Subtrees, Authority, Job, Sent, Object, Objects, Idle, Own, History, Refused, Errno}
use Rattle.script_output.specs.declared.writing.OutputFault.{OutputFault}
use Rattle.script_output.specs.declared.writing.OutputFault.TheVariants.{NoMemory, Write}

-- the known bytes grew by a beginning of the text, and not by all of it
pub record AppendsBeginning (old new : Option (List ℕ)) (text : List ℕ) : Type 0 where
  pub front : List ℕ
  pub rest : List ℕ
  pub whole : text ≡ front ++ rest
  pub left : 0 < length rest
  pub written : Appends old new front

-- a text in memory grew by bytes; where there was no memory for them, it begins as it was
abbrev pub Pushes : {E : Type 0} → List ℕ → List ℕ → List ℕ → Result (Unit {0}) E → Type 0
Pushes old new bytes (Ok done) = new ≡ old ++ bytes
Pushes old new bytes (Err none) = (rest : List ℕ) × (new ≡ old ++ rest)

-- a text in memory grew by one that was made, if there was memory to make it
abbrev pub PushesMade : {S E F : Type 0} → (S → List ℕ) → List ℕ → List ℕ → Result S E → Result (Unit {0}) F → Type 0
PushesMade bytes_of old new (Ok text) result = Pushes old new (bytes_of text) result
PushesMade bytes_of old new (Err none) (Ok done) = ⊥
PushesMade bytes_of old new (Err none) (Err other) = (rest : List ℕ) × (new ≡ old ++ rest)

-- a line's text: all of it is appended to the known bytes; for want of memory nothing; at the writer's fault a
-- beginning
abbrev pub WritesLine : Option (List ℕ) → Option (List ℕ) → List ℕ → Result (Unit {0}) OutputFault → Type 0
WritesLine old new text (Ok done) = Appends old new text
WritesLine old new text (Err NoMemory) = Keeps old new
WritesLine old new text (Err Write) = AppendsBeginning old new text

-- a refusal whose line names an object
abbrev pub NamesObject : Refusal → Type 0
NamesObject refusal = (object : ObjName) × (refusal ≡ Damaged object)

-- a line whose text isn't always the same, so that it takes memory; that of any refusal but a damaged object's is
abbrev pub TakesText : OutputLine → Type 0
TakesText (Reply client tid place first reply) = Unit {0}
TakesText (Forwarded rank) = Unit {0}
TakesText Deferred = ⊥
TakesText Queued = ⊥
TakesText Nothing = ⊥
TakesText Flushed = ⊥
TakesText (Unsaved why) = ⊥
TakesText (Frags leaves) = Unit {0}
TakesText (Subtrees roots) = Unit {0}
TakesText (Authority rank) = Unit {0}
TakesText (Job number) = Unit {0}
TakesText (Sent length) = Unit {0}
TakesText (Object object) = Unit {0}
TakesText (Objects names) = Unit {0}
TakesText Idle = ⊥
TakesText (Own turn) = Unit {0}
TakesText (History length) = Unit {0}
TakesText (Refused refusal) = NamesObject refusal
TakesText (Errno errno) = Unit {0}
