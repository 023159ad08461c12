-- Which commands hold text, and what reading them takes memory for.
use Rattle.std.specs.Prelude.{◌≡◌, Some, None, Result, Ok, Err}
use Rattle.mds_types.specs.declared.operations.Op.{Op}
use Rattle.mds_types.specs.declared.operations.Op.TheVariants.{Lookup, Readdir, Create, Mkdir, Readlink, Symlink, Setattr, SetPin, Unlink, Rmdir, Rename}
use Rattle.script_text.specs.declared.commands.Command.{Command}
use Rattle.script_text.specs.declared.commands.Command.TheVariants.{Operation, Request, Serve, Own, History, Split, Merge, Leaves, Grant, Subtrees, Authority, Export, Store}
use Rattle.script_text.specs.declared.store_commands.StoreCommand.{StoreCommand}
use Rattle.script_text.specs.declared.store_commands.StoreCommand.TheVariants.{CommitBegin, CommitEnd, CommitDrop, Commit, CommitTree, Purge, Flush, Evict, Object, Objects}
use Rattle.script_words.specs.declared.faults.Fault.{Fault}
use Rattle.script_words.specs.declared.faults.Fault.TheVariants.{NotCommand, BadWord}
use Rattle.script_words.specs.declared.faults.ReadError.{ReadError}
use Rattle.script_words.specs.declared.faults.ReadError.TheVariants as errors

-- an operation that holds a name: each but a listing from the first name on
abbrev pub HoldsName : Op → Type 0
HoldsName (Lookup dentry) = Unit {0}
HoldsName (Readdir dir None max) = ⊥
HoldsName (Readdir dir (Some after) max) = Unit {0}
HoldsName (Create dentry mode birth) = Unit {0}
HoldsName (Mkdir dentry mode birth) = Unit {0}
HoldsName (Readlink dentry) = Unit {0}
HoldsName (Symlink dentry target birth) = Unit {0}
HoldsName (Setattr dentry attributes) = Unit {0}
HoldsName (SetPin dentry pin) = Unit {0}
HoldsName (Unlink dentry) = Unit {0}
HoldsName (Rmdir dentry) = Unit {0}
HoldsName (Rename from to) = Unit {0}

-- a command on the store that holds an object's name
abbrev pub HoldsObject : StoreCommand → Type 0
HoldsObject (CommitBegin rank ino frag) = ⊥
HoldsObject (CommitEnd job) = ⊥
HoldsObject (CommitDrop job) = ⊥
HoldsObject (Commit rank ino frag) = ⊥
HoldsObject (CommitTree ino) = ⊥
HoldsObject Purge = ⊥
HoldsObject Flush = ⊥
HoldsObject (Evict rank) = ⊥
HoldsObject (Object name) = Unit {0}
HoldsObject Objects = ⊥

-- a command that holds text: names of its operation, with the target of a link, or an object's name
abbrev pub HoldsText : Command → Type 0
HoldsText (Operation op) = HoldsName op
HoldsText (Request rank request) = HoldsName request.op
HoldsText (Serve rank) = ⊥
HoldsText (Own rank) = ⊥
HoldsText History = ⊥
HoldsText (Split rank ino frag bits) = ⊥
HoldsText (Merge rank ino frag) = ⊥
HoldsText (Leaves ino) = ⊥
HoldsText (Grant rank client tid) = ⊥
HoldsText Subtrees = ⊥
HoldsText (Authority ino frag) = ⊥
HoldsText (Export command) = ⊥
HoldsText (Store command) = HoldsObject command

-- what the words ask for holds text, or a name or a target among them is outside its rules
abbrev pub HasText : {A : Type 0} → (A → Type 0) → Result A Fault → Type 0
HasText Holds (Ok x) = Holds x
HasText Holds (Err NotCommand) = ⊥
HasText Holds (Err (BadWord errno)) = Unit {0}

-- a fault is that of the definition; memory is wanted only for text
abbrev pub FailsForText : {A : Type 0} → (A → Type 0) → ReadError → Result A Fault → Type 0
FailsForText Holds errors.NoMemory read = HasText Holds read
FailsForText Holds (errors.Fault fault) read = read ≡ Err fault

-- what a function returned is what the definition reads, unless memory for text was refused
abbrev pub GivesText : {A : Type 0} → (A → Type 0) → Result A ReadError → Result A Fault → Type 0
GivesText Holds (Ok x) read = read ≡ Ok x
GivesText Holds (Err error) read = FailsForText Holds error read
