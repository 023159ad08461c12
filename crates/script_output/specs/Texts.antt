-- What is printed for each result: one line each, here without its LF.
use Rattle.std.specs.Prelude.{ℕ, Bool, true, false, ◌&&◌, ◌==◌, if◌then◌else◌, List, [], ◌++◌, codes, length, Option, Some, None}
use Rattle.std.specs.Fmt.{decimal, digits}
use Rattle.std.specs.List.{flat_map}
use Rattle.mds_types.specs.declared.ids.Rank.{Rank}
use Rattle.mds_types.specs.declared.inodes.Inode.{Inode}
use Rattle.mds_types.specs.declared.inodes.Kind.{Kind}
use Rattle.mds_types.specs.declared.inodes.Kind.TheVariants.{File, Dir, Symlink}
use Rattle.mds_types.specs.declared.replies.Reply.{Reply}
use Rattle.mds_types.specs.declared.replies.Reply.TheVariants.{Entry, Entries, Target, Done, Errno}
use Rattle.mds_types.specs.declared.refusals.Refusal.{Refusal}
use Rattle.mds_types.specs.declared.refusals.Refusal.TheVariants.{Damaged}
use Rattle.mds_types.specs.ObjectText.{object_text}
use Rattle.mds_types.specs.Refusal.{refusal_number}
use Rattle.mds_types.specs.Frag.{Fragment, fragment_text}
use Rattle.script_output.specs.declared.root_lists.Root.{Root}
use Rattle.script_output.specs.Escapes.{escaped}

-- inode numbers print in lower hexadecimal, modes in octal, other numbers in decimal
abbrev pub hexadecimal : ℕ → List ℕ
hexadecimal n = digits 16 false n

abbrev pub octal : ℕ → List ℕ
octal n = digits 8 false n

-- KIND
abbrev pub kind_text : Kind → List ℕ
kind_text File = codes "file"
kind_text Dir = codes "dir"
kind_text (Symlink target) = codes "link"

-- ` owner UID GID`, where one of them isn't 0
abbrev pub owner_text : ℕ → ℕ → List ℕ
owner_text uid gid =
    if (uid == 0) && (gid == 0) then [] else (codes " owner " ++ (decimal uid ++ (codes " " ++ decimal gid)))

-- ` pin RANK`, where one is set
abbrev pub pin_text : Option Rank → List ℕ
pin_text None = []
pin_text (Some rank) = codes " pin " ++ decimal rank.0

-- `entry INO KIND MODE SIZE MTIME`, then owner and pin
abbrev pub entry_text : Inode → List ℕ
entry_text inode = codes "entry " ++ (hexadecimal inode.ino.0
    ++ (codes " " ++ (kind_text inode.kind ++ (codes " " ++ (octal inode.mode
    ++ (codes " " ++ (decimal inode.size ++ (codes " " ++ (decimal inode.mtime
    ++ (owner_text inode.uid inode.gid ++ pin_text inode.pin))))))))))

-- a space and `NAME:INO`
abbrev pub listed_text : List ℕ × Inode → List ℕ
listed_text entry = codes " " ++ (escaped entry.0 ++ (codes ":" ++ hexadecimal entry.1.ino.0))

-- whether further names follow
abbrev pub more_text : Bool → List ℕ
more_text true = codes "more"
more_text false = codes "end"

-- `entries K more` or `entries K end`, and then each entry
abbrev pub entries_text : List (List ℕ × Inode) → Bool → List ℕ
entries_text list more =
    codes "entries " ++ (decimal (length list) ++ (codes " " ++ (more_text more ++ flat_map listed_text list)))

-- `errno N`
abbrev pub errno_text : ℕ → List ℕ
errno_text errno = codes "errno " ++ decimal errno

-- R
abbrev pub reply_text : Reply → List ℕ
reply_text (Entry inode) = entry_text inode
reply_text (Entries list more) = entries_text list more
reply_text (Target target) = codes "target " ++ escaped target
reply_text Done = codes "done"
reply_text (Errno errno) = errno_text errno

-- a reply that was applied now, or kept and answered again
abbrev pub first_text : Bool → List ℕ
first_text true = codes "new"
first_text false = codes "again"

-- `reply CLIENT TID PLACE new` or `reply CLIENT TID PLACE again`, and then a text
abbrev pub headed : ℕ → ℕ → ℕ → Bool → List ℕ → List ℕ
headed client tid place first text = codes "reply " ++ (decimal client
    ++ (codes " " ++ (decimal tid ++ (codes " " ++ (decimal place
    ++ (codes " " ++ (first_text first ++ (codes " " ++ text))))))))

-- `reply CLIENT TID PLACE new R` or `reply CLIENT TID PLACE again R`
abbrev pub reply_line : ℕ → ℕ → ℕ → Bool → Reply → List ℕ
reply_line client tid place first reply = headed client tid place first (reply_text reply)

-- a space and a fragment, as it prints
abbrev pub spaced_frag : Fragment → List ℕ
spaced_frag leaf = codes " " ++ fragment_text leaf

-- `frags K F ..`: how many leaves, and then each of them
abbrev pub frags_text : List Fragment → List ℕ
frags_text leaves = codes "frags " ++ (decimal (length leaves) ++ flat_map spaced_frag leaves)

-- `tree K F ..`: how many leaves a fragment tree has, and then each of them
abbrev pub printed_tree : List Fragment → List ℕ
printed_tree leaves = codes "tree " ++ (decimal (length leaves) ++ flat_map spaced_frag leaves)

-- a space and `INO:FRAG:RANK`: the root of a subtree, and its rank
abbrev pub root_text : Root → List ℕ
root_text root = codes " " ++ (hexadecimal root.ino.0 ++ (codes ":"
    ++ (fragment_text root.frag ++ (codes ":" ++ decimal root.rank.0))))

-- `subtrees K INO:FRAG:RANK ..`: how many roots, and then each of them
abbrev pub subtrees_text : List Root → List ℕ
subtrees_text roots = codes "subtrees " ++ (decimal (length roots) ++ flat_map root_text roots)

-- a space and a key or the name of an object, as it prints
abbrev pub spaced_word : List ℕ → List ℕ
spaced_word word = codes " " ++ escaped word

-- `frag VERSION FILES DIRS KEY ..`: a fragment's commit version, its entry counts, and the key of each entry
abbrev pub frag_text : ℕ → ℕ → ℕ → List (List ℕ) → List ℕ
frag_text version files dirs keys = codes "frag " ++ (decimal version
    ++ (codes " " ++ (decimal files ++ (codes " " ++ (decimal dirs ++ flat_map spaced_word keys)))))

-- `objects K NAME ..`: how many objects there are, and then the name of each
abbrev pub objects_text : List (List ℕ) → List ℕ
objects_text names = codes "objects " ++ (decimal (length names) ++ flat_map spaced_word names)

-- a space and the name of the object that is damaged; of another refusal nothing
abbrev pub damaged_text : Refusal → List ℕ
damaged_text (Damaged object) = codes " " ++ object_text object
damaged_text refusal = []

-- `refused N`, and `refused 17 OBJECT` of a damaged object
abbrev pub refused_line : Refusal → List ℕ
refused_line refusal = codes "refused " ++ (decimal (refusal_number refusal) ++ damaged_text refusal)
