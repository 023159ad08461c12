-- What is written of a reply is read again.
use Rattle.reply_codec.proofs.Common.{Bool, Decides, Decides-and, Decides-like, Decides-ltb, Dir, Done, Entries, Entry, Errno, File, Fit, HasRank, HasTarget, Inode, InodeFields, IsInode, IsListed, IsName, IsReply, IsTarget, Kind, List, None, Option, Rank, Reply, Some, Symlink, Target, ap, append_assoc, arith, byte_at, bytes_at, cond, counted_at, counted_bytes, drop_at, eqb, false, fields_bytes, flat_map, get_or, inode_from, inode_numbers, inode_widths, is_name, is_target, kind_byte, kind_from, le-ltb, leb, length, length-append, list_at, listed_bytes, little_bytes, ltb, mode_from, more_byte, more_of, name_decides, nat_tests, number_again, number_at, numbers_again, numbers_at, pin_from, pin_number, plain_fields, refl, reply_bytes, said_at, take_at, target_bytes, true, ℕ, ◌++◌, ◌+◌, ◌-◌, ◌<◌, ◌>>=◌, ◌^◌, ◌∙◌, ◌∷◌, ◌≡◌, ◌≤◌}
use Rattle.reply_codec.specs.ReplyBytes.{plain_bytes}
use Rattle.reply_codec.specs.Reading.{listing_at, found_at, errno_at, plain_fields_at, plain_inode_at, inode_said, link_at, listed_at, entry_name_at, reply_at, target_at}
use Rattle.reply_codec.proofs.Items.{Listed, list_again}

pub le_decides : (a b : ℕ) → Decides (leb a b) (a ≤ b)
le_decides a b = (λ e. grind (arith, nat_tests), λ h. grind (arith, nat_tests))

pub target_decides : (target : List ℕ) → Decides (is_target target) (IsTarget target)
target_decides target =
    Decides-like _ (λ p. record { some = p.0; short = p.1.0; plain = p.1.1 }) (λ h. (h.some, (h.short, h.plain)))
    (Decides-and _ _ (Decides-ltb 0 (length target)) (Decides-and _ _ (le_decides (length target) 4095) (λ e. e, λ e. e)))

part_again : (x rest : List ℕ) → bytes_at (length x) (x ++ rest) ≡ Some (x, rest)
part_again x rest =
    let long : ltb (length (x ++ rest)) (length x) ≡ false = le-ltb _ _ (omega (arith, length-append x rest)) in
    rw (long, take_at x rest (length x) refl, drop_at x rest (length x) refl) refl

counted_again : (width : ℕ) (x rest : List ℕ) → length x < 256 ^ width → counted_at width (counted_bytes width x ++ rest) ≡ Some (x, rest)
counted_again width x rest short =
    ap (counted_at width) (append_assoc (little_bytes width (length x)) x rest)
    ∙ ap (λ (r : Option (ℕ × List ℕ)). r >>= λ len. bytes_at len.0 len.1) (number_again width (length x) (x ++ rest) short) ∙ part_again x rest

name_again : (name rest : List ℕ) → IsName name → entry_name_at (counted_bytes 1 name ++ rest) ≡ Some (name, rest)
unfolding entry_name_at
name_again name rest named =
    ap (λ (r : Option (List ℕ × List ℕ)). r >>= λ part. cond (is_name part.0) (Some part) None) (counted_again 1 name rest (omega (arith, named.short)))
    ∙ ap (λ (b : Bool). cond b (Some (name, rest)) None) ((name_decides name).1 named)

target_again : (target rest : List ℕ) → IsTarget target → target_at (counted_bytes 2 target ++ rest) ≡ Some (target, rest)
unfolding target_at
target_again target rest is =
    ap (λ (r : Option (List ℕ × List ℕ)). r >>= λ part. cond (is_target part.0) (Some part) None) (counted_again 2 target rest (omega (arith, is.short)))
    ∙ ap (λ (b : Bool). cond b (Some (target, rest)) None) ((target_decides target).1 is)

-- ---- inodes

kind_small : (kind : Kind) → kind_byte kind < 256 ^ 1
kind_small File = omega arith
kind_small Dir = omega arith
kind_small (Symlink target) = omega arith

pin_small : (pin : Option Rank) → HasRank pin → pin_number pin < 256 ^ 2
pin_small None h = omega arith
pin_small (Some rank) h = omega (arith, h)

target_short : (kind : Kind) → HasTarget kind → length (target_bytes kind) < 256 ^ 2
target_short File h = omega arith
target_short Dir h = omega arith
target_short (Symlink target) h = omega (arith, h.short)

-- the numbers of an inode fit their widths
fit : (inode : Inode) → IsInode inode → Fit inode_widths (inode_numbers inode)
fit inode is =
    (kind_small inode.kind, (omega (arith, is.number), (omega (arith, is.widths.size), (omega (arith, is.widths.mtime), (omega (arith, is.widths.uid), (omega (arith, is.widths.gid), (omega (arith, is.mode), (pin_small inode.pin is.pin, (target_short inode.kind is.target, tt)))))))))

abbrev pub fields_for : Inode → InodeFields
fields_for inode = plain_fields (inode_numbers inode) (target_bytes inode.kind)

fields_again : (inode : Inode) (rest : List ℕ) → IsInode inode → plain_fields_at (plain_bytes inode ++ rest) ≡ Some (fields_for inode, rest)
unfolding plain_fields_at plain_bytes
fields_again inode rest is =
    let numbers = inode_numbers inode in
    let target = target_bytes inode.kind in
    let K : Option (List ℕ × List ℕ) → Option (InodeFields × List ℕ) = λ r. r >>= λ n. bytes_at (get_or n.0 8 0) n.1 >>= λ t. Some (plain_fields n.0 t.0, t.1) in
    ap (λ (t : List ℕ). K (numbers_at inode_widths t)) (append_assoc (fields_bytes inode_widths numbers) target rest)
    ∙ ap K (numbers_again inode_widths numbers (target ++ rest) (fit inode is))
    ∙ ap (λ (r : Option (List ℕ × List ℕ)). r >>= λ t. Some (plain_fields numbers t.0, t.1)) (part_again target rest)

kind_again : (kind : Kind) → HasTarget kind → kind_from (kind_byte kind) (target_bytes kind) ≡ Some kind
kind_again File h = refl
kind_again Dir h = refl
kind_again (Symlink target) h = ap (λ (b : Bool). cond b (Some (Symlink target)) None) ((target_decides target).1 h)

pin_again : (pin : Option Rank) → HasRank pin → pin_from (pin_number pin) ≡ Some pin
pin_again None h = refl
pin_again (Some rank) h =
    let some : eqb (rank.0 + 1) 0 ≡ false = grind (arith, nat_tests) in
    let few : leb (rank.0 + 1) 256 ≡ true = grind (arith, nat_tests, h) in
    let same : rank.0 + 1 - 1 ≡ rank.0 = omega arith in
    rw (some, few, same) refl

mode_again : (mode : ℕ) → mode ≤ 4095 → mode_from mode ≡ Some mode
mode_again mode few = ap (λ (b : Bool). cond b (Some mode) None) ((le_decides mode 4095).1 few)

inode_of_again : (inode : Inode) → IsInode inode → inode_said (fields_for inode) ≡ Some inode
unfolding inode_said
inode_of_again inode is =
    let f = fields_for inode in
    ap (λ (r : Option ℕ). r >>= λ mode. pin_from f.pin >>= λ pin. kind_from f.kind f.target >>= λ kind. Some (inode_from f mode pin kind)) (mode_again inode.mode is.mode)
    ∙ ap (λ (r : Option (Option Rank)). r >>= λ pin. kind_from f.kind f.target >>= λ kind. Some (inode_from f inode.mode pin kind)) (pin_again inode.pin is.pin)
    ∙ ap (λ (r : Option Kind). r >>= λ kind. Some (inode_from f inode.mode inode.pin kind)) (kind_again inode.kind is.target)

inode_again : (inode : Inode) (rest : List ℕ) → IsInode inode → plain_inode_at (plain_bytes inode ++ rest) ≡ Some (inode, rest)
unfolding plain_inode_at
inode_again inode rest is =
    ap (λ (r : Option (InodeFields × List ℕ)). r >>= λ f. inode_said f.0 >>= λ i. Some (i, f.1)) (fields_again inode rest is)
    ∙ ap (λ (r : Option Inode). r >>= λ i. Some (i, rest)) (inode_of_again inode is)

-- ---- listings

listed_again : (entry : Listed) (rest : List ℕ) → IsListed entry → listed_at (listed_bytes entry ++ rest) ≡ Some (entry, rest)
unfolding listed_at
listed_again entry rest is =
    let behind = plain_bytes entry.1 in
    ap (λ (t : List ℕ). entry_name_at t >>= λ n. plain_inode_at n.1 >>= λ i. Some ((n.0, i.0), i.1)) (append_assoc (counted_bytes 1 entry.0) behind rest)
    ∙ ap (λ (r : Option (List ℕ × List ℕ)). r >>= λ n. plain_inode_at n.1 >>= λ i. Some ((n.0, i.0), i.1)) (name_again entry.0 (behind ++ rest) is.0)
    ∙ ap (λ (r : Option (Inode × List ℕ)). r >>= λ i. Some ((entry.0, i.0), i.1)) (inode_again entry.1 rest is.1)

more_again : (more : Bool) → more_of (more_byte more) ≡ Some more
more_again false = refl
more_again true = refl

entries_chain : (more : Bool) (count : ℕ) (list : List Listed) (bytes t u rest : List ℕ) → byte_at bytes ≡ Some (more_byte more, t) → number_at 8 t ≡ Some (count, u) → list_at count u ≡ Some (list, rest)
    → listing_at bytes ≡ Some (Entries list more, rest)
unfolding listing_at
entries_chain more count list bytes t u rest e0 e1 e2 = rw (e0, more_again more, e1, e2) refl

-- ---- replies

reply_chain : (kind : ℕ) (bytes rest : List ℕ) (reply : Reply) → said_at kind bytes ≡ Some (reply, rest) → reply_at (kind ∷ bytes) ≡ Some (reply, rest)
unfolding reply_at
reply_chain kind bytes rest reply said = said

entry_chain : (inode : Inode) (bytes rest : List ℕ) → plain_inode_at bytes ≡ Some (inode, rest) → found_at bytes ≡ Some (Entry inode, rest)
unfolding found_at
entry_chain inode bytes rest e = rw e refl

link_chain : (target bytes rest : List ℕ) → target_at bytes ≡ Some (target, rest) → link_at bytes ≡ Some (Target target, rest)
unfolding link_at
link_chain target bytes rest e = rw e refl

errno_chain : (number : ℕ) (bytes rest : List ℕ) → number_at 2 bytes ≡ Some (number, rest) → errno_at bytes ≡ Some (Errno number, rest)
unfolding errno_at
errno_chain number bytes rest e = rw e refl

pub reply_again : (reply : Reply) (rest : List ℕ) → IsReply reply → reply_at (reply_bytes reply ++ rest) ≡ Some (reply, rest)
reply_again (Entry inode) rest is = reply_chain 1 (plain_bytes inode ++ rest) rest (Entry inode) (entry_chain inode (plain_bytes inode ++ rest) rest (inode_again inode rest is))
reply_again (Entries list more) rest (few, all) =
    let front = little_bytes 8 (length list) in
    let items = flat_map listed_bytes list in
    let tail : (front ++ items) ++ rest ≡ front ++ (items ++ rest) = append_assoc front items rest in
    let counted : number_at 8 ((front ++ items) ++ rest) ≡ Some (length list, items ++ rest) = ap (number_at 8) tail ∙ number_again 8 (length list) (items ++ rest) (omega (arith, few)) in
    reply_chain 2 (more_byte more ∷ ((front ++ items) ++ rest)) rest (Entries list more)
    (entries_chain more (length list) list (more_byte more ∷ ((front ++ items) ++ rest)) ((front ++ items) ++ rest) (items ++ rest) rest refl counted (list_again listed_again list rest all))
reply_again (Target target) rest is = reply_chain 3 (counted_bytes 2 target ++ rest) rest (Target target) (link_chain target (counted_bytes 2 target ++ rest) rest (target_again target rest is))
reply_again Done rest is = reply_chain 4 rest rest Done refl
reply_again (Errno number) rest is =
    reply_chain 5 (little_bytes 2 number ++ rest) rest (Errno number) (errno_chain number (little_bytes 2 number ++ rest) rest (number_again 2 number rest (omega (arith, is))))
