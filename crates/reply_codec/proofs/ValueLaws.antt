-- The function that reads gives a reply exactly where the bytes spell it.
use Rattle.reply_codec.proofs.Common.{AllByRecursion, Decides, Decides-and, Decides-like, Decides-ltb, Decodes, Dir, Done, Entries, Entry, Errno, File, HasRank, HasTarget, Inode, IsInode, IsListed, IsReply, Kind, List, None, Option, Rank, IsReaderOf, Reply, Some, SpellsReply, Symlink, Target, [], ap, bytes_eq-Decides, first_reply, guarded, has_rank, is_inode, is_kind, is_listed, is_typed, is_reply_in, length, list_all, name_decides, one_reading, refl, reply_bytes, widths_decides, ℕ, ◌>>=◌, ◌^◌, ◌∷◌, ◌≡◌}
use Rattle.reply_codec.specs.Values.{reply_from}
use Rattle.reply_codec.proofs.Again.{le_decides, target_decides}
use Rattle.reply_codec.proofs.Items.{Listed}
use Rattle.reply_codec.proofs.ReplyLaws.{one_reply, reply_alone}

rank_decides : (pin : Option Rank) → Decides (has_rank pin) (HasRank pin)
rank_decides None = (λ _. tt, λ _. refl)
rank_decides (Some rank) = Decides-ltb rank.0 (2 ^ 8)

kind_decides : (kind : Kind) → Decides (is_kind kind) (HasTarget kind)
kind_decides File = (λ _. tt, λ _. refl)
kind_decides Dir = (λ _. tt, λ _. refl)
kind_decides (Symlink target) = target_decides target

inode_decides : (inode : Inode) → Decides (is_inode inode) (IsInode inode)
inode_decides inode =
    Decides-like _ (λ p. record { number = p.0; widths = p.1.0; mode = p.1.1.0; pin = p.1.1.1.0; target = p.1.1.1.1 }) (λ h. (h.number, (h.widths, (h.mode, (h.pin, h.target)))))
    (Decides-and _ _ (Decides-ltb inode.ino.0 (2 ^ 64)) (Decides-and _ _ (widths_decides inode) (Decides-and _ _ (le_decides inode.mode 4095) (Decides-and _ _ (rank_decides inode.pin) (kind_decides inode.kind)))))

listed_decides : (entry : Listed) → Decides (is_listed entry) (IsListed entry)
listed_decides entry = Decides-and _ _ (name_decides entry.0) (inode_decides entry.1)

all_decides : (list : List Listed) → Decides (list_all is_listed list) (AllByRecursion IsListed list)
all_decides [] = (λ _. tt, λ _. refl)
all_decides (entry ∷ list) = Decides-and _ _ (listed_decides entry) (all_decides list)

typed_decides : (reply : Reply) → Decides (is_typed reply) (IsReply reply)
typed_decides (Entry inode) = inode_decides inode
typed_decides (Entries list more) = Decides-and _ _ (Decides-ltb (length list) (2 ^ 64)) (all_decides list)
typed_decides (Target target) = target_decides target
typed_decides Done = (λ _. tt, λ _. refl)
typed_decides (Errno number) = Decides-ltb number (2 ^ 16)

reply_decides : (bytes : List ℕ) (reply : Reply) → Decides (is_reply_in bytes reply) (SpellsReply bytes reply)
reply_decides bytes reply = Decides-like _ (λ p. record { typed = p.0; spelled = p.1 }) (λ s. (s.typed, s.spelled)) (Decides-and _ _ (typed_decides reply) (bytes_eq-Decides bytes (reply_bytes reply)))

first_alone : (bytes : List ℕ) (reply : Reply) → SpellsReply bytes reply → first_reply bytes ≡ Some reply
first_alone bytes reply s = ap (λ (r : Option (Reply × List ℕ)). r >>= λ read. Some read.0) (reply_alone bytes reply s)

pub reads_reply : IsReaderOf SpellsReply reply_from
unfolding reply_from
reads_reply bytes = guarded SpellsReply bytes (first_reply bytes) (is_reply_in bytes) (reply_decides bytes) (first_alone bytes)

-- what is decoded is what is read
pub value_read : (bytes : List ℕ) (answer : Option Reply) → Decodes SpellsReply bytes answer → answer ≡ reply_from bytes
value_read bytes answer decoded = one_reading SpellsReply one_reply bytes answer (reply_from bytes) decoded (reads_reply bytes)
