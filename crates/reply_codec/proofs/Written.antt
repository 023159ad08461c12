-- What is written of an inode piece by piece is the whole.
use Rattle.reply_codec.proofs.Common.{Dir, Err, File, Inode, IsInode, Kind, List, Ok, OnOk, Result, Symlink, [], ap, append_assoc, cond, is_ok, kind_byte, length, little_bytes, on_ok_weaker, pin_number, refl, target_bytes, ℕ, ◌++◌, ◌∙◌, ◌∷◌, ◌≡◌}
use Rattle.reply_codec.specs.ReplyBytes.{plain_bytes}

-- one piece more
piece : (old new x rest : List ℕ) → new ≡ old ++ x → new ++ rest ≡ old ++ (x ++ rest)
piece old new x rest e = ap (λ (t : List ℕ). t ++ rest) e ∙ append_assoc old x rest

kind_cell : (kind : Kind) → kind_byte kind ∷ [] ≡ little_bytes 1 (kind_byte kind)
kind_cell File = refl
kind_cell Dir = refl
kind_cell (Symlink target) = refl

-- what was appended, where it was
pub appended : {A E : Type 0} (r : Result A E) (new whole old : List ℕ) → new ≡ cond (is_ok r) whole old → OnOk r (new ≡ whole)
appended (Ok x) new whole old e = e
appended (Err x) new whole old e = tt

-- the pieces of an inode, one behind another
abbrev pieces : Inode → List ℕ
pieces inode =
    kind_byte inode.kind ∷ [] ++ (little_bytes 8 inode.ino.0 ++ (little_bytes 8 inode.size ++ (little_bytes 8 inode.mtime ++ (little_bytes 4 inode.uid ++ (little_bytes 4 inode.gid
    ++ (little_bytes 2 inode.mode ++ (little_bytes 2 (pin_number inode.pin) ++ (little_bytes 2 (length (target_bytes inode.kind)) ++ target_bytes inode.kind))))))))

pieces_whole : (inode : Inode) → pieces inode ≡ plain_bytes inode
unfolding plain_bytes
pieces_whole inode =
    ap (λ (cell : List ℕ). cell ++ (little_bytes 8 inode.ino.0 ++ (little_bytes 8 inode.size ++ (little_bytes 8 inode.mtime ++ (little_bytes 4 inode.uid ++ (little_bytes 4 inode.gid
    ++ (little_bytes 2 inode.mode ++ (little_bytes 2 (pin_number inode.pin) ++ (little_bytes 2 (length (target_bytes inode.kind)) ++ target_bytes inode.kind))))))))) (kind_cell inode.kind)

pub inode_put : {A E : Type 0} (r : Result A E) (new out o1 o2 o3 o4 o5 o6 o7 o8 o9 : List ℕ) (inode : Inode) → IsInode inode → o1 ≡ out ++ kind_byte inode.kind ∷ []
    → o2 ≡ o1 ++ little_bytes 8 inode.ino.0 → o3 ≡ o2 ++ little_bytes 8 inode.size → o4 ≡ o3 ++ little_bytes 8 inode.mtime → o5 ≡ o4 ++ little_bytes 4 inode.uid → o6 ≡ o5 ++ little_bytes 4 inode.gid
    → o7 ≡ o6 ++ little_bytes 2 inode.mode → o8 ≡ o7 ++ little_bytes 2 (pin_number inode.pin) → o9 ≡ o8 ++ little_bytes 2 (length (target_bytes inode.kind)) → OnOk r (new ≡ o9 ++ target_bytes inode.kind)
    → OnOk r (IsInode inode × (new ≡ out ++ plain_bytes inode))
inode_put r new out o1 o2 o3 o4 o5 o6 o7 o8 o9 inode is e1 e2 e3 e4 e5 e6 e7 e8 e9 =
    let t9 = target_bytes inode.kind in
    let t8 = little_bytes 2 (length t9) ++ t9 in
    let t7 = little_bytes 2 (pin_number inode.pin) ++ t8 in
    let t6 = little_bytes 2 inode.mode ++ t7 in
    let t5 = little_bytes 4 inode.gid ++ t6 in
    let t4 = little_bytes 4 inode.uid ++ t5 in
    let t3 = little_bytes 8 inode.mtime ++ t4 in
    let t2 = little_bytes 8 inode.size ++ t3 in
    let t1 = little_bytes 8 inode.ino.0 ++ t2 in
    let all : o9 ++ t9 ≡ out ++ pieces inode =
    piece o8 o9 (little_bytes 2 (length t9)) t9 e9 ∙ piece o7 o8 (little_bytes 2 (pin_number inode.pin)) t8 e8 ∙ piece o6 o7 (little_bytes 2 inode.mode) t7 e7
    ∙ piece o5 o6 (little_bytes 4 inode.gid) t6 e6 ∙ piece o4 o5 (little_bytes 4 inode.uid) t5 e5 ∙ piece o3 o4 (little_bytes 8 inode.mtime) t4 e4 ∙ piece o2 o3 (little_bytes 8 inode.size) t3 e3
    ∙ piece o1 o2 (little_bytes 8 inode.ino.0) t2 e2 ∙ piece out o1 (kind_byte inode.kind ∷ []) t1 e1 in
    on_ok_weaker r (λ e. (is, e ∙ all ∙ ap (λ (t : List ℕ). out ++ t) (pieces_whole inode)))
