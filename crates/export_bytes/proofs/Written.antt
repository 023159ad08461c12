-- What is written of an export piece by piece is the whole.
use Rattle.export_bytes.proofs.Common.{Inode, List, OnOk, Option, Result, SentFrag, SentName, Some, ap, append_assoc, base_bytes, entry_bytes, flat_map, frag_bytes, inode_bytes, length, little_bytes, name_bytes, on_ok_weaker, sym, word_of, ℕ, ◌++◌, ◌∙◌, ◌∷◌, ◌≡◌}

pub record_put : {A E : Type 0} (r : Result A E) (new out x bytes : List ℕ) (inode : Inode) (o : Option Inode) → o ≡ Some inode → x ≡ bytes → bytes ≡ entry_bytes inode
    → OnOk r (new ≡ out ++ 1 ∷ (little_bytes 2 (length x) ++ x)) → OnOk r (new ≡ out ++ inode_bytes o)
record_put r new out x bytes inode o is same spelled =
    on_ok_weaker r (λ e. e ∙ ap (λ (y : List ℕ). out ++ 1 ∷ (little_bytes 2 (length y) ++ y)) (same ∙ spelled) ∙ ap (λ (p : Option Inode). out ++ inode_bytes p) (sym is))

four_put : (out a b c d o1 o2 o3 o4 : List ℕ) → o1 ≡ out ++ a → o2 ≡ o1 ++ b → o3 ≡ o2 ++ c → o4 ≡ o3 ++ d → (n : List ℕ) → o4 ++ n ≡ out ++ (a ++ (b ++ (c ++ (d ++ n))))
four_put out a b c d o1 o2 o3 o4 e1 e2 e3 e4 n =
    ap (λ (t : List ℕ). t ++ n) e4 ∙ append_assoc o3 d n ∙ ap (λ (t : List ℕ). t ++ (d ++ n)) e3 ∙ append_assoc o2 c (d ++ n) ∙ ap (λ (t : List ℕ). t ++ (c ++ (d ++ n))) e2 ∙ append_assoc o1 b (c ++ (d ++ n))
    ∙ ap (λ (t : List ℕ). t ++ (b ++ (c ++ (d ++ n)))) e1 ∙ append_assoc out a (b ++ (c ++ (d ++ n)))

pub frag_put : {A E : Type 0} (r : Result A E) (new out o1 o2 o3 o4 : List ℕ) (f : SentFrag) (word count : ℕ) (names : List SentName) → word ≡ word_of f.frag → count ≡ length names → names ≡ f.names
    → o1 ≡ out ++ little_bytes 8 f.ino.0 → o2 ≡ o1 ++ little_bytes 4 word → o3 ≡ o2 ++ base_bytes f.base → o4 ≡ o3 ++ little_bytes 4 count
    → OnOk r (new ≡ o4 ++ flat_map name_bytes names) → OnOk r (new ≡ out ++ frag_bytes f)
frag_put r new out o1 o2 o3 o4 f word count names worded counted same e1 e2 e3 e4 =
    on_ok_weaker r (λ e. e ∙ four_put out (little_bytes 8 f.ino.0) (little_bytes 4 word) (base_bytes f.base) (little_bytes 4 count) o1 o2 o3 o4 e1 e2 e3 e4 (flat_map name_bytes names)
    ∙ ap (λ (w : ℕ). out ++ (little_bytes 8 f.ino.0 ++ (little_bytes 4 w ++ (base_bytes f.base ++ (little_bytes 4 count ++ flat_map name_bytes names))))) worded
    ∙ ap (λ (k : ℕ). out ++ (little_bytes 8 f.ino.0 ++ (little_bytes 4 (word_of f.frag) ++ (base_bytes f.base ++ (little_bytes 4 k ++ flat_map name_bytes names))))) counted
    ∙ ap (λ (xs : List SentName). out ++ (little_bytes 8 f.ino.0 ++ (little_bytes 4 (word_of f.frag) ++ (base_bytes f.base ++ (little_bytes 4 (length xs) ++ flat_map name_bytes xs))))) same)
