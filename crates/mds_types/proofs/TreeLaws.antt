-- Laws of the plain tree.
use Rattle.std.specs.Prelude.{◌≡◌, ℕ, Bool, true, false, cond, ◌||◌, ◌==◌, List, [], ◌∷◌, Some, None, refl}
use Rattle.std.specs.List.{list_any}
use Rattle.std.specs.declared.cmp.Ordering.{Ordering}
use Rattle.std.specs.declared.cmp.Ordering.TheVariants.{Less, Equal, Greater}
use Rattle.std.specs.Ordering.{is_eq}
use Rattle.std.specs.FinMap as map
use Rattle.std.specs.FinMap.{find, put, entries-insert, get-entries, len-entries, len-empty}
use Rattle.std.specs.FinMap.Entries.{by_order}
use Rattle.std.proofs.Common.{sym, ap, ◌∙◌}
use Rattle.mds_types.specs.declared.dentries.Dentry.{Dentry}
use Rattle.mds_types.specs.declared.inodes.Inode.{Inode}
use Rattle.mds_types.specs.Tree.{Tree, dentry_cmp, is_directory, is_entry_of_directory}
use Rattle.mds_types.proofs.OrderLaws.{dentry-total}
use Rattle.std.proofs.lemmas.List.{nil_from_length}

or_swap : (a b c : Bool) → (a || (b || c)) ≡ (b || (a || c))
or_swap true true c = refl
or_swap true false c = refl
or_swap false true c = refl
or_swap false false c = refl

-- a test of the entries, once a key that was absent has come in
list_any-put : {K X : Type 0} (R : K → K → Ordering) (p : K × X → Bool) (k : K) (v : X) (es : List (K × X)) → find R k es ≡ None → list_any p (put R k v es) ≡ (p (k, v) || list_any p es)
list_any-put R p k v [] absent = refl
list_any-put R p k v (e ∷ es) absent = go (R k e.0) refl absent (list_any-put R p k v es)
  where
    go : (r : Ordering) → R k e.0 ≡ r → cond (is_eq (R k e.0)) (Some e.1) (find R k es) ≡ None → (find R k es ≡ None → list_any p (put R k v es) ≡ (p (k, v) || list_any p es)) → list_any p (by_order (R k e.0) ((k, v) ∷ e ∷ es) ((e.0, v) ∷ es) (e ∷ put R k v es)) ≡ (p (k, v) || (p e || list_any p es))
    go Less is none more = ap (λ r. list_any p (by_order r ((k, v) ∷ e ∷ es) ((e.0, v) ∷ es) (e ∷ put R k v es))) is
    go Equal is none more = let found : Some e.1 ≡ None = sym (ap (λ r. cond (is_eq r) (Some e.1) (find R k es)) is) ∙ none in cc
    go Greater is none more =
        ap (λ r. list_any p (by_order r ((k, v) ∷ e ∷ es) ((e.0, v) ∷ es) (e ∷ put R k v es))) is
        ∙ ap (λ b. p e || b) (more (sym (ap (λ r. cond (is_eq r) (Some e.1) (find R k es)) is) ∙ none))
        ∙ or_swap (p e) (p (k, v)) (list_any p es)

-- the directories, once an inode stands at a dentry that was free
pub is_directory-insert : (tree : Tree) (dentry : Dentry) (inode : Inode) (d : ℕ) → map.get tree dentry ≡ None
    → is_directory (map.insert tree dentry inode) d ≡ (is_entry_of_directory d (dentry, inode) || is_directory tree d)
unfolding is_directory
is_directory-insert tree dentry inode d absent =
    ap (λ es. (d == 1) || list_any (is_entry_of_directory d) es) (entries-insert dentry-total tree dentry inode)
    ∙ ap (λ b. (d == 1) || b) (list_any-put dentry_cmp (is_entry_of_directory d) dentry inode (map.entries tree) (sym (get-entries tree dentry) ∙ absent))
    ∙ or_swap (d == 1) (is_entry_of_directory d (dentry, inode)) (list_any (is_entry_of_directory d) (map.entries tree))

-- where nothing stands there is no entry
pub entries-empty : map.entries (map.empty {K = Dentry} {X = Inode} {R = dentry_cmp}) ≡ []
entries-empty = nil_from_length _ (sym (len-entries map.empty) ∙ len-empty dentry_cmp Inode)
