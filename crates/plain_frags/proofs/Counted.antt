-- How many entries a directory has: as many as its listing.
use Rattle.plain_frags.proofs.Common.{Bool, Dentry, Inode, List, None, T, Tree, [], ap, cond, dentry-exact, dentry-total, dentry_cmp, entries-from_sorted, entries_sorted, false, filter, find-where_key, get-entries, get-from_sorted, get-retain_keys, is_in, is_sorted, is_sorted-where_key, len-entries, length, map, refl, same_map, suc, sym, true, ℕ, ◌&&◌, ◌==◌, ◌∙◌, ◌∷◌, ◌≡◌}
use Rattle.std.specs.FinMap as finmap
use Rattle.mds_types.specs.Step.{names_after}
use Rattle.mds_types.specs.Tree.{entries_in}
use Rattle.plain_frags.proofs.Rows.{is_listed, named}

abbrev kept : ℕ → List (Dentry × Inode) → List (Dentry × Inode)
kept d es = filter (λ e. is_in d e.0) es

listed_alike : (d : ℕ) (es : List (Dentry × Inode)) → length (kept d es) ≡ length (map named (filter (is_listed d None) es))
listed_alike d [] = refl
listed_alike d (e ∷ es) = go (e.0.dir.0 == d) (listed_alike d es)
  where
    go : (b : Bool) → length (kept d es) ≡ length (map named (filter (is_listed d None) es)) → length (cond b (e ∷ kept d es) (kept d es)) ≡ length (map named (cond (b && true) (e ∷ filter (is_listed d None) es) (filter (is_listed d None) es)))
    go true more = ap suc more
    go false more = more

-- the entries that a test of the dentries keeps
kept_entries : (tree : Tree) (d : ℕ) → finmap.entries (finmap.retain_keys tree (is_in d)) ≡ kept d (finmap.entries tree)
kept_entries tree d = ap finmap.entries whole ∙ entries-from_sorted dentry_cmp (kept d (finmap.entries tree)) sorted
  where
    sorted : T (is_sorted dentry_cmp (kept d (finmap.entries tree)))
    sorted = is_sorted-where_key dentry_cmp (is_in d) (finmap.entries tree) (entries_sorted tree)

    whole : finmap.retain_keys tree (is_in d) ≡ finmap.from_sorted {R = dentry_cmp} (kept d (finmap.entries tree))
    whole = same_map dentry-total dentry-exact _ _ (λ q.
        get-retain_keys tree (is_in d) q (λ x tied. ap (is_in d) (sym (dentry-exact q x tied)))
        ∙ ap (λ o. cond (is_in d q) o None) (get-entries tree q)
        ∙ sym (find-where_key dentry_cmp (is_in d) q (λ x tied. ap (is_in d) (sym (dentry-exact q x tied))) (finmap.entries tree))
        ∙ sym (get-from_sorted dentry_cmp (kept d (finmap.entries tree)) q sorted))

pub entries_counted : (tree : Tree) (d : ℕ) → entries_in tree d ≡ length (names_after tree d None)
unfolding entries_in names_after
entries_counted tree d = len-entries (finmap.retain_keys tree (is_in d)) ∙ ap length (kept_entries tree d) ∙ listed_alike d (finmap.entries tree)
