-- What was found, from the records that were added.
use Rattle.std.proofs.Common.{◌≡◌, ◌⊎◌, inl, inr, ℕ, Bool, true, false, cond, not, ◌&&◌, is_some, List, [], ◌∷◌, ◌++◌, Option, Some, None, refl, sym, ap, subst, ◌∙◌}
use Rattle.std.specs.Prelude.{◌==◌}
use Rattle.std.proofs.lemmas.Bool.{and_parts, and_from, or_cases, or_left, or_right, eqb-true}
use Rattle.std.proofs.lemmas.List.{append_assoc, append-nil}
use Rattle.std.specs.FinMap as map
use Rattle.std.specs.FinMap.{get-empty}
use Rattle.std.specs.Ordering.{nat_cmp}
use Rattle.sorted_map.proofs.NatKeys.{after_put, get_put, get_beside, same_or_apart, is_same}
use Rattle.mds_types.specs.Frag.{root_fragment}
use Rattle.mds_types.specs.declared.dentries.Dentry.{Dentry}
use Rattle.mds_types.specs.declared.ids.Ino.{Ino}
use Rattle.mds_types.specs.declared.inodes.Inode.{Inode}
use Rattle.mds_types.specs.Tree.{dentry_of, is_dir_kind}
use Rattle.std.specs.Cmp.{nat_cmp_total}
use Rattle.mds_types.proofs.OrderLaws.{dentry-total}
use Rattle.mds_types.proofs.EntryLaws.{get_put as get_put_entry, stands_after_put}
use Rattle.inode_table.specs.declared.dirs.Home.{Home}
use Rattle.inode_table.specs.Dirs.{Homes, MayCome, is_known}
use Rattle.inode_table.specs.TreeTable.{home_at, with_home}
use Rattle.inode_table.proofs.TableLaws.{dir_or_not, with_dir, with_file}
use Rattle.cold_store.specs.ColdTree.{Record}
use Rattle.cold_store.specs.Rows.{IsIn, IsMetDir, Walked, are_new, is_met, root_alone, walked_with, with_row, with_rows}
use Rattle.cold_store.proofs.Members.{AreApart, some_stays, value_of}

pub with_rows-append : (s : Walked) (a b : List Record) → with_rows s (a ++ b) ≡ with_rows (with_rows s a) b
with_rows-append s [] b = refl
with_rows-append s (r ∷ a) b = with_rows-append (with_row s r) a b

abbrev pub dentry_at : Record → Dentry
dentry_at r = dentry_of r.leaf.0.0 r.name

abbrev pub is_dir : Record → Bool
is_dir r = is_dir_kind r.inode.kind

-- ---- the queue

-- the directories among records
abbrev pub dirs_of : List Record → List Ino
dirs_of [] = []
dirs_of (r ∷ rs) = cond (is_dir r) (r.inode.ino ∷ dirs_of rs) (dirs_of rs)

pub queue_after : (s : Walked) (rs : List Record) → (with_rows s rs).queue ≡ s.queue ++ dirs_of rs
queue_after s [] = sym (append-nil s.queue)
queue_after s (r ∷ rs) = queue_after (with_row s r) rs ∙ go (is_dir r)
  where
    go : (b : Bool) → cond b (s.queue ++ r.inode.ino ∷ []) s.queue ++ dirs_of rs ≡ s.queue ++ cond b (r.inode.ino ∷ dirs_of rs) (dirs_of rs)
    go true = append_assoc s.queue (r.inode.ino ∷ []) (dirs_of rs)
    go false = refl

pub in_dirs_of : (r : Record) (rs : List Record) → IsIn r rs → is_dir r ≡ true → IsIn r.inode.ino (dirs_of rs)
in_dirs_of r [] h dir = h
in_dirs_of r (q ∷ rs) (inl same) dir =
    subst (λ b. IsIn r.inode.ino (cond b (q.inode.ino ∷ dirs_of rs) (dirs_of rs))) (sym (ap is_dir same ∙ dir)) (inl (ap (λ (x : Record). x.inode.ino) same))
in_dirs_of r (q ∷ rs) (inr rest) dir = go (is_dir q) (in_dirs_of r rs rest dir)
  where
    go : (b : Bool) → IsIn r.inode.ino (dirs_of rs) → IsIn r.inode.ino (cond b (q.inode.ino ∷ dirs_of rs) (dirs_of rs))
    go true h = inr h
    go false h = h

-- the record of a directory among records
pub record IsDirOf (rs : List Record) (d : Ino) : Type 0 where
  pub row : Record
  pub among : IsIn row rs
  pub dir : is_dir row ≡ true
  pub is : row.inode.ino ≡ d

pub dir_among : (d : Ino) (rs : List Record) → IsIn d (dirs_of rs) → IsDirOf rs d
dir_among d [] h = absurd h
dir_among d (q ∷ rs) h = go (is_dir q) refl h (dir_among d rs)
  where
    behind : IsDirOf rs d → IsDirOf (q ∷ rs) d
    behind w = record { row = w.row; among = inr w.among; dir = w.dir; is = w.is }

    go : (b : Bool) → is_dir q ≡ b → IsIn d (cond b (q.inode.ino ∷ dirs_of rs) (dirs_of rs)) → (IsIn d (dirs_of rs) → IsDirOf rs d) → IsDirOf (q ∷ rs) d
    go true is (inl same) more = record { row = q; among = inl refl; dir = is; is = same }
    go true is (inr rest) more = behind (more rest)
    go false is h more = behind (more h)

-- ---- numbers

pub met_head : (s : Walked) (r : Record) → is_met (with_row s r) r.inode.ino.0 ≡ true
met_head s r = ap is_some (get_put s.met r.inode.ino.0 tt)

pub met_stays : (s : Walked) (r : Record) (n : ℕ) → is_met s n ≡ true → is_met (with_row s r) n ≡ true
met_stays s r n met = some_stays nat_cmp_total s.met r.inode.ino.0 tt n met

met_from : (s : Walked) (r : Record) (n : ℕ) → is_met (with_row s r) n ≡ true → (is_met s n ≡ true) ⊎ (r.inode.ino.0 ≡ n)
met_from s r n met = go (same_or_apart n r.inode.ino.0)
  where
    go : (n ≡ r.inode.ino.0) ⊎ (n ≡ r.inode.ino.0 → ⊥) → (is_met s n ≡ true) ⊎ (r.inode.ino.0 ≡ n)
    go (inl same) = inr (sym same)
    go (inr apart) = inl (sym (ap is_some (get_beside s.met r.inode.ino.0 tt n apart)) ∙ met)

-- the record of a number among records
pub record IsRowOf (rs : List Record) (n : ℕ) : Type 0 where
  pub row : Record
  pub among : IsIn row rs
  pub is : row.inode.ino.0 ≡ n

-- a number that is met after records was met before, or is one of theirs
pub met_among : (s : Walked) (rs : List Record) (n : ℕ) → is_met (with_rows s rs) n ≡ true → (is_met s n ≡ true) ⊎ IsRowOf rs n
met_among s [] n met = inl met
met_among s (q ∷ rs) n met = go (met_among (with_row s q) rs n met)
  where
    last : (is_met s n ≡ true) ⊎ (q.inode.ino.0 ≡ n) → (is_met s n ≡ true) ⊎ IsRowOf (q ∷ rs) n
    last (inl before) = inl before
    last (inr here) = inr (record { row = q; among = inl refl; is = here })

    go : (is_met (with_row s q) n ≡ true) ⊎ IsRowOf rs n → (is_met s n ≡ true) ⊎ IsRowOf (q ∷ rs) n
    go (inl before) = last (met_from s q n before)
    go (inr w) = inr (record { row = w.row; among = inr w.among; is = w.is })

-- at the start the root's number is met alone
pub met_at_start : (n : ℕ) → is_met root_alone n ≡ true → n ≡ 1
met_at_start n met = go (same_or_apart n 1)
  where
    nothing : map.FinMap nat_cmp (Unit {0})
    nothing = map.empty

    go : (n ≡ 1) ⊎ (n ≡ 1 → ⊥) → n ≡ 1
    go (inl same) = same
    go (inr apart) = let clash : false ≡ true = sym (ap is_some (get_beside nothing 1 tt n apart ∙ get-empty nat_cmp n)) ∙ met in absurd cc

clash : (b c : Bool) → b ≡ true → (not b && c) ≡ true → ⊥
clash true c is new = absurd cc
clash false c is new = absurd cc

rest_new : (s : Walked) (q : Record) (rs : List Record) → are_new s (q ∷ rs) ≡ true → are_new (with_row s q) rs ≡ true
rest_new s q rs new = (and_parts (not (is_met s q.inode.ino.0)) (are_new (with_row s q) rs) new).1

-- no number of new records was met before
pub new_apart : (s : Walked) (rs : List Record) (r : Record) → are_new s rs ≡ true → IsIn r rs → is_met s r.inode.ino.0 ≡ true → ⊥
new_apart s [] r new h met = h
new_apart s (q ∷ rs) r new (inl same) met = clash (is_met s q.inode.ino.0) (are_new (with_row s q) rs) (ap (λ (x : Record). is_met s x.inode.ino.0) same ∙ met) new
new_apart s (q ∷ rs) r new (inr rest) met = new_apart (with_row s q) rs r (rest_new s q rs new) rest (met_stays s q r.inode.ino.0 met)

-- two new records with one number are one
pub one_row : (s : Walked) (rs : List Record) (r q : Record) → are_new s rs ≡ true → IsIn r rs → IsIn q rs → r.inode.ino.0 ≡ q.inode.ino.0 → r ≡ q
one_row s [] r q new h k same = absurd h
one_row s (x ∷ rs) r q new (inl a) (inl b) same = sym a ∙ b
one_row s (x ∷ rs) r q new (inl a) (inr b) same = absurd (new_apart (with_row s x) rs q (rest_new s x rs new) b (subst (λ n. is_met (with_row s x) n ≡ true) (ap (λ (y : Record). y.inode.ino.0) a ∙ same) (met_head s x)))
one_row s (x ∷ rs) r q new (inr a) (inl b) same = absurd (new_apart (with_row s x) rs r (rest_new s x rs new) a (subst (λ n. is_met (with_row s x) n ≡ true) (ap (λ (y : Record). y.inode.ino.0) b ∙ sym same) (met_head s x)))
one_row s (x ∷ rs) r q new (inr a) (inr b) same = one_row (with_row s x) rs r q (rest_new s x rs new) a b same

-- records that aren't all new have a first one that isn't
pub record IsOld (s : Walked) (rs : List Record) : Type 0 where
  pub before : List Record
  pub old : Record
  pub behind : List Record
  pub split : rs ≡ before ++ old ∷ behind
  pub met : is_met (with_rows s before) old.inode.ino.0 ≡ true

pub first_old : (s : Walked) (rs : List Record) → are_new s rs ≡ false → IsOld s rs
first_old s [] none = absurd cc
first_old s (r ∷ rs) some = go (is_met s r.inode.ino.0) refl some (first_old (with_row s r) rs)
  where
    go : (b : Bool) → is_met s r.inode.ino.0 ≡ b → (not b && are_new (with_row s r) rs) ≡ false → (are_new (with_row s r) rs ≡ false → IsOld (with_row s r) rs) → IsOld s (r ∷ rs)
    go true met some more = record { before = []; old = r; behind = rs; split = refl; met = met }
    go false met some more = let w = more some in record { before = r ∷ w.before; old = w.old; behind = w.behind; split = ap (λ l. r ∷ l) w.split; met = w.met }

pub are_new-append : (s : Walked) (a b : List Record) → are_new s a ≡ true → are_new (with_rows s a) b ≡ true → are_new s (a ++ b) ≡ true
are_new-append s [] b p q = q
are_new-append s (r ∷ a) b p q =
    let parts = and_parts (not (is_met s r.inode.ino.0)) (are_new (with_row s r) a) p in
    and_from (not (is_met s r.inode.ino.0)) (are_new (with_row s r) (a ++ b)) parts.0 (are_new-append (with_row s r) a b parts.1 q)

-- directories of new records are apart
pub dirs_apart : (s : Walked) (rs : List Record) → are_new s rs ≡ true → AreApart (dirs_of rs)
dirs_apart s [] new = tt
dirs_apart s (r ∷ rs) new = go (is_dir r) (dirs_apart (with_row s r) rs (rest_new s r rs new))
  where
    never : IsIn r.inode.ino (dirs_of rs) → ⊥
    never h =
        let w = dir_among r.inode.ino rs h in
        new_apart (with_row s r) rs w.row (rest_new s r rs new) w.among (subst (λ (d : Ino). is_met (with_row s r) d.0 ≡ true) (sym w.is) (met_head s r))

    go : (b : Bool) → AreApart (dirs_of rs) → AreApart (cond b (r.inode.ino ∷ dirs_of rs) (dirs_of rs))
    go true apart = (never, apart)
    go false apart = apart

-- ---- the entries

rows_stay : (s : Walked) (rs : List Record) (q : Dentry) → is_some (map.get s.tree q) ≡ true → is_some (map.get (with_rows s rs).tree q) ≡ true
rows_stay s [] q some = some
rows_stay s (r ∷ rs) q some = rows_stay (with_row s r) rs q (some_stays dentry-total s.tree (dentry_at r) r.inode q some)

-- where a record is something stands
pub rows_stand : (s : Walked) (rs : List Record) (r : Record) → IsIn r rs → is_some (map.get (with_rows s rs).tree (dentry_at r)) ≡ true
rows_stand s [] r h = absurd h
rows_stand s (x ∷ rs) r (inl same) =
    rows_stay (with_row s x) rs (dentry_at r) (subst (λ (y : Record). is_some (map.get (with_row s x).tree (dentry_at y)) ≡ true) same (ap is_some (get_put_entry s.tree (dentry_at x) x.inode)))
rows_stand s (x ∷ rs) r (inr rest) = rows_stand (with_row s x) rs r rest

-- an entry is that of a record
pub record IsEntryOf (rs : List Record) (q : Dentry) (i : Inode) : Type 0 where
  pub row : Record
  pub among : IsIn row rs
  pub at : dentry_at row ≡ q
  pub is : row.inode ≡ i

pub entry_among : (s : Walked) (rs : List Record) (q : Dentry) (i : Inode) → map.get (with_rows s rs).tree q ≡ Some i → (map.get s.tree q ≡ Some i) ⊎ IsEntryOf rs q i
entry_among s [] q i stands = inl stands
entry_among s (r ∷ rs) q i stands = go (entry_among (with_row s r) rs q i stands)
  where
    last : ((q ≡ dentry_at r) × (r.inode ≡ i)) ⊎ ((q ≡ dentry_at r → ⊥) × (map.get s.tree q ≡ Some i)) → (map.get s.tree q ≡ Some i) ⊎ IsEntryOf (r ∷ rs) q i
    last (inl here) = inr (record { row = r; among = inl refl; at = sym here.0; is = here.1 })
    last (inr before) = inl before.1

    go : (map.get (with_row s r).tree q ≡ Some i) ⊎ IsEntryOf rs q i → (map.get s.tree q ≡ Some i) ⊎ IsEntryOf (r ∷ rs) q i
    go (inl before) = last (stands_after_put s.tree (dentry_at r) r.inode q i before)
    go (inr w) = inr (record { row = w.row; among = inr w.among; at = w.at; is = w.is })

-- ---- the homes

-- the table after a record: with the home of a directory, or as it was
homes_by : (P : Homes → Type 0) (s : Walked) (r : Record) → (is_dir r ≡ true → P (map.insert s.homes r.inode.ino.0 (home_at (dentry_at r)))) → (is_dir r ≡ false → P s.homes) → P (with_row s r).homes
homes_by P s r of_dir of_file = go (dir_or_not r.inode)
  where
    go : (is_dir r ≡ true) ⊎ (is_dir r ≡ false) → P (with_home s.homes (dentry_at r) r.inode)
    go (inl dir) = subst P (sym (with_dir s.homes (dentry_at r) r.inode dir)) (of_dir dir)
    go (inr file) = subst P (sym (with_file s.homes (dentry_at r) r.inode file)) (of_file file)

home_stays : (s : Walked) (r : Record) (k : ℕ) → is_some (map.get s.homes k) ≡ true → is_some (map.get (with_row s r).homes k) ≡ true
home_stays s r k some = homes_by (λ h. is_some (map.get h k) ≡ true) s r (λ dir. some_stays nat_cmp_total s.homes r.inode.ino.0 (home_at (dentry_at r)) k some) (λ file. some)

pub homes_stay : (s : Walked) (rs : List Record) (k : ℕ) → is_some (map.get s.homes k) ≡ true → is_some (map.get (with_rows s rs).homes k) ≡ true
homes_stay s [] k some = some
homes_stay s (r ∷ rs) k some = homes_stay (with_row s r) rs k (home_stays s r k some)

-- each directory among records has a home
pub homes_stand : (s : Walked) (rs : List Record) (r : Record) → IsIn r rs → is_dir r ≡ true → is_some (map.get (with_rows s rs).homes r.inode.ino.0) ≡ true
homes_stand s [] r h dir = absurd h
homes_stand s (x ∷ rs) r (inl same) dir =
    homes_stay (with_row s x) rs r.inode.ino.0 (subst (λ (y : Record). is_some (map.get (with_row s x).homes y.inode.ino.0) ≡ true) same here)
  where
    here : is_some (map.get (with_row s x).homes x.inode.ino.0) ≡ true
    here = homes_by (λ h. is_some (map.get h x.inode.ino.0) ≡ true) s x
        (λ d. ap is_some (get_put s.homes x.inode.ino.0 (home_at (dentry_at x))))
        (λ file. let both : false ≡ true = sym file ∙ ap is_dir same ∙ dir in absurd cc)
homes_stand s (x ∷ rs) r (inr rest) dir = homes_stand (with_row s x) rs r rest dir

-- a home is that of a record
pub record IsHomeOf (rs : List Record) (k : ℕ) (home : Home) : Type 0 where
  pub row : Record
  pub among : IsIn row rs
  pub dir : is_dir row ≡ true
  pub number : row.inode.ino.0 ≡ k
  pub is : home_at (dentry_at row) ≡ home

home_from : (s : Walked) (r : Record) (k : ℕ) (home : Home) → map.get (with_row s r).homes k ≡ Some home → (map.get s.homes k ≡ Some home) ⊎ IsHomeOf (r ∷ []) k home
home_from s r k home = homes_by (λ h. map.get h k ≡ Some home → (map.get s.homes k ≡ Some home) ⊎ IsHomeOf (r ∷ []) k home) s r of_dir (λ file is. inl is)
  where
    of_dir : is_dir r ≡ true → map.get (map.insert s.homes r.inode.ino.0 (home_at (dentry_at r))) k ≡ Some home → (map.get s.homes k ≡ Some home) ⊎ IsHomeOf (r ∷ []) k home
    of_dir dir is = go (after_put s.homes r.inode.ino.0 (home_at (dentry_at r)) k home is)
      where
        go : ((k ≡ r.inode.ino.0) × (home_at (dentry_at r) ≡ home)) ⊎ ((k ≡ r.inode.ino.0 → ⊥) × (map.get s.homes k ≡ Some home)) → (map.get s.homes k ≡ Some home) ⊎ IsHomeOf (r ∷ []) k home
        go (inl here) = inr (record { row = r; among = inl refl; dir = dir; number = sym here.0; is = here.1 })
        go (inr before) = inl before.1

pub home_among : (s : Walked) (rs : List Record) (k : ℕ) (home : Home) → map.get (with_rows s rs).homes k ≡ Some home → (map.get s.homes k ≡ Some home) ⊎ IsHomeOf rs k home
home_among s [] k home is = inl is
home_among s (r ∷ rs) k home is = go (home_among (with_row s r) rs k home is)
  where
    first : IsHomeOf (r ∷ []) k home → IsHomeOf (r ∷ rs) k home
    first w = record { row = w.row; among = at w.among; dir = w.dir; number = w.number; is = w.is }
      where
        at : IsIn w.row (r ∷ []) → IsIn w.row (r ∷ rs)
        at (inl same) = inl same
        at (inr none) = absurd none

    last : (map.get s.homes k ≡ Some home) ⊎ IsHomeOf (r ∷ []) k home → (map.get s.homes k ≡ Some home) ⊎ IsHomeOf (r ∷ rs) k home
    last (inl before) = inl before
    last (inr w) = inr (first w)

    go : (map.get (with_row s r).homes k ≡ Some home) ⊎ IsHomeOf rs k home → (map.get s.homes k ≡ Some home) ⊎ IsHomeOf (r ∷ rs) k home
    go (inl before) = last (home_from s r k home before)
    go (inr w) = inr (record { row = w.row; among = inr w.among; dir = w.dir; number = w.number; is = w.is })

-- ---- what is ready stays so

pub known_stays : (s : Walked) (r : Record) (k : ℕ) → is_known s.homes k ≡ true → is_known (with_row s r).homes k ≡ true
known_stays s r k known = go (or_cases (k == 1) (is_some (map.get s.homes k)) known)
  where
    go : ((k == 1) ≡ true) ⊎ (is_some (map.get s.homes k) ≡ true) → is_known (with_row s r).homes k ≡ true
    go (inl root) = or_left (k == 1) _ root
    go (inr some) = or_right (k == 1) _ (home_stays s r k some)

known_from : (s : Walked) (r : Record) (k : ℕ) → is_known (with_row s r).homes k ≡ true → (is_known s.homes k ≡ true) ⊎ (r.inode.ino.0 ≡ k)
known_from s r k known = go (or_cases (k == 1) (is_some (map.get (with_row s r).homes k)) known)
  where
    one : (q : Record) → IsIn q (r ∷ []) → q.inode.ino.0 ≡ k → r.inode.ino.0 ≡ k
    one q (inl same) number = ap (λ (x : Record). x.inode.ino.0) same ∙ number
    one q (inr none) number = absurd none

    pick : (home : Home) → (map.get s.homes k ≡ Some home) ⊎ IsHomeOf (r ∷ []) k home → (is_known s.homes k ≡ true) ⊎ (r.inode.ino.0 ≡ k)
    pick home (inl before) = inl (or_right (k == 1) _ (ap is_some before))
    pick home (inr w) = inr (one w.row w.among w.number)

    go : ((k == 1) ≡ true) ⊎ (is_some (map.get (with_row s r).homes k) ≡ true) → (is_known s.homes k ≡ true) ⊎ (r.inode.ino.0 ≡ k)
    go (inl root) = inl (or_left (k == 1) _ root)
    go (inr some) = let h = value_of (map.get (with_row s r).homes k) some in pick h.0 (home_from s r k h.0 h.1)

-- what was found was met, once there is a record more
met_more : (s : Walked) (r : Record) → ((k : ℕ) → is_known s.homes k ≡ true → is_met s k ≡ true) → (k : ℕ) → is_known (with_row s r).homes k ≡ true → is_met (with_row s r) k ≡ true
met_more s r met k known = go (known_from s r k known)
  where
    go : (is_known s.homes k ≡ true) ⊎ (r.inode.ino.0 ≡ k) → is_met (with_row s r) k ≡ true
    go (inl before) = met_stays s r k (met k before)
    go (inr here) = subst (λ j. is_met (with_row s r) j ≡ true) here (met_head s r)

ready_more : (s : Walked) (r : Record) (d : ℕ) → IsMetDir s d → IsMetDir (with_row s r) d
ready_more s r d ready = record { each_met = met_more s r ready.each_met; known = known_stays s r d ready.known }

-- what is ready is so still once an entry is there
pub ready_with : (old new : Walked) (d : Ino) (name : List ℕ) (inode : Inode) → new ≡ walked_with old (record { dir = d; name = name }) inode → IsMetDir old d.0 → IsMetDir new d.0
ready_with old new d name inode is ready = subst (λ s. IsMetDir s d.0) (sym is) (ready_more old (record { leaf = (d, root_fragment); name = name; inode = inode }) d.0 ready)

pub each_met_after : (s : Walked) (rs : List Record) → ((k : ℕ) → is_known s.homes k ≡ true → is_met s k ≡ true) → (k : ℕ) → is_known (with_rows s rs).homes k ≡ true → is_met (with_rows s rs) k ≡ true
each_met_after s [] met k known = met k known
each_met_after s (r ∷ rs) met k known = each_met_after (with_row s r) rs (met_more s r met) k known

-- at the start the root alone is there
pub each_met_at_start : (k : ℕ) → is_known root_alone.homes k ≡ true → is_met root_alone k ≡ true
each_met_at_start k known = go (or_cases (k == 1) (is_some (map.get root_alone.homes k)) known)
  where
    nothing : map.FinMap nat_cmp (Unit {0})
    nothing = map.empty

    go : ((k == 1) ≡ true) ⊎ (is_some (map.get root_alone.homes k) ≡ true) → is_met root_alone k ≡ true
    go (inl root) = ap (λ j. is_met root_alone j) (eqb-true k 1 root) ∙ ap is_some (get_put nothing 1 tt)
    go (inr some) = let both : false ≡ true = sym (ap is_some (get-empty nat_cmp k)) ∙ some in absurd cc

-- an inode whose number wasn't met may come, if it is a directory's
pub may_come : (s : Walked) (d : Ino) (name : List ℕ) (inode : Inode) → IsMetDir s d.0 → is_met s inode.ino.0 ≡ false → MayCome s.homes inode.ino.0 (home_at (record { dir = d; name = name }))
may_come s d name inode ready new = record {
  other = λ root. not_known (or_left (inode.ino.0 == 1) _ (is_same inode.ino.0 1 root));
  fresh = none (map.get s.homes inode.ino.0) refl;
  parent_known = ready.known;
}
  where
    not_known : is_known s.homes inode.ino.0 ≡ true → ⊥
    not_known known = let both : true ≡ false = sym (ready.each_met inode.ino.0 known) ∙ new in absurd cc

    none : (o : Option Home) → map.get s.homes inode.ino.0 ≡ o → map.get s.homes inode.ino.0 ≡ None
    none None is = is
    none (Some home) is = absurd (not_known (or_right (inode.ino.0 == 1) _ (ap is_some is)))
