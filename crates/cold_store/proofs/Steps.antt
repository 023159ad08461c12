-- The steps of the walk.
use Rattle.cold_store.proofs.Common.{AreGoodDirs, AreGoodLeaves, Covers, Finding, Fragment, Ino, Inode, IsBadAmong, IsBadIn, IsFaulty, IsGoodDir, IsGoodLeaf, IsIn, IsReached, IsMetDir, IsRecord, IsWalkedTo, Leaf, List, ObjName, Objects, Record, Walked, Some, [], ap, are_new, arith, cover_in, covers_from, drop, drop_more, get_or, get_or_default, inl, inr, is_known, is_met, length, length-append, not, or_right, refl, records_at, records_from, rows_in, rows_of, rows_under, root_alone, subst, sym, take, take-append-drop, take-append-le, take_more, true, with_cover, walked_with, with_rows, ℕ, ◌&&◌, ◌++◌, ◌+◌, ◌<◌, ◌==◌, ◌∙◌, ◌∷◌, ◌≡◌, ◌≤◌, ◌⊎◌}
use Rattle.std.specs.FinMap as map
use Rattle.cold_store.proofs.Members.{AreApart, apart_split, in_either, in_left, in_right}
use Rattle.cold_store.proofs.RowLaws.{dir_among, dirs_apart, dirs_of, each_met_after, each_met_at_start, homes_stand, queue_after, with_rows-append}
use Rattle.cold_store.proofs.StoreRows.{allowed, in_dir, in_dirs, rows_from-snoc}
use Rattle.cold_store.proofs.GoodLaws.{all_new, covers_from-snoc, good-snoc}
use Rattle.cold_store.proofs.FaultLaws.{dir_faulty}

-- one name more
module _ (leaf : Leaf) (es next : List (List ℕ × Inode)) (name : List ℕ) (inode : Inode) (s t : Walked) (parted : es ≡ (name, inode) ∷ next)
    (added : t ≡ walked_with s (record { dir = leaf.0; name = name }) inode) where
  pub new_step : not (is_met s inode.ino.0) ≡ true → are_new t (rows_of leaf next) ≡ are_new s (rows_of leaf es)
  new_step new =
      ap (λ u. are_new u (rows_of leaf next)) added
      ∙ sym (ap (λ b. b && are_new (walked_with s (record { dir = leaf.0; name = name }) inode) (rows_of leaf next)) new)
      ∙ sym (ap (λ xs. are_new s (rows_of leaf xs)) parted)

  pub row_step : with_rows t (rows_of leaf next) ≡ with_rows s (rows_of leaf es)
  row_step = ap (λ u. with_rows u (rows_of leaf next)) added ∙ sym (ap (λ xs. with_rows s (rows_of leaf xs)) parted)

-- one leaf more
module _ (objects : Objects) (d : Ino) (i : ℕ) (fs : List Fragment) (f : Fragment) (less : i < length fs) (at : f ≡ get_or fs i f) (s t : Walked) (added : t ≡ with_rows s (records_at objects (d, f))) where
  behind : drop i fs ≡ f ∷ drop (i + 1) fs
  behind = drop_more fs i f less ∙ ap (λ g. g ∷ drop (i + 1) fs) (sym at)

  pub good_step : IsGoodLeaf objects s (d, f) → AreGoodLeaves objects t d (drop (i + 1) fs) → AreGoodLeaves objects s d (drop i fs)
  good_step good rest = subst (AreGoodLeaves objects s d) (sym behind) (good, subst (λ u. AreGoodLeaves objects u d (drop (i + 1) fs)) added rest)

  pub bad_step : (name : ObjName) → IsBadAmong objects t d (drop (i + 1) fs) name → IsBadAmong objects s d (drop i fs) name
  bad_step name bad = subst (λ gs. IsBadAmong objects s d gs name) (sym behind) (inr (subst (λ u. IsBadAmong objects u d (drop (i + 1) fs) name) added bad))

  pub whole_step : with_rows t (rows_under objects d (drop (i + 1) fs)) ≡ with_rows s (rows_under objects d (drop i fs))
  whole_step =
      ap (λ u. with_rows u (rows_under objects d (drop (i + 1) fs))) added
      ∙ sym (with_rows-append s (records_at objects (d, f)) (rows_under objects d (drop (i + 1) fs)))
      ∙ sym (ap (λ gs. with_rows s (rows_under objects d gs)) behind)

-- the directory at an index, read from a list that is the queue
pub next_dir : (read queue : List Ino) (next : ℕ) (none : Ino) → read ≡ queue → next < length queue → get_or read next none ≡ get_or queue next (get_or read next none)
next_dir read queue next none same less = ap (λ q. get_or q next none) same ∙ get_or_default queue next none (get_or read next none) less

module _ (objects : Objects) where
  pub walked_first : (found : Finding) → found ≡ record { shape = root_alone; covers = map.empty } → IsWalkedTo objects found 0
  walked_first found is = subst (λ x. IsWalkedTo objects x 0) (sym is) (record { within = omega arith; walked = refl; covered = refl; good = tt; reached = first })
    where
      first : (d : Ino) → IsIn d (record { 0 = 1 } ∷ []) → IsReached objects d.0
      first d (inl same) = subst (λ (k : Ino). IsReached objects k.0) same IsReached.root
      first d (inr none) = absurd none

  -- directories that were found are apart
  queue_apart : (ds : List Ino) → AreGoodDirs objects root_alone ds → AreApart (record { 0 = 1 } ∷ dirs_of (records_from objects ds))
  queue_apart ds good = (root, dirs_apart root_alone (records_from objects ds) (all_new objects root_alone ds good))
    where
      root : IsIn (record { 0 = 1 }) (dirs_of (records_from objects ds)) → ⊥
      root h =
          let r = dir_among (record { 0 = 1 }) (records_from objects ds) h in
          let a = (allowed objects r.row (in_dirs objects ds r.row r.among).1).number.least in
          let one : r.row.inode.ino.0 ≡ 1 = ap (λ (k : Ino). k.0) r.is in
          absurd (omega (arith, a, one))

  module _ (found : Finding) (next : ℕ) (w : IsWalkedTo objects found next) where
    abbrev done : List Ino
    done = take next found.shape.queue

    abbrev rows : List Record
    rows = records_from objects done

    queue_is : found.shape.queue ≡ record { 0 = 1 } ∷ dirs_of rows
    queue_is = ap (λ (t : Walked). t.queue) w.walked ∙ queue_after root_alone rows

    -- what was found is known
    queue_known : (d : Ino) → IsIn d found.shape.queue → is_known found.shape.homes d.0 ≡ true
    queue_known d h = subst (λ (t : Walked). is_known t.homes d.0 ≡ true) (sym w.walked) (go (subst (IsIn d) queue_is h))
      where
        go : (record { 0 = 1 } ≡ d) ⊎ IsIn d (dirs_of rows) → is_known (with_rows root_alone rows).homes d.0 ≡ true
        go (inl root) = subst (λ (k : Ino). is_known (with_rows root_alone rows).homes k.0 ≡ true) root refl
        go (inr more) =
            let r = dir_among d rows more in
            subst (λ (k : Ino). is_known (with_rows root_alone rows).homes k.0 ≡ true) r.is (or_right (r.row.inode.ino.0 == 1) _ (homes_stand root_alone rows r.row r.among r.dir))

    module _ (d : Ino) (less : next < length found.shape.queue) (at : d ≡ get_or found.shape.queue next d) where
      from_here : drop next found.shape.queue ≡ d ∷ drop (next + 1) found.shape.queue
      from_here = drop_more found.shape.queue next d less ∙ ap (λ k. k ∷ drop (next + 1) found.shape.queue) (sym at)

      split : done ++ d ∷ drop (next + 1) found.shape.queue ≡ found.shape.queue
      split = ap (λ q. done ++ q) (sym from_here) ∙ take-append-drop next found.shape.queue

      queued_here : IsIn d found.shape.queue
      queued_here = subst (IsIn d) split (in_right d done (d ∷ drop (next + 1) found.shape.queue) (inl refl))

      here : IsReached objects d.0
      here = w.reached d queued_here

      pub ready_here : IsMetDir found.shape d.0
      ready_here = record { each_met = subst (λ (t : Walked). (k : ℕ) → is_known t.homes k ≡ true → is_met t k ≡ true) (sym w.walked) (each_met_after root_alone rows each_met_at_start); known = queue_known d queued_here }

      -- it was not walked before
      not_before : IsIn d done → ⊥
      not_before h = apart_split done d (drop (next + 1) found.shape.queue) (subst AreApart (sym (split ∙ queue_is)) (queue_apart done w.good)) h

      pub faulty : (name : ObjName) → IsBadIn objects found.shape d name → IsFaulty objects name
      faulty name bad = dir_faulty objects d here rows name before (subst (λ (t : Walked). IsBadIn objects t d name) w.walked bad)
        where
          before : (q : Record) → IsIn q rows → IsReached objects q.leaf.0.0 × IsRecord objects q × (q.leaf.0 ≡ d → ⊥)
          before q h =
              let r = in_dirs objects done q h in
              (w.reached q.leaf.0 (subst (IsIn q.leaf.0) (take-append-drop next found.shape.queue) (in_left q.leaf.0 done (drop next found.shape.queue) r.0)), r.1, λ same. not_before (subst (λ k. IsIn k done) same r.0))

      module _ (then : Finding) (good : IsGoodDir objects found.shape d) (added : then.shape ≡ with_rows found.shape (rows_in objects d)) (covers : then.covers ≡ with_cover found.covers d (cover_in objects d)) where
        queue_then : then.shape.queue ≡ found.shape.queue ++ dirs_of (rows_in objects d)
        queue_then = ap (λ (t : Walked). t.queue) added ∙ queue_after found.shape (rows_in objects d)

        pub taken : take (next + 1) then.shape.queue ≡ done ++ d ∷ []
        taken =
            ap (take (next + 1)) queue_then ∙ take-append-le (next + 1) found.shape.queue (dirs_of (rows_in objects d)) (omega arith) ∙ take_more found.shape.queue next d less
            ∙ ap (λ k. done ++ k ∷ []) (sym at)

        pub walked_more : IsWalkedTo objects then (next + 1)
        walked_more =
            let long : length then.shape.queue ≡ length found.shape.queue + length (dirs_of (rows_in objects d)) = ap length queue_then ∙ length-append found.shape.queue (dirs_of (rows_in objects d)) in
            record {
              within = omega (arith, long, less);
              walked =
                  added
                  ∙ ap (λ (t : Walked). with_rows t (rows_in objects d)) w.walked
                  ∙ sym (with_rows-append root_alone rows (rows_in objects d))
                  ∙ ap (with_rows root_alone) (sym (rows_from-snoc objects done d))
                  ∙ ap (λ ds. with_rows root_alone (records_from objects ds)) (sym taken);
              covered =
                  covers
                  ∙ ap (λ (c : Covers). with_cover c d (cover_in objects d)) w.covered
                  ∙ sym (covers_from-snoc objects map.empty done d)
                  ∙ ap (λ ds. covers_from objects map.empty ds) (sym taken);
              good = subst (λ ds. AreGoodDirs objects root_alone ds) (sym taken) (good-snoc objects root_alone done d w.good (subst (λ (t : Walked). IsGoodDir objects t d) w.walked good));
              reached = λ k h. go k (in_either k found.shape.queue (dirs_of (rows_in objects d)) (subst (IsIn k) queue_then h));
            }
          where
            go : (k : Ino) → IsIn k found.shape.queue ⊎ IsIn k (dirs_of (rows_in objects d)) → IsReached objects k.0
            go k (inl before) = w.reached k before
            go k (inr new) =
                let r = dir_among k (rows_in objects d) new in
                let rec = in_dir objects d r.row r.among in
                subst (λ (n : Ino). IsReached objects n.0) r.is (IsReached.named r.row (subst (λ (n : Ino). IsReached objects n.0) (sym rec.0) here) rec.1 r.dir)

  -- at the end of the queue all of it is walked
  pub walked_last : (found : Finding) (next : ℕ) → IsWalkedTo objects found next → length found.shape.queue ≤ next → IsWalkedTo objects found (length found.shape.queue)
  walked_last found next w last = let same : next ≡ length found.shape.queue = omega (arith, w.within, last) in subst (IsWalkedTo objects found) same w
