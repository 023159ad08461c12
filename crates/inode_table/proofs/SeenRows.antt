-- A table as it is seen once the row of a directory was written to, or what is kept of the root beside the rows.
use Rattle.inode_table.proofs.Common.{Directory, Err, Fragment, IsSplit, IsTable, IsTree, LeavesAndPin, List, None, Ok, OnErr, OnOk, Option, Rank, Refusal, Result, DirRows, Some, DirTable, ap, contents, contents-entries, count_of, counts_with_root, covers_of, get_put, homes_of, is_known, leaves_of_row, leaves_of, nat_cmp, or_whole, or_zero, pin_in, pinned_at, pins_of, refl, shown_with_room, subst, subst₂, sym, true, ℕ, ◌∙◌, ◌≡◌}
use Rattle.std.specs.FinMap as map
use Rattle.inode_table.specs.Dirs.{MayCome, MayGo, MayMove}
use Rattle.inode_table.specs.declared.dirs.Home.{Home}
use Rattle.inode_table.proofs.CountRows.{count_at_root, count_at_row, count_in, counts_kept, counts_left, counts_put, pins_kept, pins_left, pins_put, root_set}
use Rattle.inode_table.proofs.RowLaws.{get_leaves, home_in, homes_kept, homes_left, homes_put, leaves_at_root, leaves_kept, leaves_left, leaves_put, no_row, root_put}
use Rattle.inode_table.proofs.Tables.{adopted_table, dropped_table, moved_table, set_table}

abbrev pub seen : ℕ → Option (List Fragment) → ℕ → DirRows → DirTable
seen in_root root room rows = record { homes = homes_of rows; trees = covers_of root rows; counts = counts_with_root in_root rows; pins = pins_of rows; room = room }

-- a table becomes one that is sound
pub record Becomes (now new : DirTable) : Type 0 where
  pub is : now ≡ new
  pub table : IsTable now.homes now.trees

became : (now new : DirTable) → now ≡ new → IsTable new.homes new.trees → Becomes now new
became now new is sound = record { is = is; table = subst (λ (t : DirTable). IsTable t.homes t.trees) (sym is) sound }

module _ (in_root : ℕ) (root : Option (List Fragment)) (room : ℕ) (rows : DirRows) (old : DirTable) (view : seen in_root root room rows ≡ old) (sound : IsTable (homes_of rows) (covers_of root rows)) (d : ℕ) where
  old_sound : IsTable old.homes old.trees
  old_sound = subst (λ (t : DirTable). IsTable t.homes t.trees) view sound

  -- the root
  module _ (top : d ≡ 1) where
    pub root_leaves : leaves_of old.trees d ≡ or_whole root
    root_leaves = ap (λ (t : DirTable). leaves_of t.trees d) (sym view) ∙ ap or_whole (leaves_at_root root rows d top sound.rooted.rootless)

    pub root_count : count_of old.counts d ≡ in_root
    root_count = ap (λ (t : DirTable). count_of t.counts d) (sym view) ∙ count_at_root in_root rows d top

    pub root_other_leaves : (now : Option (List Fragment)) (leaves : List Fragment) → now ≡ Some leaves → is_known old.homes d ≡ true → IsTree leaves
        → Becomes (seen in_root now room rows) (record old { trees = map.insert old.trees d leaves })
    root_other_leaves now leaves set known tree =
        became _ _
        ((λ i. record (seen in_root root room rows) { trees = (ap (λ o. covers_of o rows) set ∙ root_put root rows leaves ∙ ap (λ k. map.insert (covers_of root rows) k leaves) (sym top)) i })
        ∙ ap (λ (t : DirTable). record t { trees = map.insert t.trees d leaves }) view)
        (set_table old.homes old.trees d leaves old_sound known tree)

    pub root_other_count : (n : ℕ) (g : ℕ → ℕ) → n ≡ g in_root → seen n root room rows ≡ record old { counts = map.insert old.counts d (g (count_of old.counts d)) }
    root_other_count n g is =
        (λ i. record (seen in_root root room rows) { counts = root_set in_root rows d n g top is i }) ∙ ap (λ (t : DirTable). record t { counts = map.insert t.counts d (g (count_of t.counts d)) }) view

  -- another directory, with a row
  module _ (before : Directory) (stands : Some before ≡ map.get rows d) where
    pub row_leaves : (d ≡ 1 → ⊥) → leaves_of old.trees d ≡ or_whole before.settings.leaves
    row_leaves apart = ap (λ (t : DirTable). leaves_of t.trees d) (sym view) ∙ ap or_whole (get_leaves root rows d apart ∙ ap leaves_of_row (sym stands))

    pub row_count : (d ≡ 1 → ⊥) → count_of old.counts d ≡ before.entries
    row_count apart = ap (λ (t : DirTable). count_of t.counts d) (sym view) ∙ count_at_row in_root rows d apart ∙ ap (λ r. or_zero (count_in r)) (sym stands)

    abbrev written : Directory → DirTable
    written row = seen in_root root room (contents nat_cmp (shown_with_room (map.insert rows d row) room))

    wrote : (row : Directory) (f : DirTable → DirTable) → homes_of (map.insert rows d row) ≡ (f (seen in_root root room rows)).homes → covers_of root (map.insert rows d row) ≡ (f (seen in_root root room rows)).trees
        → counts_with_root in_root (map.insert rows d row) ≡ (f (seen in_root root room rows)).counts → pins_of (map.insert rows d row) ≡ (f (seen in_root root room rows)).pins → room ≡ (f (seen in_root root room rows)).room
        → IsTable (f old).homes (f old).trees → Becomes (written row) (f old)
    wrote row f homes trees counts pins same table =
        became _ _ (ap (seen in_root root room) (contents-entries (map.insert rows d row)) ∙ (λ i. record { homes = homes i; trees = trees i; counts = counts i; pins = pins i; room = same i }) ∙ ap f view) table

    pub other_home : (home : Home) → MayMove old.homes d home → Becomes (written (record before { home = home })) (record old { homes = map.insert old.homes d home })
    other_home home may =
        let row : Directory = record before { home = home } in
        wrote row (λ t. record t { homes = map.insert t.homes d home }) (homes_put rows d row) (leaves_kept rows d root row (ap leaves_of_row stands)) (counts_kept in_root rows d row (ap count_in stands))
        (pins_kept rows d row (ap pin_in stands)) refl (moved_table old.homes old.trees d home old_sound may)

    pub other_leaves : (now : LeavesAndPin) (leaves : List Fragment) → (d ≡ 1 → ⊥) → now ≡ record before.settings { leaves = Some leaves } → is_known old.homes d ≡ true → IsTree leaves
        → Becomes (written (record before { settings = now })) (record old { trees = map.insert old.trees d leaves })
    other_leaves now leaves apart set known tree =
        let row : Directory = record before { settings = now } in
        wrote row (λ t. record t { trees = map.insert t.trees d leaves }) (homes_kept rows d row (ap home_in stands)) (leaves_put rows d root row leaves apart (ap (λ (s : LeavesAndPin). s.leaves) set))
        (counts_kept in_root rows d row (ap count_in stands)) (pins_kept rows d row (ap (λ (s : LeavesAndPin). s.pin) set ∙ ap pin_in stands)) refl (set_table old.homes old.trees d leaves old_sound known tree)

    pub same_settings : (now : LeavesAndPin) → now ≡ before.settings → Becomes (written (record before { settings = now })) old
    same_settings now same =
        let row : Directory = record before { settings = now } in
        wrote row (λ t. t) (homes_kept rows d row (ap home_in stands)) (leaves_kept rows d root row (ap (λ (s : LeavesAndPin). s.leaves) same ∙ ap leaves_of_row stands))
        (counts_kept in_root rows d row (ap count_in stands)) (pins_kept rows d row (ap (λ (s : LeavesAndPin). s.pin) same ∙ ap pin_in stands)) refl old_sound

    pub other_count : (n : ℕ) (g : ℕ → ℕ) → (d ≡ 1 → ⊥) → n ≡ g before.entries → Becomes (written (record before { entries = n })) (record old { counts = map.insert old.counts d (g (count_of old.counts d)) })
    other_count n g apart is =
        let row : Directory = record before { entries = n } in
        let told : before.entries ≡ count_of (counts_with_root in_root rows) d = sym (count_at_row in_root rows d apart ∙ ap (λ r. or_zero (count_in r)) (sym stands)) in
        wrote row (λ t. record t { counts = map.insert t.counts d (g (count_of t.counts d)) }) (homes_kept rows d row (ap home_in stands)) (leaves_kept rows d root row (ap leaves_of_row stands))
        (counts_put in_root rows d row _ apart (is ∙ ap g told)) (pins_kept rows d row (ap pin_in stands)) refl old_sound

    pub other_pin : (now : LeavesAndPin) (pin : Option Rank) → now ≡ record before.settings { pin = pin } → Becomes (written (record before { settings = now })) (record old { pins = pinned_at old.pins d pin })
    other_pin now pin set =
        let row : Directory = record before { settings = now } in
        wrote row (λ t. record t { pins = pinned_at t.pins d pin }) (homes_kept rows d row (ap home_in stands)) (leaves_kept rows d root row (ap (λ (s : LeavesAndPin). s.leaves) set ∙ ap leaves_of_row stands))
        (counts_kept in_root rows d row (ap count_in stands)) (pins_put rows d row pin (ap (λ (s : LeavesAndPin). s.pin) set)) refl old_sound

  -- a row comes, and one goes, seen with the room that was
  pub comes : (now : DirRows) (home : Home) (settings : LeavesAndPin) → settings ≡ record { leaves = None; pin = None } → now ≡ map.insert rows d (record { home = home; entries = 0; settings = settings }) → MayCome old.homes d home
      → Becomes (seen in_root root room now) (record old { homes = map.insert old.homes d home; counts = map.insert old.counts d 0 })
  comes now home settings bare is may =
      let row : Directory = record { home = home; entries = 0; settings = settings } in
      let none : None ≡ map.get rows d = sym (no_row rows d (ap (λ (t : DirTable). map.get t.homes d) view ∙ may.fresh)) in
      became _ _
      (ap (seen in_root root room) is
      ∙ (λ i. record { homes = homes_put rows d row i; trees = leaves_kept rows d root row (ap (λ (s : LeavesAndPin). s.leaves) bare ∙ ap leaves_of_row none) i; counts = counts_put in_root rows d row 0 may.other refl i; pins = pins_kept rows d row (ap (λ (s : LeavesAndPin). s.pin) bare ∙ ap pin_in none) i; room = room })
      ∙ ap (λ (t : DirTable). record t { homes = map.insert t.homes d home; counts = map.insert t.counts d 0 }) view)
      (adopted_table old.homes old.trees d home old_sound may)

  pub goes : (now : DirRows) → now ≡ map.remove rows d → MayGo old.homes d
      → Becomes (seen in_root root room now) (record old { homes = map.remove old.homes d; trees = map.remove old.trees d; counts = map.remove old.counts d; pins = map.remove old.pins d })
  goes now is may =
      became _ _
      (ap (seen in_root root room) is
      ∙ (λ i. record { homes = homes_left rows d i; trees = leaves_left rows d root may.other i; counts = counts_left in_root rows d may.other i; pins = pins_left rows d i; room = room })
      ∙ ap (λ (t : DirTable). record t { homes = map.remove t.homes d; trees = map.remove t.trees d; counts = map.remove t.counts d; pins = map.remove t.pins d }) view)
      (dropped_table old.homes old.trees d old_sound may.childless)

  -- leaves were split, of the root or of another directory
  pub record Splits (now : DirTable) (frag : Fragment) (bits : ℕ) (result : Result (Unit {0}) Refusal) : Type 0 where
    pub split : OnOk result (IsSplit (leaves_of old.trees d) (leaves_of now.trees d) frag bits)
    pub others : OnOk result (now ≡ record old { trees = map.insert old.trees d (leaves_of now.trees d) })
    pub left : OnErr result (now ≡ old)
    pub valid : IsTable now.homes now.trees

  splits : (Set Same : Type 0) (was leaves : Option (List Fragment)) (now : DirTable) (frag : Fragment) (bits : ℕ) (result : Result (Unit {0}) Refusal) → leaves_of old.trees d ≡ or_whole was
      → (Set → IsTree (or_whole leaves) → Becomes now (record old { trees = map.insert old.trees d (or_whole leaves) })) → (Same → Becomes now old)
      → OnOk result (IsSplit (or_whole was) (or_whole leaves) frag bits) → OnOk result Set → OnOk result (IsTree (or_whole leaves)) → OnErr result Same → Splits now frag bits result
  splits Set Same was leaves now frag bits (Ok done) stood put keep split set whole left =
      let new = put set whole in
      let here : leaves_of now.trees d ≡ or_whole leaves = ap (λ (t : DirTable). leaves_of t.trees d) new.is ∙ ap or_whole (get_put old.trees d (or_whole leaves)) in
      record {
        split = subst₂ (λ a b. IsSplit a b frag bits) (sym stood) (sym here) split;
        others = new.is ∙ ap (λ l. record old { trees = map.insert old.trees d l }) (sym here);
        left = tt;
        valid = new.table;
      }
  splits Set Same was leaves now frag bits (Err reason) stood put keep split set whole left = record { split = tt; others = tt; left = (keep left).is; valid = (keep left).table }

  pub root_splits : (leaves : Option (List Fragment)) (frag : Fragment) (bits : ℕ) (result : Result (Unit {0}) Refusal) → d ≡ 1 → is_known old.homes d ≡ true
      → OnOk result (IsSplit (or_whole root) (or_whole leaves) frag bits) → OnOk result (leaves ≡ Some (or_whole leaves)) → OnOk result (IsTree (or_whole leaves)) → OnErr result (leaves ≡ root)
      → Splits (seen in_root leaves room rows) frag bits result
  root_splits leaves frag bits result top known =
      splits (leaves ≡ Some (or_whole leaves)) (leaves ≡ root) root leaves _ frag bits result (root_leaves top) (λ set tree. root_other_leaves top leaves _ set known tree) (λ same. became _ _ (ap (λ o. seen in_root o room rows) same ∙ view) old_sound)

  pub row_splits : (before : Directory) (stands : Some before ≡ map.get rows d) (now : LeavesAndPin) (frag : Fragment) (bits : ℕ) (result : Result (Unit {0}) Refusal) → (d ≡ 1 → ⊥) → is_known old.homes d ≡ true
      → OnOk result (IsSplit (or_whole before.settings.leaves) (or_whole now.leaves) frag bits) → OnOk result (now ≡ record before.settings { leaves = Some (or_whole now.leaves) }) → OnOk result (IsTree (or_whole now.leaves))
      → OnErr result (now ≡ before.settings) → Splits (written before stands (record before { settings = now })) frag bits result
  row_splits before stands now frag bits result apart known =
      splits (now ≡ record before.settings { leaves = Some (or_whole now.leaves) }) (now ≡ before.settings) before.settings.leaves now.leaves _ frag bits result (row_leaves before stands apart)
      (λ set tree. other_leaves before stands now _ apart set known tree) (λ same. same_settings before stands now same)
