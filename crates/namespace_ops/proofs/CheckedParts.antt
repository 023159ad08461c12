-- What the checks of each kind of operation find.
use Rattle.namespace_ops.proofs.Common.{Alteration, Answers, AreLocated, Birth, Bool, Changes, Checked, Checks, Concerns, Covers, Dentry, Dir, Dirfrag, Done, Entry, Err, Errno, File, HasPinOf, HasSize, HasSpace, IfOk, IfSome, Ino, Inode, IsChangeOf, IsChecked, IsDentryLeaf, IsLocated, IsLocatedAt, IsMove, IsSpot, Kind, LiesAt, Located, Locates, LocatesAt, MayAdd, MayRemove, MaySet, None, Ok, Op, Option, Outcome, Places, ReadsDirectory, Refusal, Rename, Result, Some, Spot, Tree, adds, alteration_errno, altered, altered_at, altered_kind, altered_number, altered_pin, altered_size, answers, ap, cond, dentry_at, dentry_cmp, destination_of, dir_removed, directory_at, directory_of, done_in, entries_in, entry_stands, eq_by_cmp, false, has_entries, hash_of, is_dir_kind, is_directory, leads_to, made, main_hash, may_go, moves, nat_le, new_inode, new_sized, refl, removal_errno, removes, renamed, replace_errno, room_errno, sets, shape, source_of, step, subst, sym, true, unless, unlinked, with_moved, ℕ, ◌&&◌, ◌<◌, ◌^◌, ◌∙◌, ◌≡◌}
use Rattle.std.specs.FinMap as map
use Rattle.mds_types.specs.declared.inodes.Kind.TheVariants.{Symlink as Link}

-- what the test of a kind told
pub no_dir : (kind : Kind) (told : Bool) → (kind ≡ Dir → told ≡ true) → told ≡ false → is_dir_kind kind ≡ false
no_dir File told meets failed = refl
no_dir (Link target) told meets failed = refl
no_dir Dir told meets failed = let clash : true ≡ false = sym (meets refl) ∙ failed in absurd cc

pub none_clash : (b : Bool) → b ≡ true → b ≡ false → ⊥
none_clash b held failed = let clash : true ≡ false = sym held ∙ failed in cc

-- the spot of a dentry that lies there
spot_is : (dentry : Dentry) (at : Dirfrag) → at.dir.0 ≡ dentry.dir.0 → (spot : Spot) → spot ≡ record { at = at; name = dentry.name } → dentry_at spot ≡ dentry
spot_is dentry at same spot is = ap dentry_at is ∙ (λ i. record { dir = record { 0 = same i }; name = dentry.name })

module _ (tree : Tree) (covers : Covers) (Holds : Dirfrag → Type 0) where
  -- where a dentry lies its spot is
  pub spot_of : (dentry : Dentry) (at : Dirfrag) → LiesAt tree covers Holds dentry at → (spot : Spot) → spot ≡ record { at = at; name = dentry.name } → (dentry_at spot ≡ dentry) × IsSpot covers spot × Holds spot.at
  spot_of dentry at lies spot is =
      let same = spot_is dentry at lies.dir spot is in
      (same, subst (λ (d : Dentry). IsDentryLeaf covers d spot.at.frag) (sym same) (subst (λ (s : Spot). IsDentryLeaf covers dentry s.at.frag) (sym is) lies.leaf), subst (λ (s : Spot). Holds s.at) (sym is) lies.held)

-- what a rename comes to once its first checks have passed
module _ (limit : ℕ) (tree : Tree) (from to : Dentry) (source target : Option Inode) (inode : Inode) (stands : source ≡ Some inode) (apart : eq_by_cmp dentry_cmp from to ≡ false) (outside : leads_to tree inode to.dir.0 ≡ false) where
  abbrev arrives : Outcome
  arrives = answers (with_moved tree from to inode) Done

  abbrev onto : Outcome
  onto = unless tree (replace_errno tree inode target) (unless tree (room_errno limit tree from to target) arrives)

  renamed_on : renamed limit tree from to source target ≡ onto
  renamed_on =
      ap (λ o. renamed limit tree from to o target) stands
      ∙ ap (λ b. cond b (answers tree Done) (cond (leads_to tree inode to.dir.0) (answers tree (Errno 22)) onto)) apart
      ∙ ap (λ b. cond b (answers tree (Errno 22)) onto) outside

  pub renamed_moves : replace_errno tree inode target ≡ None → room_errno limit tree from to target ≡ None → renamed limit tree from to source target ≡ arrives
  renamed_moves replaces room = renamed_on ∙ ap (λ e. unless tree e (unless tree (room_errno limit tree from to target) arrives)) replaces ∙ ap (λ e. unless tree e arrives) room

module _ (tree : Tree) (covers : Covers) (Holds : Dirfrag → Type 0) (op : Op) (n : ℕ) where
  pub made_checked : (limit : ℕ) (dentry : Dentry) (at : Dirfrag) (spot : Spot) (kind : Kind) (mode : ℕ) (birth : Birth) (inode : Inode) → LiesAt tree covers Holds dentry at → spot ≡ record { at = at; name = dentry.name } → inode ≡ new_inode n kind mode birth → map.get tree dentry ≡ None
      → nat_le limit (entries_in tree dentry.dir.0) ≡ false → entries_in tree dentry.dir.0 < 2 ^ 20
      → ((s : Spot) (i : Inode) → dentry_at s ≡ dentry → i.kind ≡ kind → IsChangeOf op (adds s i)) → IsChecked tree covers Holds op n (made limit tree dentry (new_inode n kind mode birth) (map.get tree dentry)) (adds spot inode)
  made_checked limit dentry at spot kind mode birth inode lies same is free room few makes =
      let there = spot_of tree covers Holds dentry at lies spot same in
      subst (λ (i : Inode). IsChecked tree covers Holds op n (made limit tree dentry new (map.get tree dentry)) (adds spot i)) (sym is)
      (subst (λ o. IsChecked tree covers Holds op n (made limit tree dentry new o) (adds spot new)) (sym free)
      (subst (λ b. IsChecked tree covers Holds op n (unless tree (cond {A = Option ℕ} b (Some 28) None) (record { reply = Entry new; tree = map.insert tree dentry new; takes = true })) (adds spot new)) (sym room) (record {
        one_of = makes spot new there.0 refl;
        replied = refl;
        leads = ap (λ (d : Dentry). map.insert tree d new) (sym there.0);
        number = refl;
        numbered = λ new. refl;
        carries = record { taken = tt; put = there.1; gone = refl };
        held = record { taken = tt; put = there.2 };
        takes = λ unused. subst (λ (d : Dentry). MayAdd tree d new) (sym there.0) (record { free = free; parent = lies.stands; spaced = few; unused = unused refl; sized = new_sized kind; unpinned = refl });
      })))
    where
      new : Inode
      new = new_inode n kind mode birth

  pub set_checked : (dentry : Dentry) (at : Dirfrag) (spot : Spot) (alteration : Alteration) (before inode : Inode) → LiesAt tree covers Holds dentry at → spot ≡ record { at = at; name = dentry.name } → inode ≡ altered alteration before → map.get tree dentry ≡ Some before → alteration_errno before.kind alteration ≡ None
      → ((s : Spot) (i : Inode) → dentry_at s ≡ dentry → IsChangeOf op (sets s i)) → IsChecked tree covers Holds op n (altered_at tree dentry alteration (map.get tree dentry)) (sets spot inode)
  set_checked dentry at spot alteration before inode lies same is stands allowed may_set =
      let there = spot_of tree covers Holds dentry at lies spot same in
      subst (λ (i : Inode). IsChecked tree covers Holds op n (altered_at tree dentry alteration (map.get tree dentry)) (sets spot i)) (sym is)
      (subst (λ o. IsChecked tree covers Holds op n (altered_at tree dentry alteration o) (sets spot later)) (sym stands)
      (subst (λ e. IsChecked tree covers Holds op n (unless tree e (answers (map.insert tree dentry later) (Entry later))) (sets spot later)) (sym allowed) (record {
        one_of = may_set spot later there.0;
        replied = refl;
        leads = ap (λ (d : Dentry). map.insert tree d later) (sym there.0);
        number = refl;
        numbered = λ new. let clash : true ≡ false = sym new in absurd cc;
        carries = record { taken = tt; put = there.1; gone = refl };
        held = record { taken = tt; put = there.2 };
        takes = λ unused. subst (λ (d : Dentry). MaySet tree d later) (sym there.0) may;
      })))
    where
      later : Inode
      later = altered alteration before

      kind : later.kind ≡ before.kind
      kind = altered_kind alteration before

      may : MaySet tree dentry later
      may = record {
        before = before;
        stands = stands;
        number = altered_number alteration before;
        kind = kind;
        sized = λ sized. subst (λ k. HasSize k later.size) (sym kind) (altered_size alteration before allowed sized);
        pinned = λ pinned. subst (λ k. HasPinOf k later.pin) (sym kind) (altered_pin alteration before allowed pinned);
      }

  removed : (dentry : Dentry) (at : Dirfrag) (spot : Spot) (inode : Inode) (gone : Option Ino) (outcome : Outcome) → LiesAt tree covers Holds dentry at → spot ≡ record { at = at; name = dentry.name } → map.get tree dentry ≡ Some inode → (is_dir_kind inode.kind && has_entries tree inode.ino.0) ≡ false
      → gone ≡ directory_at (Some inode) → ((s : Spot) → dentry_at s ≡ dentry → IsChangeOf op (removes s gone)) → outcome ≡ answers (map.remove tree dentry) Done → IsChecked tree covers Holds op n outcome (removes spot gone)
  removed dentry at spot inode gone outcome lies same stands empty is may_remove comes =
      let there = spot_of tree covers Holds dentry at lies spot same in
      subst (λ o. IsChecked tree covers Holds op n o (removes spot gone)) (sym comes) (record {
        one_of = may_remove spot there.0;
        replied = refl;
        leads = ap (map.remove tree) (sym there.0);
        number = refl;
        numbered = λ new. tt;
        carries = record { taken = there.1; put = tt; gone = is ∙ ap directory_at (sym stands) ∙ ap (λ (d : Dentry). directory_at (map.get tree d)) (sym there.0) };
        held = record { taken = there.2; put = tt };
        takes = λ unused. subst (MayRemove tree) (sym there.0) (record { inode = inode; stands = stands; empty = empty });
      })

  pub unlinked_checked : (dentry : Dentry) (at : Dirfrag) (spot : Spot) (inode : Inode) → LiesAt tree covers Holds dentry at → spot ≡ record { at = at; name = dentry.name } → map.get tree dentry ≡ Some inode → is_dir_kind inode.kind ≡ false
      → ((s : Spot) → dentry_at s ≡ dentry → IsChangeOf op (removes s None)) → IsChecked tree covers Holds op n (unlinked tree dentry (map.get tree dentry)) (removes spot None)
  unlinked_checked dentry at spot inode lies same stands file may_remove =
      removed dentry at spot inode None _ lies same stands (ap (λ b. b && has_entries tree inode.ino.0) file) (sym (ap (λ b. cond b (Some inode.ino) None) file)) may_remove
      (ap (unlinked tree dentry) stands ∙ ap (λ b. cond b (answers tree (Errno 21)) (answers (map.remove tree dentry) Done)) file)

  pub dir_checked : (dentry : Dentry) (at : Dirfrag) (spot : Spot) (inode : Inode) → LiesAt tree covers Holds dentry at → spot ≡ record { at = at; name = dentry.name } → map.get tree dentry ≡ Some inode → removal_errno tree inode ≡ None
      → ((s : Spot) (g : Option Ino) → dentry_at s ≡ dentry → IsChangeOf op (removes s g)) → IsChecked tree covers Holds op n (dir_removed tree dentry (map.get tree dentry)) (removes spot (Some inode.ino))
  dir_checked dentry at spot inode lies same stands may may_remove =
      let free = may_go (is_dir_kind inode.kind) (has_entries tree inode.ino.0) may in
      removed dentry at spot inode (Some inode.ino) _ lies same stands (ap (λ b. b && has_entries tree inode.ino.0) free.0 ∙ free.1) (sym (ap (λ b. cond b (Some inode.ino) None) free.0)) (λ s is. may_remove s (Some inode.ino) is)
      (ap (dir_removed tree dentry) stands ∙ ap (λ e. unless tree e (answers (map.remove tree dentry) Done)) may)

  pub moved_checked : (limit : ℕ) (from to : Dentry) (at : Dirfrag × Dirfrag) (source target : Spot) (gone : Option Ino) (inode : Inode) → LiesAt tree covers Holds from at.0 → LiesAt tree covers Holds to at.1 → source ≡ record { at = at.0; name = from.name } → target ≡ record { at = at.1; name = to.name }
      → map.get tree from ≡ Some inode → eq_by_cmp dentry_cmp from to ≡ false → leads_to tree inode to.dir.0 ≡ false → replace_errno tree inode (map.get tree to) ≡ None
      → room_errno limit tree from to (map.get tree to) ≡ None → HasSpace tree from to (map.get tree to) → gone ≡ directory_at (map.get tree to)
      → ((s t : Spot) (i : Inode) (g : Option Ino) → dentry_at s ≡ from → dentry_at t ≡ to → IsChangeOf op (moves s t i g))
      → IsChecked tree covers Holds op n (renamed limit tree from to (map.get tree from) (map.get tree to)) (moves source target inode gone)
  moved_checked limit from to at source target gone inode here there begins ends stands apart outside replaces room space is may_move =
      let a = spot_of tree covers Holds from at.0 here source begins in
      let b = spot_of tree covers Holds to at.1 there target ends in
      subst (λ o. IsChecked tree covers Holds op n o (moves source target inode gone)) (sym (renamed_moves limit tree from to (map.get tree from) (map.get tree to) inode stands apart outside replaces room)) (record {
        one_of = may_move source target inode gone a.0 b.0;
        replied = refl;
        leads = λ i. with_moved tree (sym a.0 i) (sym b.0 i) inode;
        number = refl;
        numbered = λ new. let clash : true ≡ false = sym new in absurd cc;
        carries = record { taken = a.1; put = b.1; gone = is ∙ ap (λ (d : Dentry). directory_at (map.get tree d)) (sym b.0) };
        held = record { taken = a.2; put = b.2 };
        takes = λ unused.
            subst (λ (d : Dentry). IsMove tree d (dentry_at target) inode) (sym a.0) (subst (λ (d : Dentry). IsMove tree from d inode) (sym b.0)
            (record { stands = stands; apart = apart; parent = there.stands; outside = outside; replaces = replaces; spaced = space }));
      })

-- the errno of what stands at the target, asked of a later state at which the tree was the same
pub replaced_told : (tree mid : Tree) (inode : Inode) (to : Dentry) (copied found : Option Inode) (told : Option ℕ) → mid ≡ tree → copied ≡ found → found ≡ map.get tree to → told ≡ replace_errno mid inode copied → told ≡ replace_errno tree inode (map.get tree to)
replaced_told tree mid inode to copied found told same copy there is = is ∙ (λ i. replace_errno (same i) inode (copy i)) ∙ ap (replace_errno tree inode) there

-- what was found from a later state, at which the tree and the leaves were the same, was found from the earlier
pub checks_from : (tree mid : Tree) (covers later : Covers) (Holds Held : Dirfrag → Type 0) (op : Op) (n : ℕ) (outcome here : Outcome) (result : Result Checked Refusal) → mid ≡ tree → later ≡ covers → ((at : Dirfrag) → Held at → Holds at) → outcome ≡ here
    → IfOk result (Checks mid later Held op n outcome) → IfOk result (Checks tree covers Holds op n here)
checks_from tree mid covers later Holds Held op n outcome here result same leaves holds is found =
    held_so (subst (λ t. IfOk result (Checks t covers Held op n here)) same (subst (λ k. IfOk result (Checks mid k Held op n here)) leaves (subst (λ o. IfOk result (Checks mid later Held op n o)) is found)))
  where
    taken_of : (takes : Option Spot) → IfSome takes (λ spot. Held spot.at) → IfSome takes (λ spot. Holds spot.at)
    taken_of None h = tt
    taken_of (Some spot) h = holds spot.at h

    put_of : (puts : Option (Spot × Inode)) → IfSome puts (λ put. Held put.0.at) → IfSome puts (λ put. Holds put.0.at)
    put_of None h = tt
    put_of (Some put) h = holds put.0.at h

    held_so : IfOk result (Checks tree covers Held op n here) → IfOk result (Checks tree covers Holds op n here)
    held_so = go result
      where
        go : (r : Result Checked Refusal) → IfOk r (Checks tree covers Held op n here) → IfOk r (Checks tree covers Holds op n here)
        go (Err reason) h = tt
        go (Ok (Answers reply)) h = h
        go (Ok (Changes change)) h = record { one_of = h.one_of; replied = h.replied; leads = h.leads; number = h.number; numbered = h.numbered; carries = h.carries; held = record { taken = taken_of change.takes h.held.taken; put = put_of change.puts h.held.put }; takes = h.takes }

module _ (tree : Tree) (covers : Covers) (Holds : Dirfrag → Type 0) (op is : Op) (same : op ≡ is) where
  -- what was found of an operation whose directories stand, by which it is
  pub step_from : (limit n : ℕ) (result : Result Checked Refusal) → is_directory tree (directory_of is) ≡ true → is_directory tree (destination_of is) ≡ true → IfOk result (Checks tree covers Holds op n (done_in limit tree (shape is) n)) → IfOk result (Checks tree covers Holds op n (step limit tree op n))
  step_from limit n result here there found =
      subst (λ (o : Op). IfOk result (Checks tree covers Holds op n (step limit tree o n))) (sym same)
      (subst (λ b. IfOk result (Checks tree covers Holds op n (cond b (done_in limit tree (shape is) n) (answers tree (Errno 116))))) (sym ((λ i. here i && there i))) found)

  -- where its main name lies
  pub main_at : (places : Places) (at : Located) → AreLocated tree covers Holds op places → places.main ≡ Some at → IsLocated tree covers Holds (destination_of is) (main_hash is) at
  main_at places at located stands = subst (λ (o : Op). IsLocated tree covers Holds (destination_of o) (main_hash o) at) same (subst (Locates tree covers Holds (destination_of op) (main_hash op)) stands located.main)

  pub step_at : (limit n : ℕ) (result : Result Checked Refusal) (places : Places) (at : Located) → AreLocated tree covers Holds op places → places.main ≡ Some at → directory_of is ≡ destination_of is → IfOk result (Checks tree covers Holds op n (done_in limit tree (shape is) n)) → IfOk result (Checks tree covers Holds op n (step limit tree op n))
  step_at limit n result places at located stands one found = let there = main_at places at located stands in step_from limit n result (ap (is_directory tree) one ∙ there.at.stands) there.at.stands found

-- where the source of a rename lies
pub source_at : (tree : Tree) (covers : Covers) (Holds : Dirfrag → Type 0) (op : Op) (from to : Dentry) (places : Places) (at : Located) → op ≡ Rename from to → AreLocated tree covers Holds op places → places.source ≡ Some at → IsLocatedAt tree covers Holds from at
source_at tree covers Holds op from to places at same located stands =
    subst (Locates tree covers Holds from.dir.0 (hash_of from.name)) stands (subst (λ (o : Op). LocatesAt tree covers Holds (source_of o) places.source) same located.source)

-- what was found of an operation is so after reads
pub checks_on : (limit : ℕ) (tree mid : Tree) (covers later : Covers) (Holds Held : Dirfrag → Type 0) (op : Op) (n m : ℕ) (found : Checked) → mid ≡ tree → later ≡ covers → ((at : Dirfrag) → Holds at → Held at) → n ≡ m → Checks tree covers Holds op n (step limit tree op n) found
    → Checks mid later Held op m (step limit mid op m) found
checks_on limit tree mid covers later Holds Held op n m found same leaves holds number checks =
    subst (λ k. Checks mid later Held op k (step limit mid op k) found) number
    (checks_from mid tree later covers Held Holds op n (step limit tree op n) (step limit mid op n) (Ok found) (sym same) (sym leaves) holds (λ i. step limit (sym same i) op n) checks)
