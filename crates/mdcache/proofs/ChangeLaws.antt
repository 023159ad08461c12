-- The four changes are right.
use Rattle.mdcache.proofs.Common.{Alters, Change, ChangesAreRight, ChangesOnly, Contains, Counts, Covers, Dentry, DirPins, Fragment, HasLeaf, HasNumber, Homes, Ino, Inode, IsCounted, IsDentryLeaf, IsLive, IsNamed, IsRightChange, IsSound, IsStandingJob, IsTabled, IsUnsaved, IsUntouched, Job, KeepLeaves, Leaf, List, MayChange, MayCome, MayGo, None, NothingIn, Option, Shape, Some, Spot, State, StaysAsItIs, Tree, Unsaved, [], add, added_counted, added_tabled, adds, ap, arith, changed, cond_both, counts_moved, dentry_at, directory_at, entry_stands, false, false_from_ne_true, fragments_of, home_at, is_dir_kind, is_known, is_some, known_is, leaf_is, leaf_of, leaves, leaves_gone, leaves_kept, leaves_of, may_come, may_drop, may_relocate, may_replace, move, moved_counted, moved_tabled, moves, nat_cmp, noted_change, nothing_in, one_leaf, one_less, refl, remove, removed_counted, removed_tabled, removes, replaced_empty, rows_but, rules, same_Some, set, set_counted, set_tabled, sets, shape_of, shown_tree, stands_after_removal, subst, suc, sym, true, with_dir, with_directory, with_file, with_home, with_home_at, with_moved, without_gone_dir, without_cover, without_directory, without_home, without_row, zero, ℕ, ◌<◌, ◌^◌, ◌∙◌, ◌∷◌, ◌≡◌}
use Rattle.std.specs.FinMap as map
use Rattle.inode_table.specs.Dirs.{MayMove as MayRelocate}
use Rattle.mdcache.proofs.NamedLaws.{HasSoundLeaves, named_leaves, named_tree, shows_beside, sound_leaves, with_at}
use Rattle.mdcache.proofs.HomeLaws.{grown_leaves, grown_live, grown_names, grown_tree, moved_home, moved_known, rehomed_leaves, rehomed_live, rehomed_tree}
use Rattle.mdcache.proofs.GoneLaws.{left_leaves, left_live, left_names, left_tree, one_of_those}

-- ---- what stays

stays_on : (a b c : State) (leaf : Leaf) → StaysAsItIs a b leaf → StaysAsItIs b c leaf → StaysAsItIs a c leaf
stays_on a b c leaf first second = record { live = second.live; names = second.names ∙ first.names }

-- a leaf that isn't on a list isn't its first, nor on the rest
not_first : (q leaf : Leaf) (rest : List Leaf) → (Contains (leaf ∷ rest) q → ⊥) → leaf_is q leaf ≡ false
not_first q leaf rest none = false_from_ne_true _ (λ same. none (zero, omega arith, sym (one_leaf q leaf same)))

not_later : (q leaf : Leaf) (rest : List Leaf) → (Contains (leaf ∷ rest) q → ⊥) → Contains rest q → ⊥
not_later q leaf rest none (k, stands, is) = none (suc k, omega (arith, stands), is)

-- ---- one name

-- what a name that changed leaves
record IsNamedSo (old new : State) (dentry : Dentry) (f : Fragment) (inode : Option Inode) : Type 0 where
  leaves : HasSoundLeaves new
  tree : shown_tree new ≡ with_at (shown_tree old) dentry inode
  homes : new.homes ≡ old.homes
  covers : new.covers ≡ old.covers
  stays : (leaf : Leaf) → leaf_is leaf (dentry.dir, f) ≡ false → IsLive old.homes old.covers leaf → StaysAsItIs old new leaf

named_so : (old new : State) (dentry : Dentry) (f : Fragment) (inode : Option Inode) → HasSoundLeaves old → is_known old.homes dentry.dir.0 ≡ true → IsDentryLeaf old.covers dentry f → IsNamed old new (dentry.dir, f) dentry.name inode
    → IsNamedSo old new dentry f inode
named_so old new dentry f inode sound known pick named =
    subst (λ (t : State). IsNamedSo old t dentry f inode) (sym named.left) (record {
      leaves = named_leaves old sound dentry f inode live pick named.before named.stands;
      tree = named_tree old sound dentry f inode live pick named.before named.stands;
      homes = refl;
      covers = refl;
      stays = λ leaf apart is. record { live = is; names = shows_beside old sound dentry f inode live pick named.before named.stands leaf apart };
    })
  where
    live : IsLive old.homes old.covers (dentry.dir, f)
    live = record { known = known; stands = pick.stands }

-- the directory of an entry is known
pub entry_known : (s : State) (dentry : Dentry) (inode : Inode) → IsSound s → map.get (shown_tree s) dentry ≡ Some inode → is_known s.homes dentry.dir.0 ≡ true
entry_known s dentry inode sound stands = known_is (shown_tree s) s.homes sound.tabled dentry.dir.0 ∙ sound.tabled.whole.parents dentry.dir.0 dentry.name inode stands

-- a table of one tree is that of another that is equal
tabled_as : (old new : Tree) (homes now : Homes) → new ≡ old → now ≡ homes → IsTabled old homes → IsTabled new now
tabled_as old new homes now tree same tabled = subst (λ (h : Homes). IsTabled new h) (sym same) (subst (λ (t : Tree). IsTabled t homes) (sym tree) tabled)

-- ---- counts and pins

-- all that a change makes right but the counts and the pins
record IsAltered (change : Change) (old new : State) : Type 0 where
  sound : HasSoundLeaves new
  tabled : IsTabled (shown_tree new) new.homes
  tree : shown_tree new ≡ changed (shown_tree old) change
  leaves : KeepLeaves (shown_tree new) old.covers new.covers
  frame : ChangesOnly (IsUntouched old new) (fragments_of old.covers change)

-- and then all
noted_right : (change : Change) (old new : State) (counts : Counts) (pins : DirPins) → IsAltered change old new → IsCounted (changed (shown_tree old) change) counts pins → IsRightChange change old (record new { counts = counts; pins = pins })
noted_right change old new counts pins altered counted =
    let its = altered.sound in
    let now : State = record new { counts = counts; pins = pins } in
    let counted_now : IsCounted (shown_tree new) counts pins = subst (λ (t : Tree). IsCounted t counts pins) (sym altered.tree) counted in
    let unsaved : (leaf : Leaf) (u : Unsaved) → map.get new.unsaved leaf ≡ Some u → IsUnsaved now leaf u = λ leaf u is. (let old = its.unsaved leaf u is in record { live = old.live; made = old.made; young = old.young }) in
    let standing : (leaf : Leaf) (job : Job) → map.get new.jobs leaf ≡ Some job → IsStandingJob now leaf job = λ leaf job is.
    (let old = its.standing leaf job is in record { mine = old.mine; given = old.given; young = old.young; unsaved = old.unsaved; beside = old.beside; taken = old.taken }) in
    let frame : ChangesOnly (IsUntouched old now) (fragments_of old.covers change) = λ leaf none live. (let still = altered.frame leaf none live in record { live = still.live; names = still.names }) in
    search (rules, its.owned)

-- rows of directories without_gone_dir that of a directory that went
row_gone : {X : Type 0} (rows : map.FinMap nat_cmp X) (found : Option Inode) → rows_but rows (directory_at found) ≡ without_row rows found
row_gone rows found = search rules

-- a name got an inode, and no directory comes
named_altered : (change : Change) (spot : Spot) (inode : Inode) (old new : State) → IsNamedSo old new (dentry_at spot) spot.at.frag (Some inode) → IsTabled (map.insert (shown_tree old) (dentry_at spot) inode) old.homes
    → map.insert (shown_tree old) (dentry_at spot) inode ≡ changed (shown_tree old) change → leaf_of spot.at ∷ [] ≡ fragments_of old.covers change → IsAltered change old new
named_altered change spot inode old new so tabled tree leaves = record {
  sound = so.leaves;
  tabled = tabled_as _ _ _ _ so.tree so.homes tabled;
  tree = so.tree ∙ tree;
  leaves = λ d is. ap (λ (c : Covers). leaves_of c d) so.covers;
  frame = λ leaf none live. so.stays leaf (not_first leaf (leaf_of spot.at) [] (subst (λ (ls : List Leaf). Contains ls leaf → ⊥) (sym leaves) none)) live;
}

-- ---- other attributes

set_altered : (spot : Spot) (inode : Inode) (old new : State) → IsSound old → MayChange (shown_tree old) old.covers (sets spot inode) → Alters (sets spot inode) old new → IsAltered (sets spot inode) old new
set_altered spot inode old new sound may makes =
    let so = named_so old makes.0 (dentry_at spot) spot.at.frag (Some inode) (sound_leaves old sound) (entry_known old (dentry_at spot) may.takes.before sound may.takes.stands) may.carries.put makes.1 in
    subst (IsAltered (sets spot inode) old) (sym makes.2)
    (named_altered (sets spot inode) spot inode old makes.0 so (set_tabled (shown_tree old) old.homes (dentry_at spot) inode sound.tabled may.takes) refl refl)

-- ---- a new inode

-- a directory comes with it
added_dir : (spot : Spot) (inode : Inode) (old named : State) → IsSound old → inode.ino.0 < 2 ^ 64 → MayChange (shown_tree old) old.covers (adds spot inode) → IsNamedSo old named (dentry_at spot) spot.at.frag (Some inode) → is_dir_kind inode.kind ≡ true
    → IsAltered (adds spot inode) old (with_directory named (dentry_at spot) inode.ino)
added_dir spot inode old named sound fits may so kinded = record {
  sound = grown_leaves named so.leaves (dentry_at spot) inode.ino come fits;
  tabled = tabled_as _ _ _ _ tree (ap (λ (h : Homes). map.insert h inode.ino.0 (home_at (dentry_at spot))) so.homes ∙ sym (with_dir old.homes (dentry_at spot) inode kinded))
      (added_tabled (shown_tree old) old.homes (dentry_at spot) inode sound.tabled may.takes);
  tree = tree;
  leaves = λ d is. ap (λ (c : Covers). leaves_of c d) so.covers;
  frame = λ leaf none live.
      let first = so.stays leaf (not_first leaf (leaf_of spot.at) [] none) live in
      stays_on old named _ leaf first (record { live = grown_live named so.leaves (dentry_at spot) inode.ino come fits leaf first.live; names = grown_names named so.leaves (dentry_at spot) inode.ino come fits leaf first.live });
}
  where
    come : MayCome named.homes inode.ino.0 (home_at (dentry_at spot))
    come = subst (λ (h : Homes). MayCome h inode.ino.0 (home_at (dentry_at spot))) (sym so.homes) (may_come (shown_tree old) old.homes (dentry_at spot) inode sound.tabled may.takes)

    tree : shown_tree (with_directory named (dentry_at spot) inode.ino) ≡ map.insert (shown_tree old) (dentry_at spot) inode
    tree = grown_tree named so.leaves (dentry_at spot) inode.ino come fits ∙ so.tree

add_altered : (spot : Spot) (inode : Inode) (old new : State) → IsSound old → inode.ino.0 < 2 ^ 64 → MayChange (shown_tree old) old.covers (adds spot inode) → Alters (adds spot inode) old new
    → IsAltered (adds spot inode) old new
add_altered spot inode old new sound fits may makes =
    let so = named_so old makes.0 (dentry_at spot) spot.at.frag (Some inode) (sound_leaves old sound) (known_is (shown_tree old) old.homes sound.tabled spot.at.dir.0 ∙ may.takes.parent) may.carries.put makes.1 in
    subst (IsAltered (adds spot inode) old) (sym makes.2) (cond_both (is_dir_kind inode.kind) (with_directory makes.0 (dentry_at spot) inode.ino) makes.0 (IsAltered (adds spot inode) old) (added_dir spot inode old makes.0 sound fits may so)
    (λ file. named_altered (adds spot inode) spot inode old makes.0 so (subst (IsTabled (map.insert (shown_tree old) (dentry_at spot) inode)) (with_file old.homes (dentry_at spot) inode file)
    (added_tabled (shown_tree old) old.homes (dentry_at spot) inode sound.tabled may.takes)) refl refl))

-- ---- what goes

-- what went leaves a state behind, of whatever was there before
record IsLeftSo (named new : State) (gone : Option Ino) : Type 0 where
  leaves : HasSoundLeaves new
  tree : shown_tree new ≡ shown_tree named
  stays : (leaf : Leaf) → (Contains (leaves_gone named.covers gone) leaf → ⊥) → IsLive named.homes named.covers leaf → StaysAsItIs named new leaf

dir_left : (named : State) (dir : Ino) → HasSoundLeaves named → MayGo named.homes dir.0 → is_known named.homes dir.0 ≡ true → NothingIn (shown_tree named) dir.0 → IsLeftSo named (without_directory named dir) (Some dir)
dir_left named dir sound may known nothing = record {
  leaves = left_leaves named sound dir may known nothing;
  tree = left_tree named sound dir may known nothing;
  stays = λ leaf none live.
      let apart : leaf.0.0 ≡ dir.0 → ⊥ = λ same. none (one_of_those dir.0 leaf (leaves_of named.covers dir.0) same (subst (λ (d : ℕ). HasLeaf (leaves_of named.covers d) leaf.1) same live.stands)) in
      record { live = left_live named sound dir may known nothing leaf apart live; names = left_names named sound dir may known nothing leaf apart };
}

none_left : (named : State) → HasSoundLeaves named → IsLeftSo named named None
none_left named sound = record { leaves = sound; tree = refl; stays = λ leaf none live. record { live = live; names = refl } }

-- the table and the leaves of directories without_gone_dir what stood at a dentry
tables_without : (s : State) (found : Option Inode) → ((without_gone_dir s (directory_at found)).homes ≡ without_home s.homes found) × ((without_gone_dir s (directory_at found)).covers ≡ without_cover s.covers found)
tables_without s found = search rules

-- what stood at a dentry goes, whatever it was
left_so : (named : State) (found : Option Inode) → HasSoundLeaves named
    → ((inode : Inode) → found ≡ Some inode → is_dir_kind inode.kind ≡ true → MayGo named.homes inode.ino.0 × (is_known named.homes inode.ino.0 ≡ true) × NothingIn (shown_tree named) inode.ino.0)
    → IsLeftSo named (without_gone_dir named (directory_at found)) (directory_at found)
left_so named None sound may = none_left named sound
left_so named (Some inode) sound may = cond_both (is_dir_kind inode.kind) (Some inode.ino) None (λ g. IsLeftSo named (without_gone_dir named g) g)
    (λ kinded. let m = may inode refl kinded in dir_left named inode.ino sound m.0 m.1 m.2) (λ kinded. none_left named sound)

-- an entry that stands for a directory is known
stands_known : (s : State) (dentry : Dentry) (inode : Inode) → IsSound s → map.get (shown_tree s) dentry ≡ Some inode → is_dir_kind inode.kind ≡ true → is_known s.homes inode.ino.0 ≡ true
stands_known s dentry inode sound stands kinded = known_is (shown_tree s) s.homes sound.tabled inode.ino.0 ∙ entry_stands (shown_tree s) dentry inode stands kinded

-- an entry went from a dentry, or came there in place of another, and what stood there goes after it
gone_altered : (change : Change) (old before new : State) (tree : Tree) (homes : Homes) (dentry : Dentry) (gone : Option Ino) → gone ≡ directory_at (map.get (shown_tree old) dentry) → new ≡ without_gone_dir before gone → IsSound old → HasSoundLeaves before
    → shown_tree before ≡ tree → before.homes ≡ homes → before.covers ≡ old.covers → changed (shown_tree old) change ≡ tree → IsTabled tree (without_home homes (map.get (shown_tree old) dentry))
    → ((inode : Inode) → map.get (shown_tree old) dentry ≡ Some inode → is_dir_kind inode.kind ≡ true → MayGo homes inode.ino.0 × (is_known before.homes inode.ino.0 ≡ true) × NothingIn tree inode.ino.0)
    → ((leaf : Leaf) → (Contains (fragments_of old.covers change) leaf → ⊥) → IsLive old.homes old.covers leaf → StaysAsItIs old before leaf × (Contains (leaves_gone old.covers gone) leaf → ⊥)) → IsAltered change old new
gone_altered change old before new tree homes dentry gone goes is sound leaves shown housed covered makes tabled may stays = record {
  sound = its.leaves;
  tabled = tabled_now;
  tree = its.tree ∙ shown ∙ sym makes;
  leaves = leaves_kept (shown_tree old) (shown_tree new) new.homes homes old.covers new.covers dentry found tabled_now sound.tabled.whole refl homes_are
      (ap (λ (t : State). t.covers) now ∙ (tables_without before found).1 ∙ ap (λ (c : Covers). without_cover c found) covered);
  frame = λ leaf none live.
      let first = stays leaf none live in
      stays_on old before new leaf first.0 (its.stays leaf (λ has. first.1 (subst (λ (c : Covers). Contains (leaves_gone c gone) leaf) covered has)) first.0.live);
}
  where
    found : Option Inode
    found = map.get (shown_tree old) dentry

    now : new ≡ without_gone_dir before (directory_at found)
    now = is ∙ ap (without_gone_dir before) goes

    its : IsLeftSo before new gone
    its = subst (λ (g : Option Ino). IsLeftSo before new g) (sym goes) (subst (λ (t : State). IsLeftSo before t (directory_at found)) (sym now) (left_so before found leaves (λ inode stood kinded.
        let m = may inode stood kinded in
        (subst (λ (h : Homes). MayGo h inode.ino.0) (sym housed) m.0, m.1, subst (λ (t : Tree). NothingIn t inode.ino.0) (sym shown) m.2))))

    homes_are : new.homes ≡ without_home homes found
    homes_are = ap (λ (t : State). t.homes) now ∙ (tables_without before found).0 ∙ ap (λ (h : Homes). without_home h found) housed

    tabled_now : IsTabled (shown_tree new) new.homes
    tabled_now = tabled_as _ _ _ _ (its.tree ∙ shown) homes_are tabled

-- ---- a removal

remove_altered : (spot : Spot) (gone : Option Ino) (old new : State) → IsSound old → MayChange (shown_tree old) old.covers (removes spot gone) → Alters (removes spot gone) old new → IsAltered (removes spot gone) old new
remove_altered spot gone old new sound may makes =
    gone_altered (removes spot gone) old makes.0 new (map.remove (shown_tree old) (dentry_at spot)) old.homes (dentry_at spot) gone may.carries.gone makes.2 sound so.leaves so.tree so.homes so.covers refl
    (removed_tabled (shown_tree old) old.homes (dentry_at spot) _ refl sound.tabled may.takes) may_leave
    (λ leaf none live. (so.stays leaf (not_first leaf (leaf_of spot.at) (leaves_gone old.covers gone) none) live, not_later leaf (leaf_of spot.at) (leaves_gone old.covers gone) none))
  where
    so : IsNamedSo old makes.0 (dentry_at spot) spot.at.frag None
    so = named_so old makes.0 (dentry_at spot) spot.at.frag None (sound_leaves old sound) (entry_known old (dentry_at spot) may.takes.inode sound may.takes.stands) may.carries.taken makes.1

    may_leave : (inode : Inode) → map.get (shown_tree old) (dentry_at spot) ≡ Some inode → is_dir_kind inode.kind ≡ true
        → MayGo old.homes inode.ino.0 × (is_known makes.0.homes inode.ino.0 ≡ true) × NothingIn (map.remove (shown_tree old) (dentry_at spot)) inode.ino.0
    may_leave inode there kinded = (
      may_drop (shown_tree old) old.homes (dentry_at spot) _ refl sound.tabled may.takes inode there kinded,
      ap (λ (h : Homes). is_known h inode.ino.0) so.homes ∙ stands_known old (dentry_at spot) inode sound there kinded,
      subst (λ (i : Inode). NothingIn (map.remove (shown_tree old) (dentry_at spot)) i.ino.0) (same_Some may.takes.inode inode (sym may.takes.stands ∙ there)) (λ q x stands same.
          nothing_in (shown_tree old) (dentry_at spot) may.takes.inode sound.tabled.whole may.takes.stands may.takes.empty q x (stands_after_removal (shown_tree old) (dentry_at spot) q x stands).1 same),
    )

-- ---- a move

move_altered : (source target : Spot) (inode : Inode) (gone : Option Ino) (old new : State) → IsSound old → MayChange (shown_tree old) old.covers (moves source target inode gone) → Alters (moves source target inode gone) old new
    → IsAltered (moves source target inode gone) old new
move_altered source target inode gone old new sound may makes =
    let out = makes.0 in
    let in_place = makes.2.0 in
    let there = with_home_at in_place (dentry_at target) inode in
    let first = named_so old out (dentry_at source) source.at.frag None (sound_leaves old sound) (entry_known old (dentry_at source) inode sound may.takes.stands) may.carries.taken makes.1 in
    let second = named_so out in_place (dentry_at target) target.at.frag (Some inode) first.leaves (ap (λ (h : Homes). is_known h (dentry_at target).dir.0) first.homes ∙ known_is (shown_tree old) old.homes sound.tabled target.at.dir.0 ∙ may.takes.parent)
    (subst (λ (c : Covers). IsDentryLeaf c (dentry_at target) target.at.frag) (sym first.covers) may.carries.put) makes.2.1 in
    let homes : in_place.homes ≡ old.homes = second.homes ∙ first.homes in
    let relocates : is_dir_kind inode.kind ≡ true → MayRelocate in_place.homes inode.ino.0 (home_at (dentry_at target)) = λ kinded.
    subst (λ (h : Homes). MayRelocate h inode.ino.0 (home_at (dentry_at target))) (sym homes) (may_relocate (shown_tree old) old.homes (dentry_at source) (dentry_at target) inode sound.tabled may.takes kinded) in
    let known = moved_known in_place.homes in_place.covers second.leaves.table (dentry_at target) inode relocates in
    let table = moved_home in_place.homes in_place.covers second.leaves.table (dentry_at target) inode relocates in
    gone_altered (moves source target inode gone) old there new (with_moved (shown_tree old) (dentry_at source) (dentry_at target) inode) (with_home old.homes (dentry_at target) inode) (dentry_at target) gone may.carries.gone makes.2.2 sound
    (rehomed_leaves in_place there.homes second.leaves table known) (rehomed_tree in_place there.homes second.leaves table known ∙ second.tree ∙ ap (λ (t : Tree). map.insert t (dentry_at target) inode) first.tree)
    (ap (λ (h : Homes). with_home h (dentry_at target) inode) homes) (second.covers ∙ first.covers) refl (moved_tabled (shown_tree old) old.homes (dentry_at source) (dentry_at target) inode sound.tabled may.takes)
    (λ i stood kinded. (
      may_replace (shown_tree old) old.homes (dentry_at source) (dentry_at target) inode sound.tabled may.takes i stood,
      known i.ino.0 ∙ ap (λ (h : Homes). is_known h i.ino.0) homes ∙ stands_known old (dentry_at target) i sound stood kinded,
      replaced_empty (shown_tree old) (dentry_at source) (dentry_at target) inode sound.tabled.whole may.takes i stood,
    ))
    (λ leaf none live.
    let rest = leaves_gone old.covers gone in
    let not_from = not_later leaf (leaf_of source.at) (leaf_of target.at ∷ rest) none in
    let at_first = first.stays leaf (not_first leaf (leaf_of source.at) (leaf_of target.at ∷ rest) none) live in
    let at_second = stays_on old out in_place leaf at_first (second.stays leaf (not_first leaf (leaf_of target.at) rest not_from) at_first.live) in
    (stays_on old in_place there leaf at_second (record { live = rehomed_live in_place there.homes second.leaves table known leaf at_second.live; names = refl }), not_later leaf (leaf_of target.at) rest not_from))

-- ---- every change

altered_by : (change : Change) → Shape change → (old new : State) → IsSound old → HasNumber change → MayChange (shown_tree old) old.covers change → Alters change old new → IsAltered change old new
altered_by _ (add spot inode) old new sound fits may makes = add_altered spot inode old new sound (fits refl) may makes
altered_by _ (set spot inode) old new sound fits may makes = set_altered spot inode old new sound may makes
altered_by _ (remove spot went) old new sound fits may makes = remove_altered spot went old new sound may makes
altered_by _ (move from to inode went) old new sound fits may makes = move_altered from to inode went old new sound may makes

-- so are the rows of counts and pins without_gone_dir those of what went
rows_gone : (tree : Tree) (counts : Counts) (pins : DirPins) (found : Option Inode) (went : Option Ino) → went ≡ directory_at found → IsCounted tree (without_row counts found) (without_row pins found)
    → IsCounted tree (rows_but counts went) (rows_but pins went)
rows_gone tree counts pins found went goes counted =
    subst (λ (g : Option Ino). IsCounted tree (rows_but counts g) (rows_but pins g)) (sym goes) (subst (λ (c : Counts). IsCounted tree c (rows_but pins (directory_at found))) (sym (row_gone counts found))
    (subst (IsCounted tree (without_row counts found)) (sym (row_gone pins found)) counted))

-- the counts and the pins that a change makes are those of the changed tree
counted_by : (change : Change) → Shape change → (old new : State) → IsSound old → MayChange (shown_tree old) old.covers change → IsCounted (changed (shown_tree old) change) (noted_change old change new).counts (noted_change old change new).pins
counted_by _ (add spot inode) old new sound may = added_counted (shown_tree old) old.homes sound.tabled old.counts old.pins sound.counted (dentry_at spot) inode may.takes
counted_by _ (set spot inode) old new sound may = set_counted (shown_tree old) old.homes sound.tabled old.counts old.pins sound.counted (dentry_at spot) inode may.takes
counted_by _ (remove spot went) old new sound may =
    rows_gone (map.remove (shown_tree old) (dentry_at spot)) (one_less old.counts spot.at.dir.0) old.pins (map.get (shown_tree old) (dentry_at spot)) went may.carries.gone
    (removed_counted (shown_tree old) old.homes sound.tabled old.counts old.pins sound.counted (dentry_at spot) _ refl may.takes)
counted_by _ (move from to inode went) old new sound may =
    let found = map.get (shown_tree old) (dentry_at to) in
    rows_gone (with_moved (shown_tree old) (dentry_at from) (dentry_at to) inode) (counts_moved old.counts from.at.dir.0 to.at.dir.0 (is_some found)) old.pins found went may.carries.gone
    (moved_counted (shown_tree old) old.homes sound.tabled old.counts old.pins sound.counted (dentry_at from) (dentry_at to) inode may.takes)

pub changes_are_right : ChangesAreRight
changes_are_right change old new sound fits may makes =
    let shape = shape_of (shown_tree old) old.covers change may in
    subst (IsRightChange change old) (sym makes.2)
    (noted_right change old makes.0 (noted_change old change makes.0).counts (noted_change old change makes.0).pins (altered_by change shape old makes.0 sound fits may makes.1) (counted_by change shape old makes.0 sound may))
