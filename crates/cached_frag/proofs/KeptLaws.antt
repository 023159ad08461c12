-- What each fragment keeps, once it is made and once a name has changed.
use Rattle.cached_frag.proofs.Common.{AreDirtyNames, AreEntries, Base, Cached, EntryCounts, Fresh, IsBased, IsDirtyName, IsCachedWith, List, Mark, Marks, Names, None, Option, Some, Stored, ap, arith, counted, counted_or, counts_of, get-empty, inode_or, key_cmp, marked, refl, shown_names, shown_over, subst, sym, with_changed_name, ℕ, ◌+◌, ◌-◌, ◌<◌, ◌^◌, ◌∙◌, ◌≡◌, ◌≤◌}
use Rattle.std.specs.FinMap as map
use Rattle.cached_frag.proofs.MarkLaws.{none_dirty, one_dirty}
use Rattle.cached_frag.proofs.CountedLaws.{all_counted, dirs_marked, dirs_some, files_marked, files_some, nothing_counted}
use Rattle.cached_frag.proofs.ShownLaws.{get-shown, nothing_shown, only_below, shown_marked}

pub no_entries : (names : Names) → names ≡ map.empty → AreEntries names
no_entries names none name inode is =
    let clash : None ≡ Some inode = sym (get-empty key_cmp name) ∙ sym (ap (λ (n : Names). map.get n name) none) ∙ is in
    absurd cc

-- a fragment with no names and no room for any
pub kept_bare : (base : Base) (generation : ℕ) (clean : Names) (dirty : Marks) (places free : ℕ) → clean ≡ map.empty → dirty ≡ map.empty
    → IsCachedWith (record { base = base; generation = generation; clean = clean; dirty = dirty; room = 0; places = free }) (record { files = 0; dirs = 0 }) places
kept_bare Fresh generation clean dirty places free bare none =
    record {
      based = bare;
      entries = no_entries clean bare;
      dirty = none_dirty dirty none;
      counted = sym (ap counts_of (nothing_shown dirty none) ∙ nothing_counted);
      few = omega arith;
      reserved = omega arith;
    }
kept_bare (Stored version) generation clean dirty places free bare none =
    record {
      based = tt;
      entries = no_entries clean bare;
      dirty = none_dirty dirty none;
      counted = sym (ap counts_of (only_below clean dirty none ∙ bare) ∙ nothing_counted);
      few = omega arith;
      reserved = omega arith;
    }

-- what a name counted as
pub was_counted : (f : Cached) (counts : EntryCounts) (places : ℕ) (name : List ℕ) (below before : EntryCounts) → IsCachedWith f counts places → below ≡ counted (map.get f.clean name) → before ≡ counted_or (map.get f.dirty name) below
    → before ≡ counted (map.get (shown_names f) name)
was_counted f counts places name below before kept low is =
    is ∙ ap (counted_or (map.get f.dirty name)) low ∙ either (map.get f.dirty name) ∙ sym (ap counted (get-shown f.base f.clean f.dirty name kept.based))
  where
    either : (o : Option Mark) → counted_or o (counted (map.get f.clean name)) ≡ counted (inode_or o (map.get f.clean name))
    either (Some mark) = refl
    either None = refl

-- the counts allow the change of a name
pub file_there : (f : Cached) (counts : EntryCounts) (places : ℕ) (name : List ℕ) (before : EntryCounts) → IsCachedWith f counts places → before ≡ counted (map.get (shown_names f) name) → before.files ≤ counts.files
file_there f counts places name before kept is =
    let some : (counted (map.get (shown_names f) name)).files ≤ (counts_of (shown_names f)).files = files_some (shown_names f) name in
    let same : before.files ≡ (counted (map.get (shown_names f) name)).files = ap (λ (c : EntryCounts). c.files) is in
    let total : counts.files ≡ (counts_of (shown_names f)).files = ap (λ (c : EntryCounts). c.files) kept.counted in
    omega (arith, some, same, total)

pub dir_there : (f : Cached) (counts : EntryCounts) (places : ℕ) (name : List ℕ) (before : EntryCounts) → IsCachedWith f counts places → before ≡ counted (map.get (shown_names f) name) → before.dirs ≤ counts.dirs
dir_there f counts places name before kept is =
    let some : (counted (map.get (shown_names f) name)).dirs ≤ (counts_of (shown_names f)).dirs = dirs_some (shown_names f) name in
    let same : before.dirs ≡ (counted (map.get (shown_names f) name)).dirs = ap (λ (c : EntryCounts). c.dirs) is in
    let total : counts.dirs ≡ (counts_of (shown_names f)).dirs = ap (λ (c : EntryCounts). c.dirs) kept.counted in
    omega (arith, some, same, total)

module _ (f : Cached) (counts now : EntryCounts) (places left : ℕ) (name : List ℕ) (mark : Mark) (before after : EntryCounts) (kept : IsCachedWith f counts places) (dirty : IsDirtyName name mark) (room : 0 < f.room)
    (was : before ≡ counted (map.get (shown_names f) name)) (is : after ≡ counted mark.inode) (one : after.files + after.dirs ≤ 1)
    (files : now.files + before.files ≡ counts.files + after.files) (dirs : now.dirs + before.dirs ≡ counts.dirs + after.dirs) (places_left : places ≤ left + 1) where
  files_now : now.files ≡ (counts_of (with_changed_name (shown_names f) name mark.inode)).files
  files_now =
      let law : (counts_of (with_changed_name (shown_names f) name mark.inode)).files + (counted (map.get (shown_names f) name)).files ≡ (counts_of (shown_names f)).files + (counted mark.inode).files = files_marked (shown_names f) name mark.inode in
      let same : before.files ≡ (counted (map.get (shown_names f) name)).files = ap (λ (c : EntryCounts). c.files) was in
      let new : after.files ≡ (counted mark.inode).files = ap (λ (c : EntryCounts). c.files) is in
      let old : counts.files ≡ (counts_of (shown_names f)).files = ap (λ (c : EntryCounts). c.files) kept.counted in
      omega (arith, law, same, new, old, files)

  dirs_now : now.dirs ≡ (counts_of (with_changed_name (shown_names f) name mark.inode)).dirs
  dirs_now =
      let law : (counts_of (with_changed_name (shown_names f) name mark.inode)).dirs + (counted (map.get (shown_names f) name)).dirs ≡ (counts_of (shown_names f)).dirs + (counted mark.inode).dirs = dirs_marked (shown_names f) name mark.inode in
      let same : before.dirs ≡ (counted (map.get (shown_names f) name)).dirs = ap (λ (c : EntryCounts). c.dirs) was in
      let new : after.dirs ≡ (counted mark.inode).dirs = ap (λ (c : EntryCounts). c.dirs) is in
      let old : counts.dirs ≡ (counts_of (shown_names f)).dirs = ap (λ (c : EntryCounts). c.dirs) kept.counted in
      omega (arith, law, same, new, old, dirs)

  counted_now : now ≡ counts_of (shown_names (marked f name mark))
  counted_now = (λ i. record { files = files_now i; dirs = dirs_now i }) ∙ ap counts_of (sym (shown_marked f name mark))

  pub kept_marked : (new : Marks) → new ≡ map.insert f.dirty name mark → IsCachedWith (record { base = f.base; generation = f.generation; clean = f.clean; dirty = new; room = f.room - 1; places = f.places }) now left
  kept_marked new same =
      let few : counts.files + counts.dirs + f.room < 2 ^ 64 = kept.few in
      let reserved : f.room ≤ places = kept.reserved in
      record {
        based = kept.based;
        entries = kept.entries;
        dirty = one_dirty f.dirty new name mark kept.dirty dirty same;
        counted = counted_now ∙ sym (ap (λ (d : Marks). counts_of (shown_names (record { base = f.base; generation = f.generation; clean = f.clean; dirty = d; room = f.room - 1; places = f.places }))) same);
        few = omega (arith, few, files, dirs, one, room);
        reserved = omega (arith, reserved, places_left, room);
      }

pub kept_reserved : (f : Cached) (counts : EntryCounts) (places more changes : ℕ) (dirty : Marks) → IsCachedWith f counts places → dirty ≡ f.dirty → counts.files + counts.dirs + changes < 2 ^ 64 → changes ≤ more
    → IsCachedWith (record { base = f.base; generation = f.generation; clean = f.clean; dirty = dirty; room = changes; places = f.places }) counts more
kept_reserved f counts places more changes dirty kept same few enough =
    record {
      based = kept.based;
      entries = kept.entries;
      dirty = subst AreDirtyNames (sym same) kept.dirty;
      counted = kept.counted ∙ sym (ap (λ (d : Marks). counts_of (shown_names (record { base = f.base; generation = f.generation; clean = f.clean; dirty = d; room = changes; places = f.places }))) same);
      few = few;
      reserved = enough;
    }

pub kept_places : (f : Cached) (counts : EntryCounts) (places free : ℕ) (clean : Names) → IsCachedWith f counts places → clean ≡ f.clean
    → IsCachedWith (record { base = f.base; generation = f.generation; clean = clean; dirty = f.dirty; room = f.room; places = free }) counts places
kept_places f counts places free clean kept same =
    record {
      based = subst (IsBased f.base) (sym same) kept.based;
      entries = subst AreEntries (sym same) kept.entries;
      dirty = kept.dirty;
      counted = kept.counted ∙ sym (ap (λ (n : Names). counts_of (shown_over f.base n f.dirty)) same);
      few = kept.few;
      reserved = kept.reserved;
    }

pub kept_stored : (version : ℕ) (clean : Names) (dirty : Marks) (places free : ℕ) (counts : EntryCounts) → AreEntries clean → dirty ≡ map.empty → counts ≡ counts_of clean → counts.files + counts.dirs < 2 ^ 64
    → IsCachedWith (record { base = Stored version; generation = 0; clean = clean; dirty = dirty; room = 0; places = free }) counts places
kept_stored version clean dirty places free counts entries none counted few =
    record {
      based = tt;
      entries = entries;
      dirty = none_dirty dirty none;
      counted = counted ∙ sym (ap counts_of (only_below clean dirty none));
      few = omega (arith, few);
      reserved = omega arith;
    }

-- the counts are those of all names that are shown
pub kept_len : (f : Cached) (counts : EntryCounts) (places : ℕ) → IsCachedWith f counts places → counts.files + counts.dirs ≡ map.len (shown_names f)
kept_len f counts places kept =
    let files : counts.files ≡ (counts_of (shown_names f)).files = ap (λ (c : EntryCounts). c.files) kept.counted in
    let dirs : counts.dirs ≡ (counts_of (shown_names f)).dirs = ap (λ (c : EntryCounts). c.dirs) kept.counted in
    omega (arith, files, dirs, all_counted (shown_names f))
