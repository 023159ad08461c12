-- The children of a fragment: made one after the other, with room for their names, and taking them.
use Rattle.dentry_cache.proofs.Common.{AreChildren, AreNumbered, AreReady, Bool, Cached, Each, EachThen, Fragment, Fresh, Grows, Inode, IsBare, IsCachedChild, IsReadyPart, List, Mark, Names, None, Option, Part, Puts, NamedInode, Some, [], ap, arith, bare, child_of, cond, dirty_step, false, filter, get-empty, hash_of, holds, key_cmp, length, marked_as, names_in, nothing_shown, one_map, refl, shown_names, shown_as, shown_step, slice_index_or, suc, sym, true, zero, ℕ, ◌++◌, ◌+◌, ◌-◌, ◌<◌, ◌^◌, ◌∙◌, ◌∷◌, ◌≡◌, ◌≤◌}
use Rattle.std.specs.FinMap as map
use Rattle.dentry_cache.proofs.NameParts.{empty_in, held_in, len_in, len_removed, removed_beside, removed_in}

-- ---- one child more

pub each_pushed : (P : ℕ → Part → Type 0) (parts : List Part) (part : Part) → Each P parts → P (length parts) part → Each P (parts ++ part ∷ [])
each_pushed P [] part each here zero d within = here
each_pushed P [] part each here (suc i) d within = absurd (omega (arith, within))
each_pushed P (x ∷ xs) part each here zero d within = each zero d (omega arith)
each_pushed P (x ∷ xs) part each here (suc i) d within = each_pushed (λ (k : ℕ). P (suc k)) xs part (λ j e less. each (suc j) e (omega (arith, less))) here i d (omega (arith, within))

pub bare_here : (frag : Fragment) (nb generation i n m : ℕ) (child : Fragment) (f : Cached) → n ≡ i → child ≡ child_of frag i nb → m ≡ i → f ≡ bare (generation + m) 0 → IsBare frag nb generation n (record { frag = child; fragment = f })
bare_here frag nb generation i n m child f place is number made =
    let numbers : generation + m ≡ generation + n = omega (arith, place, number) in
    let room : 0 ≡ f.room = sym (ap (λ (g : Cached). g.room) made) in
    record {
      child = is ∙ ap (λ (k : ℕ). child_of frag k nb) (sym place);
      none = made ∙ (λ j. bare (numbers j) (room j));
    }

-- ---- room for each name

-- how many of these rows a fragment contains
abbrev pub count_in : Fragment → List NamedInode → ℕ
count_in frag rows = length (filter (λ (row : NamedInode). holds frag (hash_of row.0)) rows)

-- a child with room for those that were passed
pub record IsRoomy (frag : Fragment) (nb generation : ℕ) (all left : List NamedInode) (i : ℕ) (part : Part) : Type 0 where
  pub child : part.frag ≡ child_of frag i nb
  pub none : part.fragment ≡ bare (generation + i) part.fragment.room
  pub room : count_in (child_of frag i nb) all ≤ part.fragment.room + count_in (child_of frag i nb) left

pub first_roomy : (frag : Fragment) (nb generation : ℕ) (all left : List NamedInode) (i : ℕ) (part : Part) → left ≡ all → IsBare frag nb generation i part → IsRoomy frag nb generation all left i part
first_roomy frag nb generation all left i part is b =
    let same : count_in (child_of frag i nb) left ≡ count_in (child_of frag i nb) all = ap (count_in (child_of frag i nb)) is in
    record { child = b.child; none = b.none; room = omega (arith, same) }

counted : (b : Bool) (rest : ℕ) (row : NamedInode) (rows : List NamedInode) → length rows ≡ rest → length (cond b (row ∷ rows) rows) ≡ cond b 1 0 + rest
counted true rest row rows is = omega (arith, is)
counted false rest row rows is = omega (arith, is)

pub roomy_step : (frag : Fragment) (nb generation : ℕ) (all left rest : List NamedInode) (row : NamedInode) (i : ℕ) (old now : Part) (here : Bool) → left ≡ row ∷ rest → holds (child_of frag i nb) (hash_of row.0) ≡ here → Grows here old now
    → IsRoomy frag nb generation all left i old → IsRoomy frag nb generation all rest i now
roomy_step frag nb generation all left rest row i old now here is holds_it grows r =
    let child : Fragment = child_of frag i nb in
    let passed : count_in child left ≡ cond {A = ℕ} here 1 0 + count_in child rest =
    ap (count_in child) is ∙ counted (holds child (hash_of row.0)) (count_in child rest) row (filter (λ (row : NamedInode). holds child (hash_of row.0)) rest) refl ∙ ap (λ (b : Bool). cond {A = ℕ} b 1 0 + count_in child rest) holds_it in
    let generation_is : now.fragment.generation ≡ generation + i = ap (λ (f : Cached). f.generation) grows.same ∙ ap (λ (f : Cached). f.generation) r.none in
    record {
      child = grows.frag ∙ r.child;
      none = grows.same ∙ ap (λ (f : Cached). record { base = f.base; generation = f.generation; clean = f.clean; dirty = f.dirty; room = now.fragment.room; places = f.places }) r.none;
      room = omega (arith, r.room, passed, grows.room);
    }

-- so once all were passed
module _ (frag : Fragment) (nb generation : ℕ) (names : Names) (left : List NamedInode) (parts : List Part) (none : left ≡ []) (each : Each (IsRoomy frag nb generation (map.entries names) left) parts) where
  pub ready : length parts ≡ 2 ^ nb → AreReady frag nb names parts
  ready count = record { count = count; each = λ i d within. go i d (each i d within) }
    where
      go : (i : ℕ) (d : Part) → IsRoomy frag nb generation (map.entries names) left i (slice_index_or parts i d) → IsReadyPart frag nb names i (slice_index_or parts i d)
      go i d r =
          let part : Part = slice_index_or parts i d in
          let number : part.fragment.generation ≡ generation + i = ap (λ (f : Cached). f.generation) r.none in
          let zero_left : count_in (child_of frag i nb) left ≡ 0 = ap (count_in (child_of frag i nb)) none in
          let all : map.len (names_in (child_of frag i nb) names) ≡ count_in (child_of frag i nb) (map.entries names) = len_in (child_of frag i nb) names in
          record {
            child = r.child;
            none = r.none ∙ ap (λ (n : ℕ). bare n part.fragment.room) (sym number);
            room = omega (arith, r.room, zero_left, all);
          }

  pub numbered : AreNumbered generation parts
  numbered i d within = ap (λ (f : Cached). f.generation) (each i d within).none

-- ---- names that come in

-- a child that has those names which were given
pub record IsFilling (frag : Fragment) (nb : ℕ) (names left : Names) (version i : ℕ) (was part : Part) : Type 0 where
  pub child : part.frag ≡ child_of frag i nb
  pub base : part.fragment.base ≡ Fresh
  pub number : part.fragment.generation ≡ was.fragment.generation
  pub dirty : (q : List ℕ) → marked_as version (map.get (names_in (child_of frag i nb) left) q) (map.get part.fragment.dirty q) ≡ marked_as version (map.get (names_in (child_of frag i nb) names) q) None
  pub shows : (q : List ℕ) → shown_as (map.get (names_in (child_of frag i nb) left) q) (map.get (shown_names part.fragment) q) ≡ shown_as (map.get (names_in (child_of frag i nb) names) q) None
  pub room : map.len (names_in (child_of frag i nb) left) ≤ part.fragment.room

pub first_filling : (frag : Fragment) (nb : ℕ) (names : Names) (version i : ℕ) (part : Part) → IsReadyPart frag nb names i part → IsFilling frag nb names names version i part part
first_filling frag nb names version i part r =
    record {
      child = r.child;
      base = ap (λ (f : Cached). f.base) r.none;
      number = refl;
      dirty = λ q. ap (marked_as version (map.get (names_in (child_of frag i nb) names) q)) (ap (λ (f : Cached). map.get f.dirty q) r.none ∙ get-empty key_cmp q);
      shows = λ q. ap (shown_as (map.get (names_in (child_of frag i nb) names) q)) (ap (λ (f : Cached). map.get (shown_names f) q) r.none ∙ ap (λ (n : Names). map.get n q) (nothing_shown map.empty refl) ∙ get-empty key_cmp q);
      room = r.room;
    }

module _ (frag : Fragment) (nb : ℕ) (names left rest : Names) (pair : List ℕ × Inode) (version i : ℕ) (was old now : Part) (there : map.get left pair.0 ≡ Some pair.1) (removed : rest ≡ map.remove left pair.0) (f : IsFilling frag nb names left version i was old) where
  abbrev child : Fragment
  child = child_of frag i nb

  abbrev mark : Mark
  mark = record { version = version; inode = Some pair.1 }

  less : names_in child rest ≡ map.remove (names_in child left) pair.0
  less = ap (names_in child) removed ∙ removed_in child left pair.0

  -- there is room for one that it contains
  pub room_there : holds child (hash_of pair.0) ≡ true → 0 < old.fragment.room
  room_there here =
      let one : map.len (map.remove (names_in child left) pair.0) + 1 ≡ map.len (names_in child left) = len_removed (names_in child left) pair.0 pair.1 (held_in child left pair.0 here ∙ there) in
      omega (arith, one, f.room)

  pub filling_step : (here : Bool) → holds child (hash_of pair.0) ≡ here → Puts pair.0 mark here old now → IsFilling frag nb names rest version i was now
  filling_step true is put =
      let found : map.get (names_in child left) pair.0 ≡ Some pair.1 = held_in child left pair.0 is ∙ there in
      let one : map.len (map.remove (names_in child left) pair.0) + 1 ≡ map.len (names_in child left) = len_removed (names_in child left) pair.0 pair.1 found in
      let fewer : map.len (names_in child rest) ≡ map.len (map.remove (names_in child left) pair.0) = ap (λ (m : Names). map.len m) less in
      let room : now.fragment.room ≡ old.fragment.room - 1 = ap (λ (g : Cached). g.room) put.1 in
      record {
        child = put.0 ∙ f.child;
        base = ap (λ (g : Cached). g.base) put.1 ∙ f.base;
        number = ap (λ (g : Cached). g.generation) put.1 ∙ f.number;
        dirty = λ q. dirty_step (names_in child left) (names_in child rest) pair found less old.fragment now.fragment version put.1 q ∙ f.dirty q;
        shows = λ q. shown_step (names_in child left) (names_in child rest) pair found less old.fragment now.fragment version put.1 q ∙ f.shows q;
        room = omega (arith, one, fewer, room, f.room);
      }
  filling_step false is put =
      let same : names_in child rest ≡ names_in child left = ap (names_in child) removed ∙ removed_beside child left pair.0 is in
      let room : now.fragment.room ≡ old.fragment.room = ap (λ (p : Part). p.fragment.room) put in
      let fewer : map.len (names_in child rest) ≡ map.len (names_in child left) = ap (λ (m : Names). map.len m) same in
      record {
        child = ap (λ (p : Part). p.frag) put ∙ f.child;
        base = ap (λ (p : Part). p.fragment.base) put ∙ f.base;
        number = ap (λ (p : Part). p.fragment.generation) put ∙ f.number;
        dirty = λ q. (λ j. marked_as version (map.get (same j) q) (map.get (put j).fragment.dirty q)) ∙ f.dirty q;
        shows = λ q. (λ j. shown_as (map.get (same j) q) (map.get (shown_names (put j).fragment) q)) ∙ f.shows q;
        room = omega (arith, fewer, room, f.room);
      }

-- all were given
shown_or : (o : Option Inode) → shown_as o None ≡ o
shown_or (Some inode) = refl
shown_or None = refl

pub filled_child : (frag : Fragment) (nb : ℕ) (names left : Names) (version i : ℕ) (was part : Part) → ((q : List ℕ) → map.get left q ≡ None) → IsFilling frag nb names left version i was part
    → IsCachedChild (child_of frag i nb) names was.fragment.generation version part.fragment
filled_child frag nb names left version i was part none f =
    let child : Fragment = child_of frag i nb in
    record {
      fresh = f.base;
      numbered = f.number;
      shows = one_map _ _ (λ q. sym (ap (λ (o : Option Inode). shown_as o (map.get (shown_names part.fragment) q)) (empty_in child left none q)) ∙ f.shows q ∙ shown_or (map.get (names_in child names) q));
      dirty = λ q. sym (ap (λ (o : Option Inode). marked_as version o (map.get part.fragment.dirty q)) (empty_in child left none q)) ∙ f.dirty q;
    }

pub are_children : (frag : Fragment) (nb : ℕ) (names left : Names) (version : ℕ) (ready made : List Part) → length made ≡ length ready → ((q : List ℕ) → map.get left q ≡ None) → EachThen (IsFilling frag nb names left version) ready made
    → AreChildren frag nb names version ready made
are_children frag nb names left version ready made count none each =
    record {
      count = count;
      child = λ i d within. (each i d (omega (arith, within, count))).child;
      each = λ i d within. filled_child frag nb names left version i (slice_index_or ready i d) (slice_index_or made i d) none (each i d (omega (arith, within, count)));
    }
