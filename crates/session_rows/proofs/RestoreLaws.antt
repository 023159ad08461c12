-- All rows are read, one after the other.
use Rattle.session_rows.proofs.Common.{AllByRecursion, Bool, Err, IsErrAnd, List, None, Ok, Result, Some, [], ap, cond, false, inl, length, refl, subst, suc, sym, true, zero, ℕ, ◌∙◌, ◌∷◌, ◌≡◌}
use Rattle.std.proofs.Common.{T, get_or}
use Rattle.std.specs.Cmp.{tied_itself}
use Rattle.std.specs.Cmp.Lexicographic.{nat_list_cmp_total}
use Rattle.std.specs.FinMap as finmap
use Rattle.std.specs.FinMap.{entries_sorted, get-empty, get-insert, is_sorted}
use Rattle.std.specs.FinMap.Entries.{below_all}
use Rattle.std.specs.Ordering.{eq_by_cmp, is_eq, is_lt, ordering_reverse}
use Rattle.std.specs.declared.cmp.Ordering.{Ordering}
use Rattle.std.specs.declared.cmp.Ordering.TheVariants.{Equal, Greater, Less}
use Rattle.sorted_map.proofs.Bools.{left_of, right_of}
use Rattle.sorted_map.proofs.OverlayLaws.{overlaid_none}
use Rattle.sorted_map.specs.Overlay.{overlaid, with_pairs}
use Rattle.objstore.specs.Omap.{key_cmp}
use Rattle.keeping.specs.Rows.{SessionRows}
use Rattle.sessions.proofs.RestoredLaws.{restored_none}
use Rattle.sessions.specs.Restored.{IsRestored}
use Rattle.sessions.specs.Rooms.{HeldSessions, table}
use Rattle.sessions.specs.Table.{no_table}
use Rattle.session_rows.specs.Keys.{client_bytes, rank_bytes}
use Rattle.session_rows.specs.Restoring.{IsRestoredOf, MayRead, ReadsMore, RefusesRow, RefusesRows, RestoresRows}
use Rattle.session_rows.specs.Sessions.{SpellsSessions, rank_value}
use Rattle.session_rows.specs.declared.restoring.Restored.{Restored}
use Rattle.session_rows.specs.declared.rows_faults.RowsFault.{RowsFault}

abbrev Pair : Type 0
Pair = List ℕ × List ℕ

-- ---- keys that rise

apart : (a b : List ℕ) → T (is_lt (key_cmp a b)) → eq_by_cmp key_cmp a b ≡ false
apart a b low = go (key_cmp a b) low
  where
    go : (o : Ordering) → T (is_lt o) → is_eq o ≡ false
    go Less p = refl
    go Equal p = absurd p
    go Greater p = absurd p

turned : (a b : List ℕ) → T (is_lt (key_cmp a b)) → eq_by_cmp key_cmp b a ≡ false
turned a b low = ap is_eq (nat_list_cmp_total.antisymm b a) ∙ go (key_cmp a b) low
  where
    go : (o : Ordering) → T (is_lt o) → is_eq (ordering_reverse o) ≡ false
    go Less p = refl
    go Equal p = absurd p
    go Greater p = absurd p

-- pairs of greater keys leave the value of a key
got_behind : (m : SessionRows) (key : List ℕ) (es : List Pair) → T (below_all key_cmp key es) → finmap.get (with_pairs m es) key ≡ finmap.get m key
got_behind m key [] below = refl
got_behind m key (e ∷ es) below =
    got_behind (finmap.insert m e.0 e.1) key es (right_of _ _ below) ∙ get-insert nat_list_cmp_total m e.0 e.1 key ∙ ap (λ (b : Bool). cond b (Some e.1) (finmap.get m key)) (apart key e.0 (left_of _ _ below))

abbrev AreFresh : SessionRows → List Pair → Type 0
AreFresh so es = AllByRecursion (λ (e : Pair). finmap.get so e.0 ≡ None) es

fresh_still : (so : SessionRows) (key value : List ℕ) (es : List Pair) → T (below_all key_cmp key es) → AreFresh so es → AreFresh (finmap.insert so key value) es
fresh_still so key value [] below fresh = tt
fresh_still so key value (e ∷ es) below (first, fresh) =
    (get-insert nat_list_cmp_total so key value e.0 ∙ ap (λ (b : Bool). cond b (Some value) (finmap.get so e.0)) (turned key e.0 (left_of _ _ below)) ∙ first, fresh_still so key value es (right_of _ _ below) fresh)

all_fresh : (es : List Pair) → AreFresh finmap.empty es
all_fresh [] = tt
all_fresh (e ∷ es) = (get-empty key_cmp e.0, all_fresh es)

-- ---- the rows so far

pub record IsReadSoFar (rows : SessionRows) (read : Restored) (rest : List Pair) : Type 0 where
  pub so : SessionRows
  pub known : IsRestoredOf so read
  pub whole : with_pairs so rest ≡ rows
  pub sorted : T (is_sorted key_cmp rest)
  pub fresh : AreFresh so rest

all_put : (rows : SessionRows) → with_pairs finmap.empty (finmap.entries rows) ≡ rows
unfolding overlaid
all_put rows = overlaid_none nat_list_cmp_total rows finmap.empty refl

pub none_spelled : (nexts : List ℕ) → length nexts ≡ 16 → ((i : ℕ) → get_or nexts i 0 ≡ 0) → SpellsSessions finmap.empty [] nexts
none_spelled nexts long none = record {
  clients = λ client fits. get-empty key_cmp (client_bytes client);
  ranks = λ rank low. get-empty key_cmp (rank_bytes rank) ∙ ap rank_value (sym (none rank.0));
  others = λ key no_key. get-empty key_cmp key;
  storable = λ client. tt;
  ranged = λ rank low. inl (none rank.0);
  long = long;
}

read_none : (rows : SessionRows) (read : Restored) (rest : List Pair) → table read.sessions ≡ no_table → read.sessions.changed ≡ [] → length read.nexts ≡ 16 → ((i : ℕ) → get_or read.nexts i 0 ≡ 0)
    → rest ≡ finmap.entries rows → IsReadSoFar rows read rest
read_none rows read rest empty unchanged long none all =
    subst (IsReadSoFar rows read) (sym all) (record {
      so = finmap.empty;
      known = record { stored = []; spelled = none_spelled read.nexts long none; restored = subst (IsRestored []) (sym empty) restored_none; unchanged = unchanged };
      whole = all_put rows;
      sorted = entries_sorted rows;
      fresh = all_fresh (finmap.entries rows);
    })

module _ (rows : SessionRows) (read : Restored) (rest after : List Pair) (key value : List ℕ) (is : IsReadSoFar rows read rest) (next : rest ≡ (key, value) ∷ after) where
  sorted : T (is_sorted key_cmp ((key, value) ∷ after))
  sorted = subst (λ (l : List Pair). T (is_sorted key_cmp l)) next is.sorted

  fresh : AreFresh is.so ((key, value) ∷ after)
  fresh = subst (AreFresh is.so) next is.fresh

  whole : with_pairs (finmap.insert is.so key value) after ≡ rows
  whole = ap (with_pairs is.so) (sym next) ∙ is.whole

  -- the next row may be read,
  pub next_may : MayRead key read
  next_may = record { rows = is.so; known = is.known; absent = fresh.0 }

  -- and then one row more was,
  pub read_one : (new : Restored) → ReadsMore key value read new → IsReadSoFar rows new after
  read_one new more = record {
    so = finmap.insert is.so key value;
    known = more is.so is.known;
    whole = whole;
    sorted = right_of _ _ sorted;
    fresh = fresh_still is.so key value after (left_of _ _ sorted) fresh.1;
  }

  eq_self : eq_by_cmp key_cmp key key ≡ true
  eq_self = ap is_eq (tied_itself nat_list_cmp_total key)

  -- or this one is refused
  pub refused_one : (fault : RowsFault) → RefusesRow key value fault → RefusesRows rows fault
  refused_one fault why = record {
    key = key;
    value = value;
    found = ap (λ (m : SessionRows). finmap.get m key) (sym whole) ∙ got_behind (finmap.insert is.so key value) key after (left_of _ _ sorted)
        ∙ get-insert nat_list_cmp_total is.so key value key ∙ ap (λ (b : Bool). cond b (Some value) (finmap.get is.so key)) eq_self;
    refused = why;
  }

pub read_all : (rows : SessionRows) (read : Restored) (rest : List Pair) → rest ≡ [] → IsReadSoFar rows read rest → IsRestoredOf rows read
read_all rows read rest e is = subst (λ (r : SessionRows). IsRestoredOf r read) (ap (with_pairs is.so) (sym e) ∙ is.whole) is.known

pub refused_all : (rows : SessionRows) (r : Result Restored RowsFault) (fault : RowsFault) → IsErrAnd r (λ f. f ≡ fault) → RefusesRows rows fault → RestoresRows rows r
refused_all rows (Ok read) fault is why = absurd is
refused_all rows (Err f) fault is why = subst (RefusesRows rows) (sym is) why

abbrev sixteen : List ℕ
sixteen = 0 ∷ 0 ∷ 0 ∷ 0 ∷ 0 ∷ 0 ∷ 0 ∷ 0 ∷ 0 ∷ 0 ∷ 0 ∷ 0 ∷ 0 ∷ 0 ∷ 0 ∷ 0 ∷ []

pub sixteen_none : (i : ℕ) → get_or sixteen i 0 ≡ 0
sixteen_none i = zeros sixteen i (refl, (refl, (refl, (refl, (refl, (refl, (refl, (refl, (refl, (refl, (refl, (refl, (refl, (refl, (refl, (refl, tt))))))))))))))))
  where
    zeros : (xs : List ℕ) (i : ℕ) → AllByRecursion (λ (x : ℕ). x ≡ 0) xs → get_or xs i 0 ≡ 0
    zeros [] i all = refl
    zeros (x ∷ xs) zero (first, all) = first
    zeros (x ∷ xs) (suc i) (first, all) = zeros xs i all

pub read_first : (rows : SessionRows) (sessions : HeldSessions) (rest : List Pair) → table sessions ≡ no_table → sessions.changed ≡ [] → rest ≡ finmap.entries rows
    → IsReadSoFar rows (record { sessions = sessions; nexts = sixteen }) rest
read_first rows sessions rest empty unchanged all = read_none rows (record { sessions = sessions; nexts = sixteen }) rest empty unchanged refl sixteen_none all

-- the pair that was taken apart
pub pair_of : (rest after : List Pair) (pair : Pair) (key value : List ℕ) → rest ≡ pair ∷ after → key ≡ pair.0 → value ≡ pair.1 → rest ≡ (key, value) ∷ after
pair_of rest after pair key value e first second = e ∙ (λ i. (sym first i, sym second i) ∷ after)
