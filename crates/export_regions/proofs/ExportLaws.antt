-- What an export hands over of the leaves that were picked, and that it may be sent.
use Rattle.export_regions.proofs.Common.{AllByRecursion, AreAtTheirRank, AreBetween, AreCaches, AreLive, AreSent, Bool, CacheMap, Cached, Covers, Dirfrag, Equal, Export, Greater, HasCached, Homes, IsExportFrom, IsExportOf, IsLive, IsTable, Leaf, Less, List, MaySend, MaySendAll, None, Option, Ordering, Picks, Rank, SentFrag, Some, T, UncleanLeaves, Unsaved, [], and_from, ap, arith, below_all, cond, entries_sorted, eq_by_cmp, false, find, gathered, get-entries, get_tabulate, here, inl, inr, is_apart, is_clean, is_eq, is_frag_before, is_fragment, is_lt, is_sendable, is_sent_frag, is_some, is_sorted, key_itself, leaf-exact, leaf-total, leaf_cmp, leaf_is, left_of, len-empty, len-entries, len-insert, length, length-map, list_all, list_any, nat_lt, nat_tests, not, one_leaf, option_map, order, places_at, refl, right_of, rise, same_Some, same_map, same_or_apart, sent_from, sent_of, subst, suc, sym, tabulate, tied_apart, true, unclean, unclean_in, values, with_some, ℕ, ◌&&◌, ◌+◌, ◌<◌, ◌^◌, ◌||◌, ◌∙◌, ◌∷◌, ◌≡◌, ◌≤◌, ◌⊎◌}
use Rattle.std.specs.FinMap as map
use Rattle.export_regions.proofs.PickLaws.{passing_picked, picked_passes}
use Rattle.export_regions.proofs.RiseLaws.{IsOfLeaf, all_rise}
use Rattle.export_regions.proofs.WhereLaws.{IsHere, here_of, unsaved_here}

get_gathered : (c : CacheMap) (r : ℕ) (leaves : List Leaf) (q : Leaf) → map.get (gathered c r leaves) q ≡ cond (list_any (leaf_is q) leaves) (option_map (sent_from q) (here c r q)) None
get_gathered c r leaves q = get_tabulate (λ (leaf : Leaf). option_map (sent_from leaf) (here c r leaf)) leaves q

-- ---- it is what isn't clean of the region

module _ (In : Leaf → Type 0) (c : CacheMap) (r : ℕ) (home : AreAtTheirRank In c r) (valid : AreCaches c) (leaves : List Leaf) (picks : Picks In unclean_in (places_at c r) leaves) where
  dirty_in : (o : Option Cached) → unclean_in o ≡ true → (f : Cached) × (o ≡ Some f) × (is_clean f ≡ false)
  dirty_in None is = let clash : false ≡ true = is in absurd cc
  dirty_in (Some f) is = (f, refl, flip (is_clean f) is)
    where
      flip : (b : Bool) → not b ≡ true → b ≡ false
      flip false is = refl
      flip true is = let clash : false ≡ true = is in absurd cc

  -- a leaf that was picked
  picked_is : (q : Leaf) → list_any (leaf_is q) leaves ≡ true → option_map (sent_from q) (here c r q) ≡ option_map (sent_of q) (map.get (unclean c) q)
  picked_is q among =
      let passes = picked_passes In unclean_in c r (order c r) leaves picks q among in
      let d = dirty_in (here c r q) passes.0 in
      ap (option_map (sent_from q)) d.1 ∙ sym (ap (option_map (sent_of q)) (unsaved_here c r q d.0 d.1 d.2))

  -- one that wasn't
  other_is : (q : Leaf) → In q → list_any (leaf_is q) leaves ≡ false → (o : Option Unsaved) → map.get (unclean c) q ≡ o → None ≡ option_map (sent_of q) o
  other_is q within among None is = refl
  other_is q within among (Some u) is = let clash : false ≡ true = sym among ∙ picked (here_of In c r home q u within is) in absurd cc
    where
      picked : IsHere In c r home q u → list_any (leaf_is q) leaves ≡ true
      picked h =
          passing_picked In unclean_in c r (order c r) leaves picks q (valid.placed r q (ap (λ (o : Option Cached). is_some o) h.seen)) (ap unclean_in h.seen ∙ ap not h.dirty) within

  are_sent : AreSent In (unclean c) (gathered c r leaves)
  are_sent = record { all = λ q within. get_gathered c r leaves q ∙ go q within (list_any (leaf_is q) leaves) refl; only = λ q frag is. some q frag (list_any (leaf_is q) leaves) refl (sym (get_gathered c r leaves q) ∙ is) }
    where
      go : (q : Leaf) → In q → (b : Bool) → list_any (leaf_is q) leaves ≡ b → cond b (option_map (sent_from q) (here c r q)) None ≡ option_map (sent_of q) (map.get (unclean c) q)
      go q within true among = picked_is q among
      go q within false among = other_is q within among (map.get (unclean c) q) refl

      some : (q : Leaf) (frag : SentFrag) (b : Bool) → list_any (leaf_is q) leaves ≡ b → cond b (option_map (sent_from q) (here c r q)) None ≡ Some frag → In q
      some q frag true among is = (picked_passes In unclean_in c r (order c r) leaves picks q among).1
      some q frag false among is = let clash : None ≡ Some frag = is in absurd cc

  pub is_export : (root : Dirfrag) (to : Rank) (export : Export) → root.rank.0 ≡ r → IsExportFrom c leaves root to export → IsExportOf In (unclean c) root to export
  is_export root to export same is = record {
    ino = is.ino;
    frag = is.frag;
    exporter = is.exporter;
    importer = is.importer;
    sent = gathered c r leaves;
    are = are_sent;
    frags = is.frags ∙ ap (λ (n : ℕ). values (gathered c n leaves)) same;
  }

-- ---- one export alone is that of a region

pub one_export : (In : Leaf → Type 0) (m : UncleanLeaves) (root : Dirfrag) (to : Rank) (a b : Export) → IsExportOf In m root to a → IsExportOf In m root to b → a ≡ b
one_export In m root to a b of_a of_b =
    let same : of_a.sent ≡ of_b.sent = same_map leaf-total leaf-exact of_a.sent of_b.sent (λ q. alike q (map.get of_a.sent q) refl (map.get of_b.sent q) refl) in
    let ino : a.ino ≡ b.ino = of_a.ino ∙ sym of_b.ino in
    let frag : a.frag ≡ b.frag = of_a.frag ∙ sym of_b.frag in
    let exporter : a.exporter ≡ b.exporter = of_a.exporter ∙ sym of_b.exporter in
    let importer : a.importer ≡ b.importer = of_a.importer ∙ sym of_b.importer in
    let frags : a.frags ≡ b.frags = of_a.frags ∙ ap values same ∙ sym of_b.frags in
    λ i. record { ino = ino i; frag = frag i; exporter = exporter i; importer = importer i; frags = frags i }
  where
    alike : (q : Leaf) (x : Option SentFrag) → map.get of_a.sent q ≡ x → (y : Option SentFrag) → map.get of_b.sent q ≡ y → map.get of_a.sent q ≡ map.get of_b.sent q
    alike q None at_a None at_b = at_a ∙ sym at_b
    alike q (Some s) at_a y at_b = let within = of_a.are.only q s at_a in of_a.are.all q within ∙ sym (of_b.are.all q within)
    alike q None at_a (Some s) at_b = let within = of_b.are.only q s at_b in of_a.are.all q within ∙ sym (of_b.are.all q within)

-- ---- it may be sent

-- each entry of a map is found
none_below : {X : Type 0} (q : Leaf) (es : List (Leaf × X)) → T (below_all leaf_cmp q es) → find leaf_cmp q es ≡ None
none_below q [] below = refl
none_below q (e ∷ es) below = ap (λ (b : Bool). cond b (Some e.1) (find leaf_cmp q es)) (apart (leaf_cmp q e.0) (left_of _ _ below)) ∙ none_below q es (right_of _ _ below)
  where
    apart : (o : Ordering) → T (is_lt o) → is_eq o ≡ false
    apart Less p = refl
    apart Equal p = absurd p
    apart Greater p = refl

each_found : {X : Type 0} (P : Leaf → X → Type 0) (es : List (Leaf × X)) → T (is_sorted leaf_cmp es) → ((q : Leaf) (x : X) → find leaf_cmp q es ≡ Some x → P q x) → AllByRecursion (λ (e : Leaf × X). P e.0 e.1) es
each_found P [] sorted each = tt
each_found {X} P (e ∷ es) sorted each = (
  each e.0 e.1 (ap (λ (b : Bool). cond b (Some e.1) (find leaf_cmp e.0 es)) (key_itself e.0)),
  each_found P es (right_of _ _ sorted) (λ q x found. each q x (behind q x found (same_or_apart q e.0))),
)
  where
    behind : (q : Leaf) (x : X) → find leaf_cmp q es ≡ Some x → (q ≡ e.0) ⊎ (q ≡ e.0 → ⊥) → cond (eq_by_cmp leaf_cmp q e.0) (Some e.1) (find leaf_cmp q es) ≡ Some x
    behind q x found (inl same) = let clash : None ≡ Some x = sym (ap (λ (l : Leaf). find leaf_cmp l es) same ∙ none_below e.0 es (left_of _ _ sorted)) ∙ found in absurd cc
    behind q x found (inr apart) = ap (λ (b : Bool). cond b (Some e.1) (find leaf_cmp q es)) (tied_apart q e.0 apart) ∙ found

pub each_entry : {X : Type 0} (P : Leaf → X → Type 0) (m : map.FinMap leaf_cmp X) → ((q : Leaf) (x : X) → map.get m q ≡ Some x → P q x) → AllByRecursion (λ (e : Leaf × X). P e.0 e.1) (map.entries m)
each_entry P m each = each_found P (map.entries m) (entries_sorted m) (λ q x found. each q x (get-entries m q ∙ found))

-- no more than there are leaves
few_tabulated : {X : Type 0} (f : Leaf → Option X) (ks : List Leaf) → map.len (tabulate f ks) ≤ length ks
few_tabulated {X} f [] = let none : map.len (tabulate f []) ≡ 0 = len-empty leaf_cmp X in omega (arith, none)
few_tabulated {X} f (k ∷ ks) = go (f k) (few_tabulated f ks)
  where
    one : (b : Bool) (n m : ℕ) → n ≤ m → cond b n (n + 1) ≤ suc m
    one true n m le = omega (arith, le)
    one false n m le = omega (arith, le)

    go : (o : Option X) → map.len (tabulate f ks) ≤ length ks → map.len (with_some (tabulate f ks) k o) ≤ suc (length ks)
    go None le = omega (arith, le)
    go (Some x) le = subst (λ (n : ℕ). n ≤ suc (length ks)) (sym (len-insert leaf-total (tabulate f ks) k x)) (one (map.contains_key (tabulate f ks) k) (map.len (tabulate f ks)) (length ks) le)

module _ (homes : Homes) (covers : Covers) (table : IsTable homes covers) (c : CacheMap) (r : ℕ) (leaves : List Leaf) (may : MaySendAll c r leaves) (live : AreLive homes covers (unclean c)) where
  of_all : (q : Leaf) (xs : List Leaf) → AllByRecursion (λ (leaf : Leaf). HasCached (here c r leaf) MaySend) xs → list_any (leaf_is q) xs ≡ true → HasCached (here c r q) MaySend
  of_all q [] all is = let clash : false ≡ true = is in absurd cc
  of_all q (x ∷ xs) all is = go (λ among. of_all q xs all.1 among) (leaf_is q x) refl is
    where
      go : (list_any (leaf_is q) xs ≡ true → HasCached (here c r q) MaySend) → (b : Bool) → leaf_is q x ≡ b → (b || list_any (leaf_is q) xs) ≡ true → HasCached (here c r q) MaySend
      go behind true one is = subst (λ (l : Leaf). HasCached (here c r l) MaySend) (sym (one_leaf q x one)) all.0
      go behind false one is = behind is

  live_at : (q : Leaf) (o : Option Cached) → here c r q ≡ o → HasCached o MaySend → IsLive homes covers q
  live_at q None seen is = absurd is
  live_at q (Some f) seen is = live q (ap (λ (o : Option Unsaved). is_some o) (unsaved_here c r q f seen is.unclean))

  of_leaf : (q : Leaf) (frag : SentFrag) → map.get (gathered c r leaves) q ≡ Some frag → IsOfLeaf homes covers table (q, frag)
  of_leaf q frag is = go (list_any (leaf_is q) leaves) refl (here c r q) refl (sym (get_gathered c r leaves q) ∙ is)
    where
      go : (b : Bool) → list_any (leaf_is q) leaves ≡ b → (o : Option Cached) → here c r q ≡ o → cond b (option_map (sent_from q) o) None ≡ Some frag → IsOfLeaf homes covers table (q, frag)
      go false among o seen is = let clash : None ≡ Some frag = is in absurd cc
      go true among None seen is = let clash : None ≡ Some frag = is in absurd cc
      go true among (Some f) seen is =
          let same : sent_from q f ≡ frag = same_Some (sent_from q f) frag is in
          record { ino = ap (λ (s : SentFrag). s.ino) (sym same); frag = ap (λ (s : SentFrag). s.frag) (sym same); live = live_at q (here c r q) refl (of_all q leaves may among) }

  rises : rise is_frag_before None (values (gathered c r leaves)) ≡ true
  rises = all_rise homes covers table (map.entries (gathered c r leaves)) (entries_sorted (gathered c r leaves)) (each_entry (λ q frag. IsOfLeaf homes covers table (q, frag)) (gathered c r leaves) of_leaf)

  pub sendable : (root : Dirfrag) (to : Rank) (frags : List SentFrag) → length leaves ≤ 65536 → AreBetween root.rank to → (nat_lt root.dir.0 (2 ^ 64) && is_fragment root.frag) ≡ true → frags ≡ values (gathered c r leaves) → list_all is_sent_frag frags ≡ true
      → is_sendable (record { ino = root.dir; frag = root.frag; exporter = root.rank; importer = to; frags = frags }) ≡ true
  sendable root to frags few between of_root are sent =
      and_from _ _ of_root (and_from _ _ (and_from _ _ first (and_from _ _ second (ap not (is_apart root.rank.0 to.0 between.apart)))) (and_from _ _ counted (and_from _ _ (ap (rise is_frag_before None) are ∙ rises) sent)))
    where
      below : (n m : ℕ) → n < m → nat_lt n m ≡ true
      below n m lt = grind (arith, nat_tests, lt)

      first : nat_lt root.rank.0 16 ≡ true
      first = below root.rank.0 16 between.from_some

      second : nat_lt to.0 16 ≡ true
      second = below to.0 16 between.to_some

      counted : nat_lt (length frags) (2 ^ 32) ≡ true
      counted =
          let many : length frags ≡ length (map.entries (gathered c r leaves)) = ap (λ (xs : List SentFrag). length xs) are ∙ length-map (map.entries (gathered c r leaves)) (λ (e : Leaf × SentFrag). e.1) in
          let as_many : map.len (gathered c r leaves) ≡ length (map.entries (gathered c r leaves)) = len-entries (gathered c r leaves) in
          let most : map.len (gathered c r leaves) ≤ length leaves = few_tabulated (λ (leaf : Leaf). option_map (sent_from leaf) (here c r leaf)) leaves in
          below (length frags) (2 ^ 32) (omega (arith, many, as_many, most, few))
